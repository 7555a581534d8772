-- What is a sentence by some rules is one by all that agree with them where they are called.
use Rattle.std.proofs.Common.{◌≡◌, ℕ, Bool, true, ◌&&◌, List, [], ◌∷◌, ◌++◌, take, sym}
use Rattle.std.specs.Prelude.{IsTrue, ⊤}
use Rattle.std.proofs.lemmas.Bool.{and_parts}
use Rattle.tb_token.specs.grammar.Grammar.{Tok, Expression, one, both, either, maybe, many, opened, Rules}
use Rattle.tb_token.specs.grammar.Sentences.{Tree, Derives, at_end, by_one, by_both, by_first, by_second, left_out, put_in, no_more, one_more, by_rule, AreSentence, IsWrongAt}

-- the expression calls such rules alone
abbrev pub calls : (ℕ → Bool) → Expression → Bool
calls may (one c) = true
calls may (both p q) = calls may p && calls may q
calls may (either p q) = calls may p && calls may q
calls may (maybe p) = calls may p
calls may (many p) = calls may p
calls may (opened c n) = may n

-- each of the expressions does
abbrev pub Call : (ℕ → Bool) → List Expression → Type 0
Call may [] = ⊤
Call may (p ∷ ps) = IsTrue (calls may p) × Call may ps

-- such rules say the same, and call such rules alone
pub record Agree (may : ℕ → Bool) (here there : Rules) : Type 0 where
  pub same : (n : ℕ) → IsTrue (may n) → here n ≡ there n
  pub within : (n : ℕ) → IsTrue (may n) → IsTrue (calls may (here n))

module _ (may : ℕ → Bool) where
  turned : (here there : Rules) → Agree may here there → Agree may there here
  turned here there agree = record {
    same = λ n is. sym (agree.same n is);
    within = λ n is. let same = agree.same n is in rw (sym same) (agree.within n is);
  }

  derives-by : (here there : Rules) → Agree may here there → {ps : List Expression} {vs : List Tree} {s : List Tok} → Call may ps → Derives here ps vs s → Derives there ps vs s
  derives-by here there agree call at_end = at_end
  derives-by here there agree call (by_one h w) = by_one h (derives-by here there agree call.1 w)
  derives-by here there agree call (by_both {p = p} {q = q} w) =
      let each = and_parts (calls may p) (calls may q) call.0 in
      by_both (derives-by here there agree (each.0, (each.1, call.1)) w)
  derives-by here there agree call (by_first {p = p} {q = q} w) =
      let each = and_parts (calls may p) (calls may q) call.0 in
      by_first (derives-by here there agree (each.0, call.1) w)
  derives-by here there agree call (by_second {p = p} {q = q} w) =
      let each = and_parts (calls may p) (calls may q) call.0 in
      by_second (derives-by here there agree (each.1, call.1) w)
  derives-by here there agree call (left_out w) = left_out (derives-by here there agree call.1 w)
  derives-by here there agree call (put_in w) = put_in (derives-by here there agree call w)
  derives-by here there agree call (no_more w) = no_more (derives-by here there agree call.1 w)
  derives-by here there agree call (one_more w) = one_more (derives-by here there agree (call.0, call) w)
  derives-by here there agree call (by_rule {n = n} h w) =
      let same = agree.same n call.0 in
      by_rule h (rw same at (derives-by here there agree (agree.within n call.0, call.1) w))

  module _ (here there : Rules) (agree : Agree may here there) (ps : List Expression) (call : Call may ps) where
    pub sentence-by : (s : List Tok) → AreSentence here ps s → AreSentence there ps s
    sentence-by s sentence = (sentence.0, derives-by here there agree call sentence.1)

    sentence-back : (s : List Tok) → AreSentence there ps s → AreSentence here ps s
    sentence-back s sentence = (sentence.0, derives-by there here (turned here there agree) call sentence.1)

    pub wrong-by : (s : List Tok) (k : ℕ) → IsWrongAt here ps s k → IsWrongAt there ps s k
    wrong-by s k wrong = record {
      some = wrong.some;
      within = wrong.within;
      before = λ j below. let begin = wrong.before j below in (begin.0, sentence-by (take j s ++ begin.0) begin.1);
      here = λ in_list begin. wrong.here in_list (begin.0, sentence-back (take k s ++ begin.0) begin.1);
      none = λ sentence. wrong.none (sentence-back s sentence);
    }
