-- The grammar of queries is one that the next token decides, and its paths are those of its text.
use Rattle.std.proofs.Common.{◌≡◌, ℕ, zero, suc, true, List, [], ◌∷◌, refl}
use Rattle.tb_token.specs.grammar.Grammar.{Tok, Expression, one, both, either, many, Rules}
use Rattle.tb_token.specs.grammar.Sentences.{Tree, Derives, by_one, by_both, by_first, by_second, no_more, one_more, AreSentence}
use Rattle.tb_token.specs.grammar.LL1.{is_ll1, is_easy}
use Rattle.tb_token.proofs.grammar.TreeLaws.{one-tree}
use Rattle.tb_token.proofs.grammar.SentenceLaws.{sentence-one, sentence-both, sentence-first, sentence-second, sentence-no_more, sentence-one_more}
use Rattle.tb_token.specs.grammar.Patterns.{doc}
use Rattle.tb_token.specs.grammar.Paths.{step}
use Rattle.tb_token.specs.grammar.Queries.{rules, follow}
use Rattle.tb_token.specs.grammar.QueryLaws.{IsReadable, AreOneQuery, IsWrittenPath}
use Rattle.tb_token.specs.tokens.TerminalNames as terminals

rules-ll1 : (n : ℕ) → is_ll1 follow (follow n) (rules n) ≡ true
rules-ll1 zero = refl
rules-ll1 (suc zero) = refl
rules-ll1 (suc (suc n)) = refl

rules-easy : (n : ℕ) → is_easy (rules n) ≡ true
rules-easy zero = refl
rules-easy (suc zero) = refl
rules-easy (suc (suc n)) = refl

pub readable : IsReadable
readable = record {
  good = record { ll1 = rules-ll1; easy = rules-easy };
  queries = (refl, tt);
  matches = (refl, tt);
}

pub first-tree : (v w : Tree) → (v ∷ []) ≡ (w ∷ []) → v ≡ w
first-tree v w e = cc

pub one-query : AreOneQuery
one-query s v w d e = first-tree v w (one-tree rules follow readable.good readable.queries d e)

-- Whatever stands behind: the prefix may begin with more of an expression, or be left alone.

module _ (rules : Rules) (p q : Expression) (c : List ℕ) (ps : List Expression) where
  abbrev LL1 : List Tok → Type 0
  LL1 s = AreSentence rules (either (both p (both q (many q))) (both (one c) (many q)) ∷ ps) s

  abbrev Written : List Tok → Type 0
  Written s = AreSentence rules (either (both (either p (one c)) (both q (many q))) (one c) ∷ ps) s

  long-written : {vs : List Tree} {s : List Tok} → Derives rules (p ∷ both q (many q) ∷ ps) vs s → Written s
  long-written {vs = vs} {s = s} w =
      sentence-first rules (both (either p (one c)) (both q (many q))) (one c) ps s
      (sentence-both rules (either p (one c)) (both q (many q)) ps s
      (sentence-first rules p (one c) (both q (many q) ∷ ps) s (vs, w)))

  more-written : {vs : List Tree} {s : List Tok} → Derives rules (one c ∷ many q ∷ ps) vs s → Written s
  more-written (by_one {t = t} {s = u} h (no_more {vs = vs} w)) =
      sentence-second rules (both (either p (one c)) (both q (many q))) (one c) ps (t ∷ u) (sentence-one rules c t ps u h (vs, w))
  more-written (by_one {t = t} {s = u} h (one_more {v = v} {w = x} {vs = vs} w)) =
      sentence-first rules (both (either p (one c)) (both q (many q))) (one c) ps (t ∷ u)
      (sentence-both rules (either p (one c)) (both q (many q)) ps (t ∷ u)
      (sentence-second rules p (one c) (both q (many q) ∷ ps) (t ∷ u)
      (sentence-one rules c t (both q (many q) ∷ ps) u h (sentence-both rules q (many q) ps u (v ∷ x ∷ vs, w)))))

  ll1-written : {vs : List Tree} {s : List Tok} → Derives rules (either (both p (both q (many q))) (both (one c) (many q)) ∷ ps) vs s → Written s
  ll1-written (by_first (by_both w)) = long-written w
  ll1-written (by_second (by_both w)) = more-written w

  long-ll1 : {vs : List Tree} {s : List Tok} → Derives rules (either p (one c) ∷ both q (many q) ∷ ps) vs s → LL1 s
  long-ll1 {s = s} (by_first {v = v} {vs = vs} w) =
      sentence-first rules (both p (both q (many q))) (both (one c) (many q)) ps s (sentence-both rules p (both q (many q)) ps s (v ∷ vs, w))
  long-ll1 (by_second (by_one {t = t} {s = u} h (by_both {v = v} {w = x} {vs = vs} w))) =
      sentence-second rules (both p (both q (many q))) (both (one c) (many q)) ps (t ∷ u)
      (sentence-both rules (one c) (many q) ps (t ∷ u) (sentence-one rules c t (many q ∷ ps) u h (sentence-one_more rules q ps u (v ∷ x ∷ vs, w))))

  written-ll1 : {vs : List Tree} {s : List Tok} → Derives rules (either (both (either p (one c)) (both q (many q))) (one c) ∷ ps) vs s → LL1 s
  written-ll1 (by_first (by_both w)) = long-ll1 w
  written-ll1 (by_second (by_one {t = t} {vs = vs} {s = u} h w)) =
      sentence-second rules (both p (both q (many q))) (both (one c) (many q)) ps (t ∷ u)
      (sentence-both rules (one c) (many q) ps (t ∷ u) (sentence-one rules c t (many q ∷ ps) u h (sentence-no_more rules q ps u (vs, w))))

pub is-written_path : IsWrittenPath
is-written_path ps s =
    let c = terminals.VARIABLE ∷ [] in
    (λ sentence. ll1-written rules doc step c ps sentence.1, λ sentence. written-ll1 rules doc step c ps sentence.1)
