-- What the first token of a sentence is, and that each list of expressions has a sentence.
use Rattle.std.proofs.Common.{◌≡◌, ⊎_elim, ℕ, Bool, true, false, cond, ◌&&◌, List, [], ◌∷◌, length, suc, refl, ap, arith}
use Rattle.std.proofs.lemmas.Bool.{and_parts, or_cases, or_parts, and_cases}
use Rattle.tb_token.specs.grammar.Grammar.{Tok, Expression, one, both, either, maybe, many, opened, Rules, has}
use Rattle.tb_token.specs.grammar.Sentences.{Tree, leaf, nothing, pair, first, second, Derives, at_end, by_one, by_both, by_first, by_second, left_out, put_in, no_more, one_more, by_rule, AreSentence}
use Rattle.tb_token.specs.grammar.Reading.{is_never_empty, may_end, first_set_before, first_set}
use Rattle.tb_token.specs.grammar.LL1.{all_in, are_apart, is_some, first_set_of_all, is_ll1, AreLL1, AreGood, is_easy}
use Rattle.tb_token.proofs.grammar.TerminalLaws.{none-true, has-left, has-right, within-all_in, and-three, and-five, and-false, has-first}
use Rattle.tb_token.proofs.grammar.FirstLaws.{first_set_before-never_empty, ll1-within}

module _ (rules : Rules) (follow : ℕ → List ℕ) (good : AreGood rules follow) where
  -- What stands on top of an LL(1) list once its first expression is taken apart, is LL(1).

  pub both-ll1 : (p q : Expression) (ps : List Expression) → AreLL1 follow (both p q ∷ ps) → AreLL1 follow (p ∷ q ∷ ps)
  both-ll1 p q ps d =
      let parts = and_parts (is_ll1 follow (first_set_before q (first_set_of_all ps)) p) (is_ll1 follow (first_set_of_all ps) q) d.0 in
      (parts.0, (parts.1, d.1))

  pub first-ll1 : (p q : Expression) (ps : List Expression) → AreLL1 follow (either p q ∷ ps) → AreLL1 follow (p ∷ ps)
  first-ll1 p q ps d =
      let parts = and-five (is_never_empty p) (is_never_empty q) (are_apart (first_set p) (first_set q)) (is_ll1 follow (first_set_of_all ps) p) (is_ll1 follow (first_set_of_all ps) q) d.0 in
      (parts.3, d.1)

  pub second-ll1 : (p q : Expression) (ps : List Expression) → AreLL1 follow (either p q ∷ ps) → AreLL1 follow (q ∷ ps)
  second-ll1 p q ps d =
      let parts = and-five (is_never_empty p) (is_never_empty q) (are_apart (first_set p) (first_set q)) (is_ll1 follow (first_set_of_all ps) p) (is_ll1 follow (first_set_of_all ps) q) d.0 in
      (parts.4, d.1)

  pub maybe-ll1 : (p : Expression) (ps : List Expression) → AreLL1 follow (maybe p ∷ ps) → AreLL1 follow (p ∷ ps)
  maybe-ll1 p ps d =
      let parts = and-three (is_never_empty p) (are_apart (first_set p) (first_set_of_all ps)) (is_ll1 follow (first_set_of_all ps) p) d.0 in
      (parts.2, d.1)

  pub many-ll1 : (p : Expression) (ps : List Expression) → AreLL1 follow (many p ∷ ps) → AreLL1 follow (p ∷ many p ∷ ps)
  many-ll1 p ps d =
      let parts = and-three (is_never_empty p) (are_apart (first_set p) (first_set_of_all ps)) (is_ll1 follow (first_set_before (many p) (first_set_of_all ps)) p) d.0 in
      (parts.2, d)

  pub rule-ll1 : (c : List ℕ) (n : ℕ) (ps : List Expression) → AreLL1 follow (opened c n ∷ ps) → AreLL1 follow (rules n ∷ ps)
  rule-ll1 c n ps d =
      let parts = and_parts (is_some c) (all_in (first_set_of_all ps) (follow n)) d.0 in
      (ll1-within follow (rules n) (first_set_of_all ps) (follow n) (within-all_in (first_set_of_all ps) (follow n) parts.1) (good.ll1 n), d.1)

  pub either-never_empty : (p q : Expression) (ps : List Expression) → AreLL1 follow (either p q ∷ ps) → (is_never_empty p ≡ true) × (is_never_empty q ≡ true) × (are_apart (first_set p) (first_set q) ≡ true)
  either-never_empty p q ps d =
      let parts = and-five (is_never_empty p) (is_never_empty q) (are_apart (first_set p) (first_set q)) (is_ll1 follow (first_set_of_all ps) p) (is_ll1 follow (first_set_of_all ps) q) d.0 in
      (parts.0, parts.1, parts.2)

  pub maybe-never_empty : (p : Expression) (ps : List Expression) → AreLL1 follow (maybe p ∷ ps) → (is_never_empty p ≡ true) × (are_apart (first_set p) (first_set_of_all ps) ≡ true)
  maybe-never_empty p ps d =
      let parts = and-three (is_never_empty p) (are_apart (first_set p) (first_set_of_all ps)) (is_ll1 follow (first_set_of_all ps) p) d.0 in
      (parts.0, parts.1)

  pub many-never_empty : (p : Expression) (ps : List Expression) → AreLL1 follow (many p ∷ ps) → (is_never_empty p ≡ true) × (are_apart (first_set p) (first_set_of_all ps) ≡ true)
  many-never_empty p ps d =
      let parts = and-three (is_never_empty p) (are_apart (first_set p) (first_set_of_all ps)) (is_ll1 follow (first_set_before (many p) (first_set_of_all ps)) p) d.0 in
      (parts.0, parts.1)

  -- the first token's terminal is one that the expressions begin with
  pub sentence-first_set_before : {ps : List Expression} {vs : List Tree} {t : Tok} {s : List Tok} → AreLL1 follow ps → Derives rules ps vs (t ∷ s) → has (first_set_of_all ps) t.terminal ≡ true
  sentence-first_set_before d (by_one h w) = h
  sentence-first_set_before d (by_both {p = p} {q = q} {ps = ps} w) = sentence-first_set_before (both-ll1 p q ps d) w
  sentence-first_set_before {t = t} d (by_first {p = p} {q = q} {ps = ps} w) =
      has-left (first_set_before p (first_set_of_all ps)) (first_set_before q (first_set_of_all ps)) t.terminal (sentence-first_set_before (first-ll1 p q ps d) w)
  sentence-first_set_before {t = t} d (by_second {p = p} {q = q} {ps = ps} w) =
      has-right (first_set_before p (first_set_of_all ps)) (first_set_before q (first_set_of_all ps)) t.terminal (sentence-first_set_before (second-ll1 p q ps d) w)
  sentence-first_set_before {t = t} d (left_out {p = p} {ps = ps} w) =
      has-right (first_set_before p (first_set_of_all ps)) (first_set_of_all ps) t.terminal (sentence-first_set_before d.1 w)
  sentence-first_set_before {t = t} d (put_in {p = p} {ps = ps} w) =
      has-left (first_set_before p (first_set_of_all ps)) (first_set_of_all ps) t.terminal (sentence-first_set_before (maybe-ll1 p ps d) w)
  sentence-first_set_before {t = t} d (no_more {p = p} {ps = ps} w) =
      has-right (first_set_before p (first_set_of_all ps)) (first_set_of_all ps) t.terminal (sentence-first_set_before d.1 w)
  sentence-first_set_before {t = t} d (one_more {p = p} {ps = ps} w) =
      let same = first_set_before-never_empty p (first_set_before (many p) (first_set_of_all ps)) (first_set_of_all ps) (many-never_empty p ps d).0 in
      has-left (first_set_before p (first_set_of_all ps)) (first_set_of_all ps) t.terminal (rw same at (sentence-first_set_before (many-ll1 p ps d) w))
  sentence-first_set_before d (by_rule h w) = h

  -- the first token of an expression that is not nullable is its own
  pub first_set-first_set_before : {p : Expression} {ps : List Expression} {vs : List Tree} {t : Tok} {s : List Tok} → AreLL1 follow (p ∷ ps) → is_never_empty p ≡ true → Derives rules (p ∷ ps) vs (t ∷ s) → has (first_set p) t.terminal ≡ true
  first_set-first_set_before {p = p} {ps = ps} d never_empty w =
      let same = first_set_before-never_empty p (first_set_of_all ps) [] never_empty in
      rw same at (sentence-first_set_before d w)

-- no token at all is a sentence only where the expressions may end

ends-prefix : (p : Expression) (ps : List Expression) → may_end (p ∷ ps) ≡ true → (is_never_empty p ≡ false) × (may_end ps ≡ true)
ends-prefix p ps is = by (is_never_empty p) (may_end ps) is
  where
    by : (never_empty ends : Bool) → (cond never_empty false true && ends) ≡ true → (never_empty ≡ false) × (ends ≡ true)
    by true ends is = none-true false refl is
    by false ends is = (refl, is)

ends-from : (p : Expression) (ps : List Expression) → is_never_empty p ≡ false → may_end ps ≡ true → may_end (p ∷ ps) ≡ true
ends-from p ps never_empty ends = rw (never_empty, ends) refl

pub none-ends : {rules : Rules} {ps : List Expression} {vs : List Tree} → Derives rules ps vs [] → may_end ps ≡ true
none-ends at_end = refl
none-ends (by_both {p = p} {q = q} {ps = ps} w) =
    let one_is = ends-prefix p (q ∷ ps) (none-ends w) in
    let two_is = ends-prefix q ps one_is.1 in
    ends-from (both p q) ps (rw (one_is.0, two_is.0) refl) two_is.1
none-ends (by_first {p = p} {q = q} {ps = ps} w) =
    let is = ends-prefix p ps (none-ends w) in
    ends-from (either p q) ps (rw is.0 refl) is.1
none-ends (by_second {p = p} {q = q} {ps = ps} w) =
    let is = ends-prefix q ps (none-ends w) in
    ends-from (either p q) ps (rw (is.0, and-false (is_never_empty p)) refl) is.1
none-ends (left_out {p = p} {ps = ps} w) = ends-from (maybe p) ps refl (none-ends w)
none-ends (put_in {p = p} {ps = ps} w) = ends-from (maybe p) ps refl (ends-prefix p ps (none-ends w)).1
none-ends (no_more {p = p} {ps = ps} w) = ends-from (many p) ps refl (none-ends w)
none-ends (one_more {p = p} {ps = ps} w) = ends-from (many p) ps refl (ends-prefix (many p) ps (ends-prefix p (many p ∷ ps) (none-ends w)).1).1

-- an expression that is not nullable takes a token
pub never_empty-takes : {rules : Rules} {p : Expression} {ps : List Expression} {vs : List Tree} → is_never_empty p ≡ true → Derives rules (p ∷ ps) vs [] → ⊥
never_empty-takes {p = p} {ps = ps} never_empty w = none-true (is_never_empty p) (ends-prefix p ps (none-ends w)).0 never_empty

-- each expression has its tree
pub trees-length : {rules : Rules} {ps : List Expression} {vs : List Tree} {s : List Tok} → Derives rules ps vs s → length vs ≡ length ps
trees-length at_end = refl
trees-length (by_one h w) = ap suc (trees-length w)
trees-length (by_both w) = let e = trees-length w in omega arith
trees-length (by_first w) = trees-length w
trees-length (by_second w) = trees-length w
trees-length (left_out w) = ap suc (trees-length w)
trees-length (put_in w) = trees-length w
trees-length (no_more w) = ap suc (trees-length w)
trees-length (one_more w) = let e = trees-length w in omega arith
trees-length (by_rule h w) = trees-length w

-- The ways of a derivation, for sentences whose trees are not told.

module _ (rules : Rules) where
  pub sentence-one : (c : List ℕ) (t : Tok) (ps : List Expression) (s : List Tok) → has c t.terminal ≡ true → AreSentence rules ps s → AreSentence rules (one c ∷ ps) (t ∷ s)
  sentence-one c t ps s h sentence = (leaf t ∷ sentence.0, by_one h sentence.1)

  pub sentence-both : (p q : Expression) (ps : List Expression) (s : List Tok) → AreSentence rules (p ∷ q ∷ ps) s → AreSentence rules (both p q ∷ ps) s
  sentence-both p q ps s sentence = by sentence.0 sentence.1
    where
      by : (vs : List Tree) → Derives rules (p ∷ q ∷ ps) vs s → AreSentence rules (both p q ∷ ps) s
      by [] w = let e = trees-length w in absurd (omega arith)
      by (v ∷ []) w = let e = trees-length w in absurd (omega arith)
      by (v ∷ u ∷ vs) w = (pair v u ∷ vs, by_both w)

  pub sentence-first : (p q : Expression) (ps : List Expression) (s : List Tok) → AreSentence rules (p ∷ ps) s → AreSentence rules (either p q ∷ ps) s
  sentence-first p q ps s sentence = by sentence.0 sentence.1
    where
      by : (vs : List Tree) → Derives rules (p ∷ ps) vs s → AreSentence rules (either p q ∷ ps) s
      by [] w = let e = trees-length w in absurd (omega arith)
      by (v ∷ vs) w = (first v ∷ vs, by_first w)

  pub sentence-second : (p q : Expression) (ps : List Expression) (s : List Tok) → AreSentence rules (q ∷ ps) s → AreSentence rules (either p q ∷ ps) s
  sentence-second p q ps s sentence = by sentence.0 sentence.1
    where
      by : (vs : List Tree) → Derives rules (q ∷ ps) vs s → AreSentence rules (either p q ∷ ps) s
      by [] w = let e = trees-length w in absurd (omega arith)
      by (v ∷ vs) w = (second v ∷ vs, by_second w)

  pub sentence-left_out : (p : Expression) (ps : List Expression) (s : List Tok) → AreSentence rules ps s → AreSentence rules (maybe p ∷ ps) s
  sentence-left_out p ps s sentence = (nothing ∷ sentence.0, left_out sentence.1)

  pub sentence-put_in : (p : Expression) (ps : List Expression) (s : List Tok) → AreSentence rules (p ∷ ps) s → AreSentence rules (maybe p ∷ ps) s
  sentence-put_in p ps s sentence = by sentence.0 sentence.1
    where
      by : (vs : List Tree) → Derives rules (p ∷ ps) vs s → AreSentence rules (maybe p ∷ ps) s
      by [] w = let e = trees-length w in absurd (omega arith)
      by (v ∷ vs) w = (v ∷ vs, put_in w)

  pub sentence-no_more : (p : Expression) (ps : List Expression) (s : List Tok) → AreSentence rules ps s → AreSentence rules (many p ∷ ps) s
  sentence-no_more p ps s sentence = (nothing ∷ sentence.0, no_more sentence.1)

  pub sentence-one_more : (p : Expression) (ps : List Expression) (s : List Tok) → AreSentence rules (p ∷ many p ∷ ps) s → AreSentence rules (many p ∷ ps) s
  sentence-one_more p ps s sentence = by sentence.0 sentence.1
    where
      by : (vs : List Tree) → Derives rules (p ∷ many p ∷ ps) vs s → AreSentence rules (many p ∷ ps) s
      by [] w = let e = trees-length w in absurd (omega arith)
      by (v ∷ []) w = let e = trees-length w in absurd (omega arith)
      by (v ∷ u ∷ vs) w = (pair v u ∷ vs, one_more w)

  pub sentence-rule : (c : List ℕ) (n : ℕ) (t : Tok) (ps : List Expression) (s : List Tok) → has c t.terminal ≡ true → AreSentence rules (rules n ∷ ps) s → AreSentence rules (opened c n ∷ ps) (t ∷ s)
  sentence-rule c n t ps s h sentence = by sentence.0 sentence.1
    where
      by : (vs : List Tree) → Derives rules (rules n ∷ ps) vs s → AreSentence rules (opened c n ∷ ps) (t ∷ s)
      by [] w = let e = trees-length w in absurd (omega arith)
      by (v ∷ vs) w = (pair (leaf t) v ∷ vs, by_rule h w)

  -- what is not filled may be left out
  pub sentence-empty : (p : Expression) (ps : List Expression) (s : List Tok) → is_never_empty p ≡ false → AreSentence rules ps s → AreSentence rules (p ∷ ps) s
  sentence-empty (one c) ps s empty sentence = none-true true empty refl
  sentence-empty (both p q) ps s empty sentence =
      let parts = or_parts (is_never_empty p) (is_never_empty q) empty in
      sentence-both p q ps s (sentence-empty p (q ∷ ps) s parts.0 (sentence-empty q ps s parts.1 sentence))
  sentence-empty (either p q) ps s empty sentence =
      ⊎_elim (λ e. sentence-first p q ps s (sentence-empty p ps s e sentence)) (λ e. sentence-second p q ps s (sentence-empty q ps s e sentence)) (and_cases (is_never_empty p) (is_never_empty q) empty)
  sentence-empty (maybe p) ps s empty sentence = sentence-left_out p ps s sentence
  sentence-empty (many p) ps s empty sentence = sentence-no_more p ps s sentence
  sentence-empty (opened c n) ps s empty sentence = none-true true empty refl

  pub none-sentence : (ps : List Expression) → may_end ps ≡ true → AreSentence rules ps []
  none-sentence [] ends = ([], at_end)
  none-sentence (p ∷ ps) ends =
      let is = ends-prefix p ps ends in
      sentence-empty p ps [] is.0 (none-sentence ps is.1)

-- Each list of LL(1) expressions has a sentence.

module _ (rules : Rules) (follow : ℕ → List ℕ) (good : AreGood rules follow) where
  abbrev HasSentence : List Expression → Type 0
  HasSentence ps = (s : List Tok) × AreSentence rules ps s

  abbrev a_token : ℕ → Tok
  a_token c = record { terminal = c; bytes = []; number = 0 }

  one-never_empty : (c : List ℕ) (ps : List Expression) → is_some c ≡ true → HasSentence ps → HasSentence (one c ∷ ps)
  one-never_empty [] ps some have = none-true false refl some
  one-never_empty (x ∷ c) ps some have = (a_token x ∷ have.0, sentence-one rules (x ∷ c) (a_token x) ps have.0 (has-first x c) have.1)

  -- without a rule
  easy-never_empty : (p : Expression) (xs : List ℕ) (ps : List Expression) → is_easy p ≡ true → is_ll1 follow xs p ≡ true → HasSentence ps → HasSentence (p ∷ ps)
  easy-never_empty (one c) xs ps easy d have = one-never_empty c ps d have
  easy-never_empty (both p q) xs ps easy d have =
      let parts = and_parts (is_easy p) (is_easy q) easy in
      let ds = and_parts (is_ll1 follow (first_set_before q xs) p) (is_ll1 follow xs q) d in
      let rest = easy-never_empty p (first_set_before q xs) (q ∷ ps) parts.0 ds.0 (easy-never_empty q xs ps parts.1 ds.1 have) in
      (rest.0, sentence-both rules p q ps rest.0 rest.1)
  easy-never_empty (either p q) xs ps easy d have =
      let ds = and-five (is_never_empty p) (is_never_empty q) (are_apart (first_set p) (first_set q)) (is_ll1 follow xs p) (is_ll1 follow xs q) d in
      ⊎_elim
      (λ e. let rest = easy-never_empty p xs ps e ds.3 have in (rest.0, sentence-first rules p q ps rest.0 rest.1))
      (λ e. let rest = easy-never_empty q xs ps e ds.4 have in (rest.0, sentence-second rules p q ps rest.0 rest.1))
      (or_cases (is_easy p) (is_easy q) easy)
  easy-never_empty (maybe p) xs ps easy d have = (have.0, sentence-left_out rules p ps have.0 have.1)
  easy-never_empty (many p) xs ps easy d have = (have.0, sentence-no_more rules p ps have.0 have.1)
  easy-never_empty (opened c n) xs ps easy d have = none-true false refl easy

  rule-never_empty : (c : List ℕ) (n : ℕ) (ps : List Expression) → is_some c ≡ true → HasSentence ps → HasSentence (opened c n ∷ ps)
  rule-never_empty [] n ps some have = none-true false refl some
  rule-never_empty (x ∷ c) n ps some have =
      let rest = easy-never_empty (rules n) (follow n) ps (good.easy n) (good.ll1 n) have in
      (a_token x ∷ rest.0, sentence-rule rules (x ∷ c) n (a_token x) ps rest.0 (has-first x c) rest.1)

  part-never_empty : (p : Expression) (xs : List ℕ) (ps : List Expression) → is_ll1 follow xs p ≡ true → HasSentence ps → HasSentence (p ∷ ps)
  part-never_empty (one c) xs ps d have = one-never_empty c ps d have
  part-never_empty (both p q) xs ps d have =
      let ds = and_parts (is_ll1 follow (first_set_before q xs) p) (is_ll1 follow xs q) d in
      let rest = part-never_empty p (first_set_before q xs) (q ∷ ps) ds.0 (part-never_empty q xs ps ds.1 have) in
      (rest.0, sentence-both rules p q ps rest.0 rest.1)
  part-never_empty (either p q) xs ps d have =
      let ds = and-five (is_never_empty p) (is_never_empty q) (are_apart (first_set p) (first_set q)) (is_ll1 follow xs p) (is_ll1 follow xs q) d in
      let rest = part-never_empty p xs ps ds.3 have in
      (rest.0, sentence-first rules p q ps rest.0 rest.1)
  part-never_empty (maybe p) xs ps d have = (have.0, sentence-left_out rules p ps have.0 have.1)
  part-never_empty (many p) xs ps d have = (have.0, sentence-no_more rules p ps have.0 have.1)
  part-never_empty (opened c n) xs ps d have = rule-never_empty c n ps (and_parts (is_some c) (all_in xs (follow n)) d).0 have

  pub have-sentence : (ps : List Expression) → AreLL1 follow ps → HasSentence ps
  have-sentence [] d = ([], ([], at_end))
  have-sentence (p ∷ ps) d = part-never_empty p (first_set_of_all ps) ps d.0 (have-sentence ps d.1)
