-- A list of tokens has one tree where one token of look-ahead decides, and is wrong at one place.
use Rattle.std.proofs.Common.{◌≡◌, ◌⊎◌, inl, inr, ℕ, ◌<◌, true, List, [], ◌∷◌, refl, ap, arith}
use Rattle.std.proofs.lemmas.Bool.{cases_order}
use Rattle.tb_token.specs.grammar.Grammar.{Tok, Expression, either, maybe, many, Rules, has}
use Rattle.tb_token.specs.grammar.Sentences.{Tree, leaf, nothing, pair, first, second, Derives, at_end, by_one, by_both, by_first, by_second, left_out, put_in, no_more, one_more, by_rule, IsWrongAt}
use Rattle.tb_token.specs.grammar.Reading.{is_never_empty, first_set}
use Rattle.tb_token.specs.grammar.LL1.{are_apart, first_set_of_all, AreLL1, AreGood}
use Rattle.tb_token.proofs.grammar.TerminalLaws.{none-true, apart-none}
use Rattle.tb_token.proofs.grammar.SentenceLaws.{both-ll1, first-ll1, second-ll1, maybe-ll1, many-ll1, rule-ll1, either-never_empty, maybe-never_empty, many-never_empty, sentence-first_set_before, first_set-first_set_before, never_empty-takes}

pair-same : (v w v' w' : Tree) (vs ws : List Tree) → (v ∷ w ∷ vs) ≡ (v' ∷ w' ∷ ws) → (pair v w ∷ vs) ≡ (pair v' w' ∷ ws)
pair-same v w v' w' vs ws e = cc

first-same : (v w : Tree) (vs ws : List Tree) → (v ∷ vs) ≡ (w ∷ ws) → (first v ∷ vs) ≡ (first w ∷ ws)
first-same v w vs ws e = cc

second-same : (v w : Tree) (vs ws : List Tree) → (v ∷ vs) ≡ (w ∷ ws) → (second v ∷ vs) ≡ (second w ∷ ws)
second-same v w vs ws e = cc

rule-same : (t : Tok) (v w : Tree) (vs ws : List Tree) → (v ∷ vs) ≡ (w ∷ ws) → (pair (leaf t) v ∷ vs) ≡ (pair (leaf t) w ∷ ws)
rule-same t v w vs ws e = cc

module _ (rules : Rules) (follow : ℕ → List ℕ) (good : AreGood rules follow) where
  -- two choices do not begin with one token
  either-apart : {p q : Expression} {ps : List Expression} {vs ws : List Tree} (s : List Tok) → AreLL1 follow (either p q ∷ ps) → Derives rules (p ∷ ps) vs s → Derives rules (q ∷ ps) ws s → ⊥
  either-apart {p = p} {q = q} {ps = ps} [] d one_is two_is = never_empty-takes (either-never_empty rules follow good p q ps d).0 one_is
  either-apart {p = p} {q = q} {ps = ps} (t ∷ s) d one_is two_is =
      let never_empty = either-never_empty rules follow good p q ps d in
      let here = first_set-first_set_before rules follow good (first-ll1 rules follow good p q ps d) never_empty.0 one_is in
      let there = first_set-first_set_before rules follow good (second-ll1 rules follow good p q ps d) never_empty.1 two_is in
      none-true (has (first_set q) t.terminal) (apart-none (first_set p) (first_set q) t.terminal never_empty.2 here) there

  -- nor do an expression and what is behind it
  apart-by : {p : Expression} {ps qs : List Expression} {vs ws : List Tree} (s : List Tok) → AreLL1 follow (p ∷ qs) → AreLL1 follow ps → is_never_empty p ≡ true → are_apart (first_set p) (first_set_of_all ps) ≡ true
      → Derives rules (p ∷ qs) vs s → Derives rules ps ws s → ⊥
  apart-by [] d e never_empty apart one_is two_is = never_empty-takes never_empty one_is
  apart-by {p = p} {ps = ps} (t ∷ s) d e never_empty apart one_is two_is =
      let here = first_set-first_set_before rules follow good d never_empty one_is in
      let there = sentence-first_set_before rules follow good e two_is in
      none-true (has (first_set_of_all ps) t.terminal) (apart-none (first_set p) (first_set_of_all ps) t.terminal apart here) there

  maybe-apart : {p : Expression} {ps : List Expression} {vs ws : List Tree} (s : List Tok) → AreLL1 follow (maybe p ∷ ps) → Derives rules (p ∷ ps) vs s → Derives rules ps ws s → ⊥
  maybe-apart {p = p} {ps = ps} s d one_is two_is =
      let never_empty = maybe-never_empty rules follow good p ps d in
      apart-by s (maybe-ll1 rules follow good p ps d) d.1 never_empty.0 never_empty.1 one_is two_is

  many-apart : {p : Expression} {ps : List Expression} {vs ws : List Tree} (s : List Tok) → AreLL1 follow (many p ∷ ps) → Derives rules (p ∷ many p ∷ ps) vs s → Derives rules ps ws s → ⊥
  many-apart {p = p} {ps = ps} s d one_is two_is =
      let never_empty = many-never_empty rules follow good p ps d in
      apart-by s (many-ll1 rules follow good p ps d) d.1 never_empty.0 never_empty.1 one_is two_is

  -- The trees of one derivation are those of the other.
  pub one-tree : {ps : List Expression} {s : List Tok} {vs ws : List Tree} → AreLL1 follow ps → Derives rules ps vs s → Derives rules ps ws s → vs ≡ ws
  one-tree d at_end at_end = refl
  one-tree d (by_one {t = t} h w) (by_one k u) = ap (λ vs. leaf t ∷ vs) (one-tree d.1 w u)
  one-tree d (by_both {p = p} {q = q} {ps = ps} w) (by_both u) = pair-same _ _ _ _ _ _ (one-tree (both-ll1 rules follow good p q ps d) w u)
  one-tree d (by_first {p = p} {q = q} {ps = ps} w) (by_first u) = first-same _ _ _ _ (one-tree (first-ll1 rules follow good p q ps d) w u)
  one-tree {s = s} d (by_first w) (by_second u) = absurd (either-apart s d w u)
  one-tree {s = s} d (by_second w) (by_first u) = absurd (either-apart s d u w)
  one-tree d (by_second {p = p} {q = q} {ps = ps} w) (by_second u) = second-same _ _ _ _ (one-tree (second-ll1 rules follow good p q ps d) w u)
  one-tree d (left_out w) (left_out u) = ap (λ vs. nothing ∷ vs) (one-tree d.1 w u)
  one-tree {s = s} d (left_out w) (put_in u) = absurd (maybe-apart s d u w)
  one-tree {s = s} d (put_in w) (left_out u) = absurd (maybe-apart s d w u)
  one-tree d (put_in {p = p} {ps = ps} w) (put_in u) = one-tree (maybe-ll1 rules follow good p ps d) w u
  one-tree d (no_more w) (no_more u) = ap (λ vs. nothing ∷ vs) (one-tree d.1 w u)
  one-tree {s = s} d (no_more w) (one_more u) = absurd (many-apart s d u w)
  one-tree {s = s} d (one_more w) (no_more u) = absurd (many-apart s d w u)
  one-tree d (one_more {p = p} {ps = ps} w) (one_more u) = pair-same _ _ _ _ _ _ (one-tree (many-ll1 rules follow good p ps d) w u)
  one-tree d (by_rule {c = c} {n = n} {t = t} {ps = ps} h w) (by_rule k u) = rule-same t _ _ _ _ (one-tree (rule-ll1 rules follow good c n ps d) w u)

not-before : (rules : Rules) (ps : List Expression) (s : List Tok) (k j : ℕ) → IsWrongAt rules ps s k → IsWrongAt rules ps s j → k < j → ⊥
not-before rules ps s k j one_is two_is less =
    let within = two_is.within in
    one_is.here (omega arith) (two_is.before k less)

pub wrong-once : (rules : Rules) (ps : List Expression) (s : List Tok) (k j : ℕ) → IsWrongAt rules ps s k → IsWrongAt rules ps s j → k ≡ j
wrong-once rules ps s k j one_is two_is = by (cases_order k j)
  where
    by : (k ≡ j) ⊎ ((k < j) ⊎ (j < k)) → k ≡ j
    by (inl same) = same
    by (inr (inl less)) = absurd (not-before rules ps s k j one_is two_is less)
    by (inr (inr more)) = absurd (not-before rules ps s j k two_is one_is more)
