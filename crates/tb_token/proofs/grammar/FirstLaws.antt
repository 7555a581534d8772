-- FIRST: the terminals that expressions begin with.
use Rattle.std.proofs.Common.{◌≡◌, ⊎_elim, ℕ, true, false, List, refl, ap}
use Rattle.std.proofs.lemmas.Bool.{and_parts, and_from, or_cases}
use Rattle.tb_token.specs.grammar.Grammar.{Expression, one, both, either, maybe, many, opened}
use Rattle.tb_token.specs.grammar.Reading.{is_never_empty, first_set_before, first_set}
use Rattle.tb_token.specs.grammar.LL1.{all_in, are_apart, is_some, is_ll1}
use Rattle.tb_token.proofs.grammar.TerminalLaws.{none-true, Within, within-append, within-all_in, all_in-of, apart-within, and-three, and-five}

-- what stands behind an expression that is not nullable does not tell how it begins
pub first_set_before-never_empty : (p : Expression) (xs ys : List ℕ) → is_never_empty p ≡ true → first_set_before p xs ≡ first_set_before p ys
first_set_before-never_empty (one c) xs ys never_empty = refl
first_set_before-never_empty (both p q) xs ys never_empty =
    ⊎_elim (λ here. first_set_before-never_empty p (first_set_before q xs) (first_set_before q ys) here) (λ there. ap (λ zs. first_set_before p zs) (first_set_before-never_empty q xs ys there)) (or_cases (is_never_empty p) (is_never_empty q) never_empty)
first_set_before-never_empty (either p q) xs ys never_empty =
    let parts = and_parts (is_never_empty p) (is_never_empty q) never_empty in
    let one_is = first_set_before-never_empty p xs ys parts.0 in
    let two_is = first_set_before-never_empty q xs ys parts.1 in
    rw (one_is, two_is) refl
first_set_before-never_empty (maybe p) xs ys never_empty = none-true false refl never_empty
first_set_before-never_empty (many p) xs ys never_empty = none-true false refl never_empty
first_set_before-never_empty (opened c n) xs ys never_empty = refl

-- more terminals behind an expression are more terminals in all
pub first_set_before-within : (p : Expression) (xs ys : List ℕ) → Within xs ys → Within (first_set_before p xs) (first_set_before p ys)
first_set_before-within (one c) xs ys within = λ x is. is
first_set_before-within (both p q) xs ys within = first_set_before-within p (first_set_before q xs) (first_set_before q ys) (first_set_before-within q xs ys within)
first_set_before-within (either p q) xs ys within = within-append (first_set_before p xs) (first_set_before p ys) (first_set_before q xs) (first_set_before q ys) (first_set_before-within p xs ys within) (first_set_before-within q xs ys within)
first_set_before-within (maybe p) xs ys within = within-append (first_set_before p xs) (first_set_before p ys) xs ys (first_set_before-within p xs ys within) within
first_set_before-within (many p) xs ys within = within-append (first_set_before p xs) (first_set_before p ys) xs ys (first_set_before-within p xs ys within) within
first_set_before-within (opened c n) xs ys within = λ x is. is

module _ (follow : ℕ → List ℕ) where
  -- an expression is LL(1) where fewer terminals may stand behind it
  pub ll1-within : (p : Expression) (xs ys : List ℕ) → Within xs ys → is_ll1 follow ys p ≡ true → is_ll1 follow xs p ≡ true
  ll1-within (one c) xs ys within is = is
  ll1-within (both p q) xs ys within is =
      let parts = and_parts (is_ll1 follow (first_set_before q ys) p) (is_ll1 follow ys q) is in
      and_from (is_ll1 follow (first_set_before q xs) p) (is_ll1 follow xs q)
      (ll1-within p (first_set_before q xs) (first_set_before q ys) (first_set_before-within q xs ys within) parts.0) (ll1-within q xs ys within parts.1)
  ll1-within (either p q) xs ys within is =
      let parts = and-five (is_never_empty p) (is_never_empty q) (are_apart (first_set p) (first_set q)) (is_ll1 follow ys p) (is_ll1 follow ys q) is in
      let one_is = ll1-within p xs ys within parts.3 in
      let two_is = ll1-within q xs ys within parts.4 in
      rw (parts.0, parts.1, parts.2, one_is, two_is) refl
  ll1-within (maybe p) xs ys within is =
      let parts = and-three (is_never_empty p) (are_apart (first_set p) ys) (is_ll1 follow ys p) is in
      let apart = apart-within (first_set p) xs ys within parts.1 in
      let inner = ll1-within p xs ys within parts.2 in
      rw (parts.0, apart, inner) refl
  ll1-within (many p) xs ys within is =
      let parts = and-three (is_never_empty p) (are_apart (first_set p) ys) (is_ll1 follow (first_set_before (many p) ys) p) is in
      let apart = apart-within (first_set p) xs ys within parts.1 in
      let inner = ll1-within p (first_set_before (many p) xs) (first_set_before (many p) ys) (first_set_before-within (many p) xs ys within) parts.2 in
      rw (parts.0, apart, inner) refl
  ll1-within (opened c n) xs ys within is =
      let parts = and_parts (is_some c) (all_in ys (follow n)) is in
      and_from (is_some c) (all_in xs (follow n)) parts.0 (all_in-of xs (follow n) (λ x here. within-all_in ys (follow n) parts.1 x (within x here)))
