-- What a line prints is at most four times as long as the line.
use Rattle.std.proofs.Common.{◌≡◌, ℕ, ◌+◌, ◌*◌, ◌≤◌, Bool, true, false, ◌==◌, List, [], ◌∷◌, length, refl, sym, arith, Result, Ok, Err, OnOk, length-append}
use Rattle.std.proofs.lemmas.Bool.{false≢true}
use Rattle.tb_tree.specs.Sound.{is_empty_list}
use Rattle.tb_esis.specs.Lines.{before_space, behind_space, attribute_of, line_of}
use Rattle.tb_esis.specs.Readers.{weight}

space_fits : (bs : List ℕ) → length (before_space bs) + length (behind_space bs) ≤ length bs
space_fits [] = omega arith
space_fits (b ∷ bs) = by_case (b == 32) refl (space_fits bs)
  where
    by_case : (space : Bool) → (b == 32) ≡ space → length (before_space bs) + length (behind_space bs) ≤ length bs → length (before_space (b ∷ bs)) + length (behind_space (b ∷ bs)) ≤ length (b ∷ bs)
    by_case true e later = rw e (omega arith)
    by_case false e later = rw e (omega arith)

-- the space itself, where something stands behind it
space_taken : (bs : List ℕ) → is_empty_list (behind_space bs) ≡ false → length (before_space bs) + 1 + length (behind_space bs) ≤ length bs
space_taken [] some = absurd (false≢true (sym some))
space_taken (b ∷ bs) some = by_case (b == 32) refl some (λ s. space_taken bs s)
  where
    by_case : (space : Bool) → (b == 32) ≡ space → is_empty_list (behind_space (b ∷ bs)) ≡ false
        → (is_empty_list (behind_space bs) ≡ false → length (before_space bs) + 1 + length (behind_space bs) ≤ length bs)
        → length (before_space (b ∷ bs)) + 1 + length (behind_space (b ∷ bs)) ≤ length (b ∷ bs)
    by_case true e some later = rw e (omega arith)
    by_case false e some later =
        let long = later (rw e at some) in
        rw e (omega (arith, long))

some_behind : (bs : List ℕ) → is_empty_list (before_space bs) ≡ false → is_empty_list bs ≡ false
some_behind [] some = some
some_behind (b ∷ bs) some = refl

some_length : (bs : List ℕ) → is_empty_list bs ≡ false → 1 ≤ length bs
some_length [] some = absurd (false≢true (sym some))
some_length (b ∷ bs) some = omega arith

attribute_fits : (rest : List ℕ) → weight (attribute_of rest) ≤ 4 * (1 + length rest)
attribute_fits rest = by_case (is_empty_list (before_space (behind_space rest))) refl
  where
    by_case : (empty : Bool) → is_empty_list (before_space (behind_space rest)) ≡ empty → weight (attribute_of rest) ≤ 4 * (1 + length rest)
    by_case true e = rw e (omega arith)
    by_case false e =
        rw e (omega (arith, space_taken rest (some_behind (behind_space rest) e), space_fits (behind_space rest), some_length (before_space (behind_space rest)) e))

pub weight_fits : (line : List ℕ) → weight (line_of line) ≤ 4 * length line
weight_fits [] = omega arith
weight_fits (b ∷ rest) = by_case (b == 40) (b == 41) (b == 65) (b == 45) (b == 67) refl refl refl refl refl
  where
    by_case : (start end value text whole : Bool) → (b == 40) ≡ start → (b == 41) ≡ end → (b == 65) ≡ value → (b == 45) ≡ text → (b == 67) ≡ whole → weight (line_of (b ∷ rest)) ≤ 4 * length (b ∷ rest)
    by_case true c a d f p q r s t = rw p (omega (arith, length-append rest (10 ∷ [])))
    by_case false true a d f p q r s t = rw (p, q) (omega (arith, length-append rest (10 ∷ [])))
    by_case false false true d f p q r s t = rw (p, q, r) (omega (arith, attribute_fits rest))
    by_case false false false true f p q r s t = rw (p, q, r, s) (omega arith)
    by_case false false false false true p q r s t = rw (p, q, r, s, t) (omega arith)
    by_case false false false false false p q r s t = rw (p, q, r, s, t) (omega arith)

-- a bound that follows from another
pub on_ok : {A E : Type 0} (P Q : Type 0) (r : Result A E) → (P → Q) → OnOk r P → OnOk r Q
on_ok P Q (Ok x) f p = f p
on_ok P Q (Err e) f p = tt
