-- The bits of a set of sessions.
use Rattle.std.proofs.Common.{◌≡◌, ◌⊎◌, inl, inr, ℕ, zero, suc, ◌+◌, ◌-◌, ◌*◌, ◌%◌, ◌^◌, ◌<◌, ◌≤◌, ◌==◌, ◌&&◌, ◌||◌, not, nat_lt, cond, Bool, true, false, max, min, bit_and, bit_or, w64, Some, refl, sym, ap, ◌∙◌, subst, arith, eqb-true}
use Rattle.std.specs.Int.{bit_at, trailing_zeros}
use Rattle.std.proofs.lemmas.Bool.{eqb-false, ltb-true, ltb-false}
use Rattle.std.proofs.lemmas.Nat.{and_le_l}
use Rattle.std.proofs.lemmas.Nat.Bits.{bit_at_and, bit_at_or, bit_at-lt, bit_at_ones, bit_at_above, bit_at_set_same, bit_at_set_other, bit_at_clear_same, bit_at_clear_other, bit_at_mask_inside, bit_at_mask_below, bit_at-trailing_zeros, ones_shl}
use Rattle.tb_script.specs.Sets.{holds, TakesFirst, size_below, size}
use Rattle.tb_script.specs.declared.session_set.SessionSet.{SessionSet}
use Rattle.tb_script.proofs.WalkLaws.{apart}

-- whether a bit is set
abbrev is_set : ℕ → ℕ → Bool
is_set bits n = bit_at bits n == 1

pub add-holds : (bits at n : ℕ) → at < 64 → is_set (bit_or bits (1 * 2 ^ at % 2 ^ 64)) n ≡ ((at == n) || is_set bits n)
add-holds bits at n within = by (at == n) refl
  where
    by : (b : Bool) → (at == n) ≡ b → is_set (bit_or bits (1 * 2 ^ at % 2 ^ 64)) n ≡ (b || is_set bits n)
    by true e = ap (λ k. k == 1) (subst (λ k. bit_at (bit_or bits (1 * 2 ^ at % 2 ^ 64)) k ≡ 1) (eqb-true at n e) (bit_at_set_same w64 bits at within))
    by false e = ap (λ k. k == 1) (bit_at_set_other w64 bits at within n (apart at n e))

pub all-holds : (at : ℕ) → at < 64 → is_set (2 ^ 64 - 1) at ≡ true
all-holds at within = ap (λ k. k == 1) (bit_at_ones 64 at within)

bit : (k : ℕ) → k < 2 → (k ≡ 0) ⊎ (k ≡ 1)
bit zero small = inl refl
bit (suc k) small = inr (omega (arith, small))

pub join-holds : (a b n : ℕ) → is_set (bit_or a b) n ≡ (is_set a n || is_set b n)
join-holds a b n = ap (λ k. k == 1) (bit_at_or a b n) ∙ by (bit_at a n) (bit_at b n) (bit (bit_at a n) (bit_at-lt a n)) (bit (bit_at b n) (bit_at-lt b n))
  where
    by : (x y : ℕ) → (x ≡ 0) ⊎ (x ≡ 1) → (y ≡ 0) ⊎ (y ≡ 1) → (max x y == 1) ≡ ((x == 1) || (y == 1))
    by x y (inl e) (inl f) = rw (e, f) refl
    by x y (inl e) (inr f) = rw (e, f) refl
    by x y (inr e) (inl f) = rw (e, f) refl
    by x y (inr e) (inr f) = rw (e, f) refl

clear-holds : (bits at n : ℕ) → bits < 2 ^ 64 → at < 64 → is_set (bit_and bits (2 ^ 64 - 1 - 1 * 2 ^ at % 2 ^ 64)) n ≡ (is_set bits n && not (at == n))
clear-holds bits at n small within = by (at == n) refl (nat_lt n 64) refl
  where
    less : bit_and bits (2 ^ 64 - 1 - 1 * 2 ^ at % 2 ^ 64) < 2 ^ 64
    less = omega (arith, small, and_le_l bits (2 ^ 64 - 1 - 1 * 2 ^ at % 2 ^ 64))

    and-true : (b : Bool) → b ≡ (b && true)
    and-true true = refl
    and-true false = refl

    and-false : (b : Bool) → false ≡ (b && false)
    and-false true = refl
    and-false false = refl

    by : (b : Bool) → (at == n) ≡ b → (t : Bool) → nat_lt n 64 ≡ t → is_set (bit_and bits (2 ^ 64 - 1 - 1 * 2 ^ at % 2 ^ 64)) n ≡ (is_set bits n && not b)
    by true e t f =
        ap (λ k. k == 1) (subst (λ k. bit_at (bit_and bits (2 ^ 64 - 1 - 1 * 2 ^ at % 2 ^ 64)) k ≡ 0) (eqb-true at n e) (bit_at_clear_same w64 bits at within))
        ∙ and-false (is_set bits n)
    by false e true f =
        ap (λ k. k == 1) (bit_at_clear_other w64 bits at within n (ltb-true n 64 f) (apart at n e)) ∙ and-true (is_set bits n)
    by false e false f =
        ap (λ k. k == 1) (bit_at_above (bit_and bits (2 ^ 64 - 1 - 1 * 2 ^ at % 2 ^ 64)) 64 n less (ltb-false n 64 f) ∙ sym (bit_at_above bits 64 n small (ltb-false n 64 f)))
        ∙ and-true (is_set bits n)

from-holds : (bits at n : ℕ) → bits < 2 ^ 64 → at < 64 → is_set (bit_and bits ((2 ^ 64 - 1) * 2 ^ at % 2 ^ 64)) n ≡ (not (nat_lt n at) && is_set bits n)
from-holds bits at n small within = by (nat_lt n at) refl (nat_lt n 64) refl
  where
    mask : ℕ
    mask = (2 ^ 64 - 1) * 2 ^ at % 2 ^ 64

    is : mask ≡ 2 ^ 64 - 2 ^ at
    is = ones_shl 64 at (omega (arith, within))

    one : (x y : ℕ) → x < 2 → y ≡ 1 → min x y ≡ x
    one x y f e = omega (arith, f, e)

    none : (x y : ℕ) → y ≡ 0 → min x y ≡ 0
    none x y e = omega (arith, e)

    by : (b : Bool) → nat_lt n at ≡ b → (t : Bool) → nat_lt n 64 ≡ t → is_set (bit_and bits mask) n ≡ (not b && is_set bits n)
    by true e t f = ap (λ k. k == 1) (bit_at_and bits mask n ∙ none (bit_at bits n) (bit_at mask n) (ap (λ m. bit_at m n) is ∙ bit_at_mask_below at 64 n (ltb-true n at e)))
    by false e true f =
        ap (λ k. k == 1)
        (bit_at_and bits mask n ∙ one (bit_at bits n) (bit_at mask n) (bit_at-lt bits n) (ap (λ m. bit_at m n) is ∙ bit_at_mask_inside at 64 n (ltb-false n at e) (ltb-true n 64 f)))
    by false e false f =
        ap (λ k. k == 1)
        (bit_at_above (bit_and bits mask) 64 n (omega (arith, small, and_le_l bits mask)) (ltb-false n 64 f) ∙ sym (bit_at_above bits 64 n small (ltb-false n 64 f)))

pub behind-holds : (bits at n : ℕ) → bits < 2 ^ 64 → at < 64
    → is_set (bit_and (bit_and bits ((2 ^ 64 - 1) * 2 ^ at % 2 ^ 64)) (2 ^ 64 - 1 - 1 * 2 ^ at % 2 ^ 64)) n ≡ (nat_lt at n && is_set bits n)
behind-holds bits at n small within =
    clear-holds (bit_and bits ((2 ^ 64 - 1) * 2 ^ at % 2 ^ 64)) at n (omega (arith, small, and_le_l bits ((2 ^ 64 - 1) * 2 ^ at % 2 ^ 64))) within
    ∙ ap (λ b. b && not (at == n)) (from-holds bits at n small within)
    ∙ by (nat_lt n at) refl (at == n) refl (nat_lt at n) refl (is_set bits n)
  where
    by : (a : Bool) → nat_lt n at ≡ a → (b : Bool) → (at == n) ≡ b → (c : Bool) → nat_lt at n ≡ c → (d : Bool) → ((not a && d) && not b) ≡ (c && d)
    by true e b f true g d = absurd (omega (arith, ltb-true n at e, ltb-true at n g))
    by true e b f false g d = refl
    by false e true f true g d = absurd (omega (arith, eqb-true at n f, ltb-true at n g))
    by false e true f false g true = refl
    by false e true f false g false = refl
    by false e false f true g true = refl
    by false e false f true g false = refl
    by false e false f false g d = absurd (eqb-false at n f (omega (arith, ltb-false n at e, ltb-false at n g)))

pub none-held : (n : ℕ) → is_set 0 n ≡ false
none-held n = ap (λ k. k == 1) (bit_at_above 0 0 n (omega arith) (omega arith))

pub takes-first : (old : SessionSet) → old.bits < 2 ^ 64 → 0 < old.bits
    → TakesFirst old (record { bits = bit_and old.bits (2 ^ 64 - 1 - 1 * 2 ^ trailing_zeros w64 old.bits % 2 ^ 64) }) (Some (trailing_zeros w64 old.bits))
takes-first old small some =
    let first = trailing_zeros w64 old.bits in
    let found = bit_at-trailing_zeros w64 old.bits some small in (
      found.0,
      ap (λ k. k == 1) found.1,
      λ n below. ap (λ k. k == 1) (found.2 n below),
      λ n. clear-holds old.bits first n small found.0,
    )

size-few_below : (n : ℕ) (set : SessionSet) → size_below n set ≤ n
size-few_below zero set = omega arith
size-few_below (suc n) set = by (holds set n) (size-few_below n set)
  where
    by : (b : Bool) → size_below n set ≤ n → cond b 1 0 + size_below n set ≤ suc n
    by true ih = omega (arith, ih)
    by false ih = omega (arith, ih)

-- There are at most 64 sessions.
pub size-few : (set : SessionSet) → size set ≤ 64
unfolding size
size-few set = size-few_below 64 set

size-none_below : (n : ℕ) (set : SessionSet) → ((k : ℕ) → holds set k ≡ false) → size_below n set ≡ 0
size-none_below zero set none = refl
size-none_below (suc n) set none = rw (none n) (omega (arith, size-none_below n set none))

pub size-none : (set : SessionSet) → ((k : ℕ) → holds set k ≡ false) → size set ≡ 0
unfolding size
size-none set none = size-none_below 64 set none

-- what a set has below a number, once one session is taken from it
abbrev IsLess : ℕ → ℕ → ℕ → ℕ → Type 0
IsLess at n new old = (at < n → new + 1 ≡ old) × (n ≤ at → new ≡ old)

less-kept : (b : Bool) (at n new old : ℕ) → (at ≡ n → ⊥) → IsLess at n new old → IsLess at (suc n) (cond (b && true) 1 0 + new) (cond b 1 0 + old)
less-kept true at n new old apart ih = (λ e. omega (arith, ih.0 (omega (arith, e, apart))), λ e. omega (arith, ih.1 (omega (arith, e))))
less-kept false at n new old apart ih = (λ e. omega (arith, ih.0 (omega (arith, e, apart))), λ e. omega (arith, ih.1 (omega (arith, e))))

size-less_below : (n at : ℕ) (old new : SessionSet) → holds old at ≡ true → ((k : ℕ) → holds new k ≡ (holds old k && not (at == k))) → IsLess at n (size_below n new) (size_below n old)
size-less_below zero at old new there less = (λ e. absurd (omega (arith, e)), λ e. refl)
size-less_below (suc n) at old new there less = by (at == n) refl (size-less_below n at old new there less)
  where
    by : (b : Bool) → (at == n) ≡ b → IsLess at n (size_below n new) (size_below n old) → IsLess at (suc n) (cond (holds new n) 1 0 + size_below n new) (cond (holds old n) 1 0 + size_below n old)
    by true e ih =
        let same = eqb-true at n e in
        let was : holds old n ≡ true = subst (λ k. holds old k ≡ true) same there in
        let is : holds new n ≡ false = less n ∙ rw (was, e) refl in
        rw (is, was) (λ f. omega (arith, ih.1 (omega (arith, same))), λ f. absurd (omega (arith, f, same)))
    by false e ih = rw (less n, e) (less-kept (holds old n) at n (size_below n new) (size_below n old) (eqb-false at n e) ih)

pub size-less : (old new : SessionSet) (at : ℕ) → TakesFirst old new (Some at) → size new + 1 ≡ size old
unfolding size
size-less old new at t = (size-less_below 64 at old new t.1 t.3).0 t.0
