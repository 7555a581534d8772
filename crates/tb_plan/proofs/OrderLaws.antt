-- A list is an order exactly where it has each number below its length.
use Rattle.std.proofs.Common.{◌≡◌, ℕ, zero, suc, ◌+◌, ◌<◌, true, ◌||◌, nat_eq, ◌⊎◌, inl, inr, All, List, [], ◌∷◌, ◌++◌, length, get_or, sym, ap, subst, ◌∙◌, arith, length-append}
use Rattle.std.specs.List.Sorted.{IsPermutation}
use Rattle.std.proofs.lemmas.Bool.{cases_eq, eqb-true, eq-eqb, ne_eqb, or_cases, false≢true}
use Rattle.std.proofs.lemmas.List.Folds.{list_any-append, list_any_at}
use Rattle.std.proofs.lemmas.List.FromFn.{length-range_with_len, get_or-range_with_len}
use Rattle.std.proofs.lemmas.List.Sorted.{IsPermutation-refl, IsPermutation-sym, IsPermutation-cons, IsPermutation-to_front, IsPermutation-middle, IsPermutation-trans, list_any-IsPermutation, All-permutation}
use Rattle.tb_tree.proofs.lists.Ranges.{All-range}
use Rattle.tb_plan.specs.Orders.{numbers}
use Rattle.tb_plan.specs.Marks.{has}
use Rattle.tb_plan.proofs.NumberLaws.{numbers-more}

-- what stands before and behind a number
record Around (n : ℕ) (xs : List ℕ) : Type 0 where
  before : List ℕ
  behind : List ℕ
  is : xs ≡ before ++ n ∷ behind

around-cons : (n x : ℕ) (xs : List ℕ) → (has xs n ≡ true → Around n xs) → (nat_eq x n ≡ true) ⊎ (has xs n ≡ true) → Around n (x ∷ xs)
around-cons n x xs later (inl here) = record { before = []; behind = xs; is = ap (λ y. y ∷ xs) (eqb-true x n here) }
around-cons n x xs later (inr there) =
    let found = later there in
    record { before = x ∷ found.before; behind = found.behind; is = ap (λ ys. x ∷ ys) found.is }

around : (n : ℕ) (xs : List ℕ) → has xs n ≡ true → Around n xs
around n [] h = absurd (false≢true h)
around n (x ∷ xs) h = around-cons n x xs (around n xs) (or_cases (nat_eq x n) (has xs n) h)

-- another number than the one that is taken out stays
has-others : (n k : ℕ) (before behind : List ℕ) → (n ≡ k → ⊥) → has (before ++ n ∷ behind) k ≡ true → has (before ++ behind) k ≡ true
has-others n k before behind other h =
    let test = λ (x : ℕ). nat_eq x k in
    let skip : (nat_eq n k || has behind k) ≡ has behind k = ap (λ b. b || has behind k) (ne_eqb n k other) in
    list_any-append test before behind ∙ ap (λ b. has before k || b) (sym skip) ∙ sym (list_any-append test before (n ∷ behind)) ∙ h

-- A list with each number below its length: the greatest one is taken out, and what is left has all others.
pub each-order : (n : ℕ) (xs : List ℕ) → length xs ≡ n → ((k : ℕ) → k < n → has xs k ≡ true) → IsPermutation (numbers n) xs
each-order zero [] long each = IsPermutation-refl []
each-order zero (x ∷ xs) long each = absurd (omega (arith, long))
each-order (suc n) xs long each =
    let at = around n xs (each n (omega arith)) in
    let rest = at.before ++ at.behind in
    let shorter : length rest ≡ n = omega (arith, long, ap length at.is, length-append at.before at.behind, length-append at.before (n ∷ at.behind)) in
    let others : (k : ℕ) → k < n → has rest k ≡ true = λ k low. has-others n k at.before at.behind (omega arith) (subst (λ ys. has ys k ≡ true) at.is (each k (omega arith))) in
    let moved = IsPermutation-cons n (numbers n) rest (each-order n rest shorter others) in
    let middle = IsPermutation-sym (at.before ++ n ∷ at.behind) (n ∷ rest) (IsPermutation-middle at.before n at.behind) in
    let last = subst (λ ys. IsPermutation ys (n ∷ numbers n)) (sym (numbers-more n)) (IsPermutation-to_front (numbers n) n) in
    let whole = IsPermutation-trans (numbers (n + 1)) (n ∷ rest) (at.before ++ n ∷ at.behind) (IsPermutation-trans (numbers (n + 1)) (n ∷ numbers n) (n ∷ rest) last moved) middle in
    let more : n + 1 ≡ suc n = omega arith in
    subst (λ m. IsPermutation (numbers m) xs) more (subst (λ ys. IsPermutation (numbers (n + 1)) ys) (sym at.is) whole)

pub order-each : (n : ℕ) (xs : List ℕ) → IsPermutation (numbers n) xs → (k : ℕ) → k < n → has xs k ≡ true
order-each n xs moved k low =
    let test = λ (x : ℕ). nat_eq x k in
    let there = get_or-range_with_len 0 n k k low in
    let long = length-range_with_len 0 n in
    sym (list_any-IsPermutation test (numbers n) xs moved)
    ∙ list_any_at test (numbers n) k k (omega (arith, long)) (eq-eqb (get_or (numbers n) k k) k (omega (arith, there)))

-- one number more is in the list
pub each-more : (xs : List ℕ) (i : ℕ) → ((k : ℕ) → k < i → has xs k ≡ true) → has xs i ≡ true → (k : ℕ) → k < i + 1 → has xs k ≡ true
each-more xs i each next k low = by (cases_eq i k)
  where
    by : (i ≡ k) ⊎ (i ≡ k → ⊥) → has xs k ≡ true
    by (inl same) = subst (λ j. has xs j ≡ true) same next
    by (inr other) = each k (omega (arith, other))

-- no number is past the greatest
pub order-below : (n : ℕ) (xs : List ℕ) → IsPermutation (numbers n) xs → All (λ x. x < n) xs
order-below n xs moved = All-permutation (λ x. x < n) (numbers n) xs moved (All-range (λ x. x < n) 0 n (λ i low high. omega arith))
