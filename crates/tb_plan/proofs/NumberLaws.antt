-- The numbers below some number, in their order and turned round.
use Rattle.std.proofs.Common.{◌≡◌, ℕ, ◌+◌, List, ◌∷◌, ◌++◌, [], length, reverse, sym, ap, subst, ◌∙◌, arith}
use Rattle.std.specs.List.Sorted.{IsPermutation}
use Rattle.std.proofs.lemmas.List.FromFn.{length-range_with_len}
use Rattle.std.proofs.lemmas.List.Sorted.{IsPermutation-refl, IsPermutation-reverse, length_permutation}
use Rattle.tb_tree.proofs.lists.Ranges.{range_join}
use Rattle.tb_plan.specs.Orders.{numbers, IsOrder}

pub numbers-more : (n : ℕ) → numbers (n + 1) ≡ numbers n ++ n ∷ []
numbers-more n = sym (range_join 0 n 1) ∙ ap (λ k. numbers n ++ k ∷ []) (omega arith)

-- a list that has each number below n once has n numbers
pub order-length : (n : ℕ) (order : List ℕ) → IsPermutation (numbers n) order → length order ≡ n
order-length n order moved = length_permutation (numbers n) order moved ∙ length-range_with_len 0 n

pub order-of : (n : ℕ) (order : List ℕ) → IsPermutation (numbers n) order → IsOrder order
order-of n order moved = subst (λ m. IsPermutation (numbers m) order) (sym (order-length n order moved)) moved

pub written-order : (n : ℕ) (order : List ℕ) → order ≡ numbers n → IsPermutation (numbers n) order
written-order n order is = subst (λ xs. IsPermutation (numbers n) xs) (sym is) (IsPermutation-refl (numbers n))

pub reverse-order : (n : ℕ) (order : List ℕ) → order ≡ reverse (numbers n) → IsPermutation (numbers n) order
reverse-order n order is = subst (λ xs. IsPermutation (numbers n) xs) (sym is) (IsPermutation-reverse (numbers n))
