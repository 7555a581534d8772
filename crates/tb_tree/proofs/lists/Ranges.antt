-- Ranges of numbers.
use Rattle.std.proofs.Common.{◌≡◌, ℕ, zero, suc, ◌+◌, ◌-◌, ◌<◌, ◌≤◌, ◌⊎◌, inl, inr, List, ◌∷◌, ◌++◌, [], length, get_or, map, All, AllPairs, refl, sym, ap, ap₂, ◌∙◌, subst, arith}
use Rattle.std.specs.List.{range_with_len}
use Rattle.std.proofs.lemmas.Bool.{cases_eq}
use Rattle.std.proofs.lemmas.List.Elements.{All-nil, All-cons, All-head, All-tail}
use Rattle.std.proofs.lemmas.List.Kept.{AllPairs-cons}
use Rattle.tb_tree.proofs.lists.Pairs.{AllPairs-nil}

pub range_join : (a m n : ℕ) → range_with_len a m ++ range_with_len (a + m) n ≡ range_with_len a (m + n)
range_join a zero n = ap₂ range_with_len (omega arith) (omega arith)
range_join a (suc m) n =
    let more : a + suc m ≡ a + 1 + m = omega arith in
    let sum : suc m + n ≡ suc (m + n) = omega arith in
    rw (more, sum) (ap (λ r. a ∷ r) (range_join (a + 1) m n))

-- from a up to m, and on up to n
pub range_split : (a m n : ℕ) → a ≤ m → m ≤ n → range_with_len a (m - a) ++ range_with_len m (n - m) ≡ range_with_len a (n - a)
range_split a m n low high =
    let middle : m ≡ a + (m - a) = omega arith in
    let whole : (m - a) + (n - m) ≡ n - a = omega arith in
    ap (λ k. range_with_len a (m - a) ++ range_with_len k (n - m)) middle ∙ range_join a (m - a) (n - m) ∙ ap (λ k. range_with_len a k) whole

-- the range up to m + 1
pub range_more : (a m : ℕ) → a ≤ m → range_with_len a (m + 1 - a) ≡ range_with_len a (m - a) ++ m ∷ []
range_more a m low =
    let one : m + 1 - m ≡ 1 = omega arith in
    sym (range_split a m (m + 1) low (omega arith)) ∙ ap (λ k. range_with_len a (m - a) ++ range_with_len m k) one

pub range_none : (a b : ℕ) → b ≤ a → range_with_len a (b - a) ≡ []
range_none a b low =
    let none : b - a ≡ 0 = omega arith in
    ap (λ k. range_with_len a k) none

pub All-range : (P : ℕ → Type 0) (a n : ℕ) → ((i : ℕ) → a ≤ i → i < a + n → P i) → All P (range_with_len a n)
All-range P a zero h = All-nil P
All-range P a (suc n) h =
    All-cons P a (range_with_len (a + 1) n) (h a (omega arith) (omega arith)) (All-range P (a + 1) n (λ i low high. h i (omega arith) (omega arith)))

pub All-of_range : (P : ℕ → Type 0) (a n : ℕ) → All P (range_with_len a n) → (i : ℕ) → a ≤ i → i < a + n → P i
All-of_range P a zero h i low high = absurd (omega arith)
All-of_range P a (suc n) h i low high = at (cases_eq a i) (All-of_range P (a + 1) n (All-tail P a (range_with_len (a + 1) n) h) i)
  where
    at : (a ≡ i) ⊎ (a ≡ i → ⊥) → (a + 1 ≤ i → i < a + 1 + n → P i) → P i
    at (inl e) rest = subst P e (All-head P a (range_with_len (a + 1) n) h)
    at (inr ne) rest = rest (omega arith) (omega arith)

-- a list is what stands at its places
pub map-range : {X : Type 0} (d : X) (g : ℕ → X) (lo : ℕ) (xs : List X) → ((i : ℕ) → i < length xs → g (lo + i) ≡ get_or xs i d) → map g (range_with_len lo (length xs)) ≡ xs
map-range d g lo [] at = refl
map-range d g lo (x ∷ xs) at =
    let start : lo + 0 ≡ lo = omega arith in
    ap₂ (λ y ys. y ∷ ys) (ap g (sym start) ∙ at 0 (omega arith))
    (map-range d g (lo + 1) xs (λ i less. let next : lo + 1 + i ≡ lo + suc i = omega arith in ap g next ∙ at (suc i) (omega (arith, less))))

pub range_rises : (a n : ℕ) → AllPairs (λ i k. i < k) (range_with_len a n)
range_rises a zero = AllPairs-nil (λ i k. i < k)
range_rises a (suc n) =
    AllPairs-cons (λ i k. i < k) a (range_with_len (a + 1) n) (All-range (λ k. a < k) (a + 1) n (λ i low high. omega arith)) (range_rises (a + 1) n)
