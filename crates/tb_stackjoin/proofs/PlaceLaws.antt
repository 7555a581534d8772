-- The first places of a list, and those of them that pass a test.
use Rattle.std.proofs.Common.{◌≡◌, ℕ, ◌+◌, ◌-◌, ◌<◌, ◌≤◌, ◌⊎◌, inl, inr, Bool, true, false, List, [], ◌∷◌, ◌++◌, length, get_or, map, filter, sym, ap, ◌∙◌, subst, arith}
use Rattle.std.specs.List.{range_with_len}
use Rattle.std.proofs.lemmas.Bool.{cases_eq}
use Rattle.std.proofs.lemmas.List.{get_or-map}
use Rattle.tb_span.specs.Seeds.{no_item, label_at, places}
use Rattle.tb_span.specs.declared.item.Item.{Item}
use Rattle.tb_tree.proofs.lists.Filters.{filter_push-yes, filter_push-no}
use Rattle.tb_tree.proofs.lists.Ranges.{range_join}

pub places_join : (m n : ℕ) → m ≤ n → places m ++ range_with_len m (n - m) ≡ places n
places_join m n le =
    let start : m ≡ 0 + m = omega arith in
    let whole : m + (n - m) ≡ n = omega arith in
    ap (λ k. places m ++ range_with_len k (n - m)) start ∙ range_join 0 m (n - m) ∙ ap places whole

pub places-more : (n : ℕ) → places (n + 1) ≡ places n ++ n ∷ []
places-more n =
    let one : n + 1 - n ≡ 1 = omega arith in
    sym (places_join n (n + 1) (omega arith)) ∙ ap (λ k. places n ++ range_with_len n k) one

pub filter_places-yes : (f : ℕ → Bool) (n : ℕ) → f n ≡ true → filter f (places (n + 1)) ≡ filter f (places n) ++ n ∷ []
filter_places-yes f n e = ap (λ xs. filter f xs) (places-more n) ∙ filter_push-yes f (places n) n e

pub filter_places-no : (f : ℕ → Bool) (n : ℕ) → f n ≡ false → filter f (places (n + 1)) ≡ filter f (places n)
filter_places-no f n e = ap (λ xs. filter f xs) (places-more n) ∙ filter_push-no f (places n) n e

-- what holds below a place and at it
pub below-more : (P : ℕ → Type 0) (n : ℕ) → ((i : ℕ) → i < n → P i) → P n → (i : ℕ) → i < n + 1 → P i
below-more P n before here i less = at (cases_eq i n)
  where
    at : (i ≡ n) ⊎ (i ≡ n → ⊥) → P i
    at (inl e) = subst P (sym e) here
    at (inr ne) = before i (omega arith)

-- the label at a place of a list of items that was made of another list
pub label_at-map : {K : Type 0} (f : K → Item) (xs : List K) (i : ℕ) (x : K) → i < length xs → x ≡ get_or xs i x → label_at (map f xs) i ≡ (f x).label
label_at-map f xs i x within is =
    ap (λ (y : Item). y.label) (get_or-map f xs i x no_item within) ∙ ap (λ y. (f y).label) (sym is)
