-- Rows of a group as one row: a column that has nodes in the rows has them all, each once.
use Rattle.std.proofs.Common.{◌≡◌, ℕ, zero, suc, Bool, List, [], ◌∷◌, ◌++◌, length, map, refl, sym, ap, ◌∙◌, arith, append_assoc, append-nil}
use Rattle.std.specs.List.{flat_map, fold, filter, AllByRecursion}
use Rattle.std.proofs.lemmas.List.Elements.{All-from_recursion}
use Rattle.tb_tree.specs.Rows.{NodeIn, nodes, Row, cell_at, nodes_of, is_same}
use Rattle.tb_tree.proofs.lists.Maps.{map-alike, map_same}
use Rattle.tb_tree.proofs.lists.Filters.{filter_same}
use Rattle.tb_tree.proofs.lists.Alls.{all-weaker}
use Rattle.tb_query.specs.Lists.{each_once, grouped}
use Rattle.tb_query.specs.Operators.{merged_cell, merged, once_cell}
use Rattle.tb_query.proofs.GroupLaws.{grouped-for, groups_for}

-- each cell of two rows as one
pub merged-at : (n : ℕ) (row other : Row) → length other ≡ length row → cell_at n (merged row other) ≡ merged_cell (cell_at n row) (cell_at n other)
merged-at n [] [] same = refl
merged-at n [] (d ∷ other) same = absurd (omega (arith, same))
merged-at n (c ∷ row) [] same = absurd (omega (arith, same))
merged-at zero (c ∷ row) (d ∷ other) same = refl
merged-at (suc n) (c ∷ row) (d ∷ other) same = merged-at n row other (omega (arith, same))

pub long-merged : (row other : Row) → length (merged row other) ≡ length row
long-merged [] other = refl
long-merged (c ∷ row) [] = refl
long-merged (c ∷ row) (d ∷ other) = ap suc (long-merged row other)

pub long-fold : (row : Row) (rows : List Row) → length (fold merged row rows) ≡ length row
long-fold row [] = refl
long-fold row (other ∷ rows) = long-fold (merged row other) rows ∙ long-merged row other

-- all nodes of a column, one row after the other
pub fold-at : (n : ℕ) (row : Row) (us : List NodeIn) (rows : List Row) → cell_at n row ≡ nodes us → AllByRecursion (λ r. length r ≡ length row) rows
    → cell_at n (fold merged row rows) ≡ nodes (us ++ flat_map (λ r. nodes_of (cell_at n r)) rows)
fold-at n row us [] is same = is ∙ ap nodes (sym (append-nil us))
fold-at n row us (other ∷ rows) is same =
    fold-at n (merged row other) (us ++ nodes_of (cell_at n other)) rows
    (merged-at n row other same.0 ∙ ap (λ c. merged_cell c (cell_at n other)) is)
    (all-weaker (λ r. length r ≡ length row) (λ r. length r ≡ length (merged row other)) rows (λ r e. e ∙ sym (long-merged row other)) same.1)
    ∙ ap nodes (append_assoc us (nodes_of (cell_at n other)) (flat_map (λ r. nodes_of (cell_at n r)) rows))

pub once-at : (n : ℕ) (row : Row) (us : List NodeIn) → cell_at n row ≡ nodes us → cell_at n (map once_cell row) ≡ nodes (each_once is_same us)
once-at n row us is = by n row ∙ ap once_cell is
  where
    by : (k : ℕ) (r : Row) → cell_at k (map once_cell r) ≡ once_cell (cell_at k r)
    by k [] = refl
    by zero (c ∷ r) = refl
    by (suc k) (c ∷ r) = by k r

-- Groups by two keys that agree on the items are the same.
pub grouped-alike : {A B : Type 0} (key other : A → B) (same : B → B → Bool) (xs : List A) → AllByRecursion (λ x. key x ≡ other x) xs
    → grouped (λ x y. same (key x) (key y)) xs ≡ grouped (λ x y. same (other x) (other y)) xs
grouped-alike {A} {B} key other same xs agree =
    sym (grouped-for key same xs)
    ∙ ap (λ keys. groups_for key same (each_once same keys) xs) (map_same key other xs (All-from_recursion (λ x. key x ≡ other x) xs agree))
    ∙ map-alike (λ k. filter (λ x. same k (key x)) xs) (λ k. filter (λ x. same k (other x)) xs)
    (λ k. filter_same (λ x. same k (key x)) (λ x. same k (other x)) xs
    (All-from_recursion (λ x. same k (key x) ≡ same k (other x)) xs
    (all-weaker (λ x. key x ≡ other x) (λ x. same k (key x) ≡ same k (other x)) xs (λ x e. ap (same k) e) agree)))
    (each_once same (map other xs))
    ∙ grouped-for other same xs
