-- What is done to rows, as it is done to rows that are seen.
use Rattle.std.proofs.Common.{◌≡◌, ℕ, zero, suc, ◌<◌, ◌≤◌, List, [], ◌∷◌, ◌++◌, map, length, get_or, refl, sym, ap, ◌∙◌, arith}
use Rattle.std.specs.Prelude.{All}
use Rattle.std.proofs.lemmas.List.{map_push}
use Rattle.std.proofs.lemmas.List.Elements.{All-push, All-cons, All-nil}
use Rattle.tb_tree.specs.Documents.{Docs}
use Rattle.tb_tree.specs.Rows as plain
use Rattle.tb_table.specs.declared.cell.Cell.{Cell}
use Rattle.tb_table.specs.declared.cell.Cell.TheVariants.{Nodes, Value}
use Rattle.tb_table.specs.Rows.{no_cell, with_cells}
use Rattle.tb_table.specs.Seen.{cell_seen, row_seen, rows_seen, IsOver, AreOver}

-- the cell of a row
pub cell-seen : (docs : Docs) (row : List Cell) (n : ℕ) → plain.cell_at n (row_seen docs row) ≡ cell_seen docs (get_or row n no_cell)
cell-seen docs [] n = refl
cell-seen docs (c ∷ row) zero = refl
cell-seen docs (c ∷ row) (suc n) = cell-seen docs row n

-- a row with one cell more
pub row-pushed : (docs : Docs) (row : List Cell) (c : Cell) → row_seen docs (row ++ c ∷ []) ≡ row_seen docs row ++ cell_seen docs c ∷ []
row-pushed docs row c = map_push (cell_seen docs) row c

all-rest : {X : Type 0} (P : X → Type 0) (x : X) (xs : List X) → All P (x ∷ xs) → All P xs
all-rest P x xs all k d lt = all (suc k) d (omega (arith, lt))

pub over-with_cells : (docs : Docs) (rows : List (List Cell)) (cells : List Cell) → AreOver docs rows → All (IsOver docs) cells → AreOver docs (with_cells rows cells)
over-with_cells docs [] cells over own = over
over-with_cells docs (row ∷ rows) [] over own = over
over-with_cells docs (row ∷ rows) (c ∷ cells) over own =
    All-cons (All (IsOver docs)) (row ++ c ∷ []) (with_cells rows cells)
    (All-push (IsOver docs) row c (over 0 row (omega arith)) (own 0 c (omega arith)))
    (over-with_cells docs rows cells (all-rest (All (IsOver docs)) row rows over) (all-rest (IsOver docs) c cells own))
