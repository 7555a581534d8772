-- Tables as lists of rows, and what is done to them.
use Rattle.std.specs.Prelude.{◌≡◌, ℕ, ◌+◌, Bool, if◌then◌else◌, List, [], ◌∷◌, ◌++◌, map, option_map, get_or, length, All}
use Rattle.std.specs.List.{range_with_len}
use Rattle.tb_table.specs.declared.cell.Cell.{Cell}
use Rattle.tb_table.specs.declared.cell.Cell.TheVariants.{Nodes, Value}
use Rattle.tb_table.specs.declared.cell.CellRef.{CellRef}
use Rattle.tb_table.specs.declared.cell.CellRef.TheVariants as lent

-- how many columns a table has, and its rows, each with a cell a column
pub record Rows : Type 0 where
  pub width : ℕ
  pub rows : List (List Cell)

-- what a cell is where there is none
abbrev pub no_cell : Cell
no_cell = Nodes []

-- a lent cell as it is
abbrev pub cell_of : CellRef → Cell
cell_of (lent.Nodes nodes) = Nodes nodes.now
cell_of (lent.Value value) = Value (option_map (λ v. v.now) value)

-- the row of a number, from the columns
abbrev pub row_at : List (List Cell) → ℕ → List Cell
row_at columns n = map (λ cells. get_or cells n no_cell) columns

-- so many rows, from the columns
abbrev pub rows_of : ℕ → List (List Cell) → List (List Cell)
rows_of count columns = map (row_at columns) (range_with_len 0 count)

abbrev pub table_of : ℕ → List (List Cell) → Rows
table_of count columns = record { width = length columns; rows = rows_of count columns }

-- each column has so many cells
abbrev pub AreEven : ℕ → List (List Cell) → Type 0
AreEven count columns = All (λ cells. length cells ≡ count) columns

-- the items of these numbers
abbrev pub picked : {A : Type 0} → A → List A → List ℕ → List A
picked d xs picks = map (λ p. get_or xs p d) picks

-- each row with one cell more
abbrev pub with_cells : List (List Cell) → List Cell → List (List Cell)
with_cells (row ∷ rows) (c ∷ cells) = (row ++ c ∷ []) ∷ with_cells rows cells
with_cells rows cells = rows

-- the rows of two tables side by side
abbrev pub beside : List (List Cell) → List (List Cell) → List (List Cell)
beside (row ∷ rows) (other ∷ others) = (row ++ other) ∷ beside rows others
beside rows others = rows

-- the items whose mark is true
abbrev pub kept : {A : Type 0} → List Bool → List A → List A
kept (m ∷ marks) (x ∷ xs) = if m then x ∷ kept marks xs else kept marks xs
kept marks xs = []

-- the places of the marks, the first of which has this number
abbrev pub positions_of : ℕ → List Bool → List ℕ
positions_of n [] = []
positions_of n (m ∷ marks) = if m then n ∷ positions_of (n + 1) marks else positions_of (n + 1) marks

-- the cells of a column, from the rows
abbrev pub column_at : ℕ → List (List Cell) → List Cell
column_at column rows = map (λ row. get_or row column no_cell) rows

-- the cells of a row in these columns
abbrev pub cells_at : List (List Cell) → ℕ → List ℕ → List Cell
cells_at rows row columns = map (λ column. get_or (get_or rows row []) column no_cell) columns
