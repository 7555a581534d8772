-- Tables and their rows: the columns of rows have these rows, and a row has the cells that it is asked for.
use Rattle.std.proofs.Common.{◌≡◌, ℕ, ◌+◌, ◌<◌, ◌++◌, List, [], ◌∷◌, map, length, get_or, refl, sym, ap, ◌∙◌, arith, subst}
use Rattle.std.specs.Prelude.{All}
use Rattle.std.specs.List.{range_with_len}
use Rattle.std.proofs.lemmas.List.{get_or-map, length-map, ext_get_or, map-append}
use Rattle.std.proofs.lemmas.List.Elements.{All-map}
use Rattle.std.proofs.lemmas.List.FromFn.{length-map-range_with_len, get_or-map-range_with_len}
use Rattle.tb_table.specs.declared.cell.Cell.{Cell}
use Rattle.tb_tree.proofs.lists.Ranges.{range_join}
use Rattle.tb_table.specs.Rows.{Rows, no_cell, row_at, rows_of, table_of, column_at, cells_at, AreEven}
use Rattle.tb_table.proofs.RowLaws.{from-places}

abbrev pub columns_of : ℕ → List (List Cell) → List (List Cell)
columns_of width rows = map (λ column. column_at column rows) (range_with_len 0 width)

pub columns-even : (width : ℕ) (rows : List (List Cell)) → AreEven (length rows) (columns_of width rows)
columns-even width rows =
    All-map (λ cells. length cells ≡ length rows) (λ column. column_at column rows) (range_with_len 0 width) (λ k d lt. length-map rows (λ row. get_or row _ no_cell))

pub rows-of-columns : (width : ℕ) (rows : List (List Cell)) → All (λ row. length row ≡ width) rows → rows_of (length rows) (columns_of width rows) ≡ rows
rows-of-columns width rows even =
    ext_get_or [] _ _ (length-map-range_with_len (row_at columns) 0 (length rows))
    (λ k lt. at k (omega (arith, lt, length-map-range_with_len (row_at columns) 0 (length rows))))
  where
    columns : List (List Cell)
    columns = columns_of width rows

    cell : (k : ℕ) → k < length rows → (ns : List ℕ) → row_at (map (λ column. column_at column rows) ns) k ≡ map (λ n. get_or (get_or rows k []) n no_cell) ns
    cell k lt [] = refl
    cell k lt (n ∷ ns) =
        ap (λ c. c ∷ row_at (map (λ column. column_at column rows) ns) k) (get_or-map (λ row. get_or row n no_cell) rows k [] no_cell lt)
        ∙ ap (λ l. get_or (get_or rows k []) n no_cell ∷ l) (cell k lt ns)

    at : (k : ℕ) → k < length rows → get_or (rows_of (length rows) columns) k [] ≡ get_or rows k []
    at k lt =
        get_or-map-range_with_len (row_at columns) 0 (length rows) k k [] lt (omega arith)
        ∙ cell k lt (range_with_len 0 width)
        ∙ sym (from-places no_cell (get_or rows k []) width (even k [] lt))

-- one number more
pub map-range-more : {X : Type 0} (f : ℕ → X) (n : ℕ) → map f (range_with_len 0 (n + 1)) ≡ map f (range_with_len 0 n) ++ f n ∷ []
map-range-more f n =
    ap (map f) (sym (range_join 0 n 1)) ∙ map-append f (range_with_len 0 n) (range_with_len (0 + n) 1)
    ∙ ap (λ k. map f (range_with_len 0 n) ++ f k ∷ []) (let g : 0 + n ≡ n = omega arith in g)

row-length : (count : ℕ) (columns : List (List Cell)) (k : ℕ) → k < count → length (get_or (rows_of count columns) k []) ≡ length columns
row-length count columns k lt =
    ap length (get_or-map-range_with_len (row_at columns) 0 count k k [] lt (omega arith)) ∙ length-map columns (λ cells. get_or cells k no_cell)

rows-again : (count : ℕ) (columns : List (List Cell))
    → map (λ row. cells_at (rows_of count columns) row (range_with_len 0 (length columns))) (range_with_len 0 (length (rows_of count columns))) ≡ rows_of count columns
rows-again count columns =
    ext_get_or [] _ _ (length-map-range_with_len at 0 (length rows))
    (λ k lt. each k (omega (arith, lt, length-map-range_with_len at 0 (length rows))))
  where
    rows : List (List Cell)
    rows = rows_of count columns

    at : ℕ → List Cell
    at row = cells_at rows row (range_with_len 0 (length columns))

    each : (k : ℕ) → k < length rows → get_or (map at (range_with_len 0 (length rows))) k [] ≡ get_or rows k []
    each k lt =
        get_or-map-range_with_len at 0 (length rows) k k [] lt (omega arith)
        ∙ sym (from-places no_cell (get_or rows k []) (length columns) (row-length count columns k (omega (arith, lt, length-map-range_with_len (row_at columns) 0 count))))

-- all cells of all rows are the rows
pub rows-back : (count : ℕ) (columns : List (List Cell)) (t : Rows) → table_of count columns ≡ t
    → map (λ row. cells_at t.rows row (range_with_len 0 t.width)) (range_with_len 0 (length t.rows)) ≡ t.rows
rows-back count columns t view =
    subst (λ v. map (λ row. cells_at v.rows row (range_with_len 0 v.width)) (range_with_len 0 (length v.rows)) ≡ v.rows) view (rows-again count columns)
