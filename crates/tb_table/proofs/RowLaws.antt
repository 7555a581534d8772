-- Rows and columns: what is done to columns, as what is done to rows.
use Rattle.std.proofs.Common.{◌≡◌, ℕ, zero, suc, ◌+◌, ◌<◌, ◌≤◌, Bool, true, false, List, [], ◌∷◌, ◌++◌, map, length, get_or, refl, sym, ap, ◌∙◌, subst, arith}
use Rattle.std.specs.Prelude.{All}
use Rattle.std.specs.List.{range_with_len}
use Rattle.std.proofs.lemmas.List.{get_or-map, map_push, map-append, length-map, length_push, get_or_at, ext_get_or, append_assoc, get_or_default, get_or_past}
use Rattle.std.proofs.lemmas.List.Elements.{All-map, All-push, All-append}
use Rattle.std.proofs.lemmas.List.FromFn.{length-map-range_with_len, get_or-map-range_with_len}
use Rattle.tb_table.specs.declared.cell.Cell.{Cell}
use Rattle.tb_table.specs.Rows.{Rows, no_cell, row_at, rows_of, table_of, AreEven, picked, with_cells, beside, kept, positions_of}

-- a list from its places
pub from-places : {A : Type 0} (d : A) (xs : List A) (n : ℕ) → length xs ≡ n → xs ≡ map (λ i. get_or xs i d) (range_with_len 0 n)
from-places {A} d xs n long =
    ext_get_or d xs _ (long ∙ sym (length-map-range_with_len at 0 n)) (λ k lt. sym (get_or-map-range_with_len at 0 n k k d (omega (arith, lt)) (omega arith)))
  where
    at : ℕ → A
    at i = get_or xs i d

-- a function of the items of these numbers
pub map-picked : {A B : Type 0} (f : A → B) (d : A) (e : B) (xs : List A) (picks : List ℕ) → All (λ p. p < length xs) picks → map f (picked d xs picks) ≡ picked e (map f xs) picks
map-picked f d e xs [] h = refl
map-picked f d e xs (p ∷ picks) h =
    ap (λ b. b ∷ map f (picked d xs picks)) (sym (get_or-map f xs p d e (h 0 p (omega arith))))
    ∙ ap (λ l. get_or (map f xs) p e ∷ l) (map-picked f d e xs picks (λ k c lt. h (suc k) c (omega (arith, lt))))

-- what holds of all items holds of those of these numbers
pub all-picked : {A : Type 0} (P : A → Type 0) (d : A) (xs : List A) (picks : List ℕ) → All P xs → All (λ p. p < length xs) picks → All P (picked d xs picks)
all-picked P d xs picks all h = All-map P (λ p. get_or xs p d) picks (λ k c lt. all _ d (h k c lt))

-- the numbers are in the list of another length
pub all-below : {A B : Type 0} (xs : List A) (ys : List B) (picks : List ℕ) → length xs ≡ length ys → All (λ p. p < length xs) picks → All (λ p. p < length ys) picks
all-below xs ys picks e h k d lt = let below = h k d lt in omega (arith, below, e)

-- rows side by side
pub beside-map : {A : Type 0} (f g : A → List Cell) (xs : List A) → beside (map f xs) (map g xs) ≡ map (λ x. f x ++ g x) xs
beside-map f g [] = refl
beside-map f g (x ∷ xs) = ap (λ l. (f x ++ g x) ∷ l) (beside-map f g xs)

pub rows-beside : (count : ℕ) (columns others : List (List Cell)) → rows_of count (columns ++ others) ≡ beside (rows_of count columns) (rows_of count others)
rows-beside count columns others =
    both (range_with_len 0 count) ∙ sym (beside-map (row_at columns) (row_at others) (range_with_len 0 count))
  where
    both : (ns : List ℕ) → map (row_at (columns ++ others)) ns ≡ map (λ n. row_at columns n ++ row_at others n) ns
    both [] = refl
    both (n ∷ ns) = ap (λ r. r ∷ map (row_at (columns ++ others)) ns) (map-append (λ cells. get_or cells n no_cell) columns others) ∙ ap (λ l. (row_at columns n ++ row_at others n) ∷ l) (both ns)

-- a column more
pub with_cells-map : {A : Type 0} (f : A → List Cell) (g : A → Cell) (xs : List A) → with_cells (map f xs) (map g xs) ≡ map (λ x. f x ++ g x ∷ []) xs
with_cells-map f g [] = refl
with_cells-map f g (x ∷ xs) = ap (λ l. (f x ++ g x ∷ []) ∷ l) (with_cells-map f g xs)

pub rows-push : (count : ℕ) (columns : List (List Cell)) (cells : List Cell) → length cells ≡ count → rows_of count (columns ++ cells ∷ []) ≡ with_cells (rows_of count columns) cells
rows-push count columns cells long =
    both (range_with_len 0 count)
    ∙ sym (with_cells-map (row_at columns) (λ i. get_or cells i no_cell) (range_with_len 0 count))
    ∙ ap (with_cells (rows_of count columns)) (sym (from-places no_cell cells count long))
  where
    both : (ns : List ℕ) → map (row_at (columns ++ cells ∷ [])) ns ≡ map (λ n. row_at columns n ++ get_or cells n no_cell ∷ []) ns
    both [] = refl
    both (n ∷ ns) = ap (λ r. r ∷ map (row_at (columns ++ cells ∷ [])) ns) (map_push (λ c. get_or c n no_cell) columns cells) ∙ ap (λ l. (row_at columns n ++ get_or cells n no_cell ∷ []) ∷ l) (both ns)

-- rows of these numbers
pub rows-picked : (count : ℕ) (columns : List (List Cell)) (picks : List ℕ) → All (λ p. p < count) picks → rows_of (length picks) (map (λ cells. picked no_cell cells picks) columns) ≡ picked [] (rows_of count columns) picks
rows-picked count columns picks h =
    ext_get_or [] _ _ (length-map-range_with_len (row_at gathered) 0 (length picks) ∙ sym (length-map picks (λ p. get_or (rows_of count columns) p [])))
    (λ k lt. at k (omega (arith, lt, length-map-range_with_len (row_at gathered) 0 (length picks))))
  where
    gathered : List (List Cell)
    gathered = map (λ cells. picked no_cell cells picks) columns

    cell : (k : ℕ) → k < length picks → (cs : List (List Cell)) → row_at (map (λ cells. picked no_cell cells picks) cs) k ≡ row_at cs (get_or picks k 0)
    cell k lt [] = refl
    cell k lt (c ∷ cs) =
        ap (λ x. x ∷ row_at (map (λ cells. picked no_cell cells picks) cs) k) (get_or-map (λ p. get_or c p no_cell) picks k 0 no_cell lt)
        ∙ ap (λ l. get_or c (get_or picks k 0) no_cell ∷ l) (cell k lt cs)

    at : (k : ℕ) → k < length picks → get_or (rows_of (length picks) gathered) k [] ≡ get_or (picked [] (rows_of count columns) picks) k []
    at k lt =
        get_or-map-range_with_len (row_at gathered) 0 (length picks) k k [] lt (omega arith)
        ∙ cell k lt columns
        ∙ sym (get_or-map-range_with_len (row_at columns) 0 count (get_or picks k 0) (get_or picks k 0) [] (h k 0 lt) (omega arith))
        ∙ sym (get_or-map (λ p. get_or (rows_of count columns) p []) picks k 0 [] lt)

-- how many rows there are, and the cell of one
pub length-rows : (count : ℕ) (columns : List (List Cell)) → length (rows_of count columns) ≡ count
length-rows count columns = length-map-range_with_len (row_at columns) 0 count

pub cell-at : (count : ℕ) (columns : List (List Cell)) (row column : ℕ) → row < count → column < length columns
    → get_or (get_or (rows_of count columns) row []) column no_cell ≡ get_or (get_or columns column []) row no_cell
cell-at count columns row column low there =
    ap (λ r. get_or r column no_cell) (get_or-map-range_with_len (row_at columns) 0 count row row [] low (omega arith))
    ∙ get_or-map (λ cells. get_or cells row no_cell) columns column [] no_cell there

-- the rows whose mark is true
pub picked-kept : {A : Type 0} (d : A) (before xs : List A) (marks : List Bool) (n : ℕ) → length before ≡ n → length marks ≡ length xs → picked d (before ++ xs) (positions_of n marks) ≡ kept marks xs
picked-kept d before [] [] n long same = refl
picked-kept d before (x ∷ xs) [] n long same = absurd (omega (arith, same))
picked-kept d before [] (m ∷ marks) n long same = absurd (omega (arith, same))
picked-kept d before (x ∷ xs) (true ∷ marks) n long same =
    ap (λ y. y ∷ picked d (before ++ x ∷ xs) (positions_of (n + 1) marks)) (get_or_at before x xs d n long)
    ∙ ap (λ l. x ∷ l) (ap (λ l. picked d l (positions_of (n + 1) marks)) (sym (append_assoc before (x ∷ []) xs)) ∙ picked-kept d (before ++ x ∷ []) xs marks (n + 1) (length_push before x ∙ ap (λ k. k + 1) long) (omega (arith, same)))
picked-kept d before (x ∷ xs) (false ∷ marks) n long same =
    ap (λ l. picked d l (positions_of (n + 1) marks)) (sym (append_assoc before (x ∷ []) xs)) ∙ picked-kept d (before ++ x ∷ []) xs marks (n + 1) (length_push before x ∙ ap (λ k. k + 1) long) (omega (arith, same))

pub positions-below : (marks : List Bool) (n count : ℕ) → n + length marks ≤ count → All (λ p. p < count) (positions_of n marks)
positions-below [] n count le k d lt = absurd (omega (arith, lt))
positions-below (true ∷ marks) n count le zero d lt = omega (arith, le)
positions-below (true ∷ marks) n count le (suc k) d lt = positions-below marks (n + 1) count (omega (arith, le)) k d (omega (arith, lt))
positions-below (false ∷ marks) n count le k d lt = positions-below marks (n + 1) count (omega (arith, le)) k d lt

-- columns stay even
pub even-push : (count : ℕ) (columns : List (List Cell)) (cells : List Cell) → length cells ≡ count → AreEven count columns → AreEven count (columns ++ cells ∷ [])
even-push count columns cells long even = All-push (λ c. length c ≡ count) columns cells even long

pub even-picked : (columns : List (List Cell)) (picks : List ℕ) → AreEven (length picks) (map (λ cells. picked no_cell cells picks) columns)
even-picked columns picks = All-map (λ c. length c ≡ length picks) (λ cells. picked no_cell cells picks) columns (λ k d lt. length-map picks (λ p. get_or _ p no_cell))

-- cells that are made of items, of these numbers
below-items : {A : Type 0} (f : A → Cell) (xs : List A) (cells : List Cell) (picks : List ℕ) → cells ≡ map f xs → All (λ p. p < length cells) picks → All (λ p. p < length xs) picks
below-items f xs cells picks is h = all-below cells xs picks (ap length is ∙ length-map xs f) h

pub cells-picked : {A : Type 0} (f : A → Cell) (d : A) (xs ys : List A) (cells : List Cell) (picks : List ℕ) → cells ≡ map f xs → All (λ p. p < length cells) picks → ys ≡ picked d xs picks → map f ys ≡ picked no_cell cells picks
cells-picked f d xs ys cells picks is h e =
    ap (map f) e ∙ map-picked f d no_cell xs picks (below-items f xs cells picks is h) ∙ ap (λ l. picked no_cell l picks) (sym is)

pub items-picked : {A : Type 0} (P : A → Type 0) (f : A → Cell) (d : A) (xs ys : List A) (cells : List Cell) (picks : List ℕ) → cells ≡ map f xs → All (λ p. p < length cells) picks → ys ≡ picked d xs picks → All P xs → All P ys
items-picked P f d xs ys cells picks is h e all = subst (All P) (sym e) (all-picked P d xs picks all (below-items f xs cells picks is h))

-- a table and its columns
pub count-rows : (count : ℕ) (columns : List (List Cell)) (t : Rows) → table_of count columns ≡ t → count ≡ length t.rows
count-rows count columns t e = sym (length-rows count columns) ∙ ap (λ u. length u.rows) e

pub there-cell : (count row column : ℕ) (columns : List (List Cell)) (cells : List Cell) (t : Rows) → table_of count columns ≡ t → AreEven count columns → cells ≡ get_or columns column cells → column < length columns → row < length t.rows
    → (row < length cells) × (get_or cells row no_cell ≡ get_or (get_or t.rows row []) column no_cell)
there-cell count row column columns cells t view even at there low =
    let in_count : row < count = omega (arith, low, count-rows count columns t view) in
    let long : length (get_or columns column cells) ≡ count = even column cells there in (
      omega (arith, in_count, long, ap length at),
      ap (λ c. get_or c row no_cell) (at ∙ get_or_default columns column cells [] there)
          ∙ sym (cell-at count columns row column in_count there)
          ∙ ap (λ u. get_or (get_or u.rows row []) column no_cell) view,
    )

pub no-cell : (count row column : ℕ) (columns : List (List Cell)) (t : Rows) → table_of count columns ≡ t → length columns ≤ column → row < length t.rows → no_cell ≡ get_or (get_or t.rows row []) column no_cell
no-cell count row column columns t view past low =
    let in_count : row < count = omega (arith, low, count-rows count columns t view) in
    sym (ap (λ u. get_or (get_or u.rows row []) column no_cell) (sym view)
    ∙ ap (λ r. get_or r column no_cell) (get_or-map-range_with_len (row_at columns) 0 count row row [] in_count (omega arith))
    ∙ get_or_past (row_at columns row) column no_cell (omega (arith, past, length-map columns (λ cells. get_or cells row no_cell))))

-- a column more
pub push-even : (count : ℕ) (columns made : List (List Cell)) (cells : List Cell) (t : Rows) → table_of count columns ≡ t → AreEven count columns → length cells ≡ length t.rows → made ≡ columns ++ cells ∷ [] → AreEven count made
push-even count columns made cells t view even long is =
    subst (AreEven count) (sym is) (even-push count columns cells (long ∙ sym (count-rows count columns t view)) even)

pub push-rows : (count : ℕ) (columns made : List (List Cell)) (cells : List Cell) (t : Rows) → table_of count columns ≡ t → length cells ≡ length t.rows → made ≡ columns ++ cells ∷ [] → rows_of count made ≡ with_cells t.rows cells
push-rows count columns made cells t view long is =
    ap (rows_of count) is ∙ rows-push count columns cells (long ∙ sym (count-rows count columns t view)) ∙ ap (λ u. with_cells u.rows cells) view

-- tables side by side
pub same-count : (count other : ℕ) (columns others : List (List Cell)) (t u : Rows) → table_of count columns ≡ t → table_of other others ≡ u → length u.rows ≡ length t.rows → other ≡ count
same-count count other columns others t u view seen long = count-rows other others u seen ∙ long ∙ sym (count-rows count columns t view)

-- what was gathered from a slice
pub slice-picked : {A : Type 0} (d : A) (xs slice ys : List A) (picks : List ℕ) → slice ≡ xs → ys ≡ picked d slice picks → ys ≡ picked d xs picks
slice-picked d xs slice ys picks same e = e ∙ ap (λ l. picked d l picks) same

-- columns that an iterator gave
pub even-all : (count : ℕ) (all : List (List Cell)) (n : ℕ) (cells : List Cell) → AreEven count all → (n < length all) × (cells ≡ get_or all n cells) → length cells ≡ count
even-all count all n cells even at = ap length at.1 ∙ even n cells at.0

pub even-beside : (count : ℕ) (columns others made : List (List Cell)) (n : ℕ) → AreEven count columns → AreEven n others → n ≡ count → made ≡ columns ++ others → AreEven count made
even-beside count columns others made n even seen same is =
    subst (AreEven count) (sym is) (All-append (λ c. length c ≡ count) columns others even (λ k d lt. seen k d lt ∙ same))

pub beside-rows : (count n : ℕ) (columns others made : List (List Cell)) (t u : Rows) → table_of count columns ≡ t → table_of n others ≡ u → n ≡ count → made ≡ columns ++ others → rows_of count made ≡ beside t.rows u.rows
beside-rows count n columns others made t u view seen same is =
    ap (rows_of count) is ∙ rows-beside count columns others
    ∙ ap (λ v. beside v.rows (rows_of count others)) view
    ∙ ap (λ v. beside t.rows v.rows) (ap (λ k. table_of k others) (sym same) ∙ seen)

-- gathered rows
pub gathered-rows : (count : ℕ) (columns made : List (List Cell)) (picks : List ℕ) (t : Rows) → table_of count columns ≡ t → All (λ p. p < length t.rows) picks → made ≡ map (λ cells. picked no_cell cells picks) columns → rows_of (length picks) made ≡ picked [] t.rows picks
gathered-rows count columns made picks t view h is =
    ap (rows_of (length picks)) is
    ∙ rows-picked count columns picks (λ k d lt. let below = h k d lt in omega (arith, below, count-rows count columns t view))
    ∙ ap (λ v. picked [] v.rows picks) view

pub picks-below : (count : ℕ) (columns : List (List Cell)) (cells : List Cell) (picks : List ℕ) (t : Rows) → table_of count columns ≡ t → length cells ≡ count → All (λ p. p < length t.rows) picks → All (λ p. p < length cells) picks
picks-below count columns cells picks t view long h k d lt = let below = h k d lt in omega (arith, below, long, count-rows count columns t view)
