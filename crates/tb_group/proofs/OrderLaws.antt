-- Rows that are sorted by what the program keeps of their keys are in the order that is meant.
use Rattle.std.proofs.Common.{◌≡◌, ℕ, ◌+◌, ◌<◌, Bool, true, false, List, [], ◌∷◌, ◌++◌, map, length, get_or, Option, refl, sym, ap, ap₂, ◌∙◌, subst, arith, Less, Equal, Greater, Ordering}
use Rattle.std.specs.Prelude.{All}
use Rattle.std.specs.Global.{Vec}
use Rattle.std.specs.List.{range_with_len}
use Rattle.std.specs.List.Sorted.{IsPermutation}
use Rattle.std.specs.Ordering.{ordering_then}
use Rattle.std.specs.Option.{option_map}
use Rattle.std.specs.Cmp.Lexicographic.{slice_cmp}
use Rattle.std.proofs.Math.ListN as anywhere
use Rattle.std.proofs.lemmas.List.{get_or-map, length-map, map-append, map-id}
use Rattle.std.proofs.lemmas.List.Sorted.{All-permutation}
use Rattle.std.proofs.lemmas.Simd.{map-map}
use Rattle.tb_tree.proofs.lists.Ranges.{range_join, All-range}
use Rattle.tb_tree.specs.Documents.{Docs}
use Rattle.tb_tree.specs.Rows as plain
use Rattle.tb_number.specs.Keys.{sorted_as, sorted_cmp}
use Rattle.tb_number.specs.declared.sort_key.SortKey.{SortKey}
use Rattle.tb_number.proofs.KeyLaws.{sorted_cmp-total}
use Rattle.tb_query.specs.Lists.{sorted}
use Rattle.tb_query.specs.Operators.{row_keys, ordered_rows}
use Rattle.tb_query.specs.Order.{sort_cmp, sort_values_cmp}
use Rattle.tb_query.proofs.GroupLaws.{all-numbered}
use Rattle.tb_table.specs.declared.cell.Cell.{Cell}
use Rattle.tb_table.specs.declared.text.Text.{Text}
use Rattle.tb_table.specs.Rows.{picked}
use Rattle.tb_table.specs.Seen.{row_seen, rows_seen, AreOver, IsOver}
use Rattle.tb_table.specs.Texts.{text_of}
use Rattle.tb_table.proofs.RowLaws.{all-picked}
use Rattle.tb_group.specs.Firsts.{texts_of, first_at, firsts}
use Rattle.tb_group.specs.Parts.{part_of, part_cmp, KeyedRow, keyed_cmp, parts_at, keyed_at}
use Rattle.tb_group.specs.Ordered.{key_columns, columns_of, AreLong}
use Rattle.tb_group.proofs.SortLaws.{sorted-map}
use mathlib.Core.Path.{fun_ext}

-- one number more
pub map-range : {A : Type 0} (f : ℕ → A) (n : ℕ) → map f (range_with_len 0 (n + 1)) ≡ map f (range_with_len 0 n) ++ f n ∷ []
map-range f n =
    let z : 0 + n ≡ n = omega arith in
    ap (map f) (sym (range_join 0 n 1) ∙ ap (λ m. range_with_len 0 n ++ range_with_len m 1) z) ∙ map-append f (range_with_len 0 n) (n ∷ [])

-- The columns of keys are as long as there are rows.
pub columns-long : (docs : Docs) (keys : List SortKey) (rows : List (List Cell)) (columns : List (Vec (Option Text))) → columns_of columns ≡ key_columns docs keys rows → AreLong (length rows) columns
columns-long docs keys rows columns are k d lt =
    let many : length columns ≡ length keys = sym (length-map columns (λ (c : Vec (Option Text)). texts_of c.items)) ∙ ap length are ∙ length-map keys (λ (s : SortKey). firsts docs s.column rows) in
    let e : SortKey = record { column = 0; descending = false } in
    sym (length-map (get_or columns k d).items (option_map text_of))
    ∙ ap length
    (sym (get_or-map (λ (c : Vec (Option Text)). texts_of c.items) columns k d [] lt)
    ∙ ap (λ l. get_or l k []) are
    ∙ get_or-map (λ (s : SortKey). firsts docs s.column rows) keys k e [] (omega (arith, lt, many)))
    ∙ length-map rows (first_at docs (get_or keys k e).column)

-- the keys of a row, by its number
parts-of-row : (docs : Docs) (keys : List SortKey) (rows : List (List Cell)) (i : ℕ)
    → parts_at (key_columns docs keys rows) keys i ≡ map (λ (k : SortKey). part_of (first_at docs k.column (get_or rows i [])) k.descending) keys
parts-of-row docs [] rows i = refl
parts-of-row docs (k ∷ keys) rows i =
    ap₂ (λ v ps. part_of v k.descending ∷ ps) (anywhere.get_or-map (first_at docs k.column) rows i []) (parts-of-row docs keys rows i)

-- Keys of one column are ordered as their values are.

then-equal : (o : Ordering) → ordering_then o Equal ≡ o
then-equal Less = refl
then-equal Equal = refl
then-equal Greater = refl

part-order : (v w : Option (List ℕ)) (descending : Bool) → sort_cmp (record { value = v; descending = descending }) (record { value = w; descending = descending }) ≡ part_cmp (part_of v descending) (part_of w descending)
part-order v w false = sym (then-equal (sorted_cmp (sorted_as v) (sorted_as w)))
part-order v w true = sym (sorted_cmp-total.antisymm (sorted_as w) (sorted_as v))

parts-order : (keys : List SortKey) (f g : SortKey → Option (List ℕ))
    → sort_values_cmp (map (λ (k : SortKey). record { value = f k; descending = k.descending }) keys) (map (λ (k : SortKey). record { value = g k; descending = k.descending }) keys)
    ≡ slice_cmp part_cmp (map (λ (k : SortKey). part_of (f k) k.descending) keys) (map (λ (k : SortKey). part_of (g k) k.descending) keys)
parts-order [] f g = refl
parts-order (k ∷ keys) f g = ap₂ ordering_then (part-order (f k) (g k) k.descending) (parts-order keys f g)

abbrev meant : List SortKey → plain.Row → plain.Row → Ordering
meant keys row other = sort_values_cmp (row_keys keys row) (row_keys keys other)

rows-order : (docs : Docs) (keys : List SortKey) (rows : List (List Cell)) (i j : ℕ)
    → keyed_cmp (keyed_at (key_columns docs keys rows) keys i) (keyed_at (key_columns docs keys rows) keys j) ≡ meant keys (row_seen docs (get_or rows i [])) (row_seen docs (get_or rows j []))
rows-order docs keys rows i j =
    ap₂ (slice_cmp part_cmp) (parts-of-row docs keys rows i) (parts-of-row docs keys rows j)
    ∙ sym (parts-order keys (λ (k : SortKey). first_at docs k.column (get_or rows i [])) (λ (k : SortKey). first_at docs k.column (get_or rows j [])))

abbrev keyed_list : Docs → List SortKey → List (List Cell) → List KeyedRow
keyed_list docs keys rows = map (keyed_at (key_columns docs keys rows) keys) (range_with_len 0 (length rows))

-- The rows of the numbers in order are the rows in order.
pub ordered-seen : (docs : Docs) (keys : List SortKey) (rows : List (List Cell)) (picks : List ℕ) → picks ≡ map (λ k. k.row) (sorted keyed_cmp (keyed_list docs keys rows))
    → rows_seen docs (picked [] rows picks) ≡ ordered_rows keys (rows_seen docs rows)
ordered-seen docs keys rows picks are =
    let numbers = range_with_len 0 (length rows) in
    let keyed = keyed_at (key_columns docs keys rows) keys in
    let row = λ (i : ℕ). row_seen docs (get_or rows i []) in
    let own = λ (i j : ℕ). keyed_cmp (keyed i) (keyed j) in
    let by_rows = λ (i j : ℕ). meant keys (row i) (row j) in
    let orders : own ≡ by_rows = fun_ext (λ i. fun_ext (λ j. rows-order docs keys rows i j)) in
    let sorted_numbers = ap (map (λ (k : KeyedRow). k.row)) (sym (sorted-map keyed keyed_cmp numbers)) ∙ map-map (λ (k : KeyedRow). k.row) keyed (sorted own numbers) ∙ map-id (sorted own numbers) in
    map-map (row_seen docs) (λ p. get_or rows p []) picks
    ∙ ap (map row) (are ∙ sorted_numbers ∙ ap (λ order. sorted order numbers) orders)
    ∙ sorted-map row (meant keys) numbers
    ∙ ap (sorted (meant keys)) (sym (map-map (row_seen docs) (λ i. get_or rows i []) numbers) ∙ ap (map (row_seen docs)) (all-numbered [] rows))

-- and there are such rows
pub ordered-within : (docs : Docs) (keys : List SortKey) (rows : List (List Cell)) (keyed : List KeyedRow) (picks : List ℕ) → IsPermutation (keyed_list docs keys rows) keyed → picks ≡ map (λ k. k.row) keyed → All (λ p. p < length rows) picks
ordered-within docs keys rows keyed picks permuted are =
    subst (All (λ p. p < length rows)) (sym are)
    (all-rows keyed (All-permutation (λ (k : KeyedRow). k.row < length rows) (keyed_list docs keys rows) keyed permuted
    (All-map-of (keyed_at (key_columns docs keys rows) keys) (range_with_len 0 (length rows)) (All-range (λ i. i < length rows) 0 (length rows) (λ i low lt. omega (arith, lt))))))
  where
    all-rows : (ks : List KeyedRow) → All (λ (k : KeyedRow). k.row < length rows) ks → All (λ p. p < length rows) (map (λ k. k.row) ks)
    all-rows ks all k d lt =
        let e : KeyedRow = record { parts = []; row = d } in
        let low : k < length ks = omega (arith, lt, length-map ks (λ (x : KeyedRow). x.row)) in
        subst (λ p. p < length rows) (sym (get_or-map (λ (x : KeyedRow). x.row) ks k e d low)) (all k e low)

    All-map-of : (f : ℕ → KeyedRow) (ns : List ℕ) → All (λ i. (f i).row < length rows) ns → All (λ (k : KeyedRow). k.row < length rows) (map f ns)
    All-map-of f ns all k d lt =
        let low : k < length ns = omega (arith, lt, length-map ns f) in
        subst (λ (x : KeyedRow). x.row < length rows) (sym (get_or-map f ns k 0 d low)) (all k 0 low)

pub picked-over : (docs : Docs) (rows : List (List Cell)) (picks : List ℕ) → AreOver docs rows → All (λ p. p < length rows) picks → AreOver docs (picked [] rows picks)
picked-over docs rows picks over low = all-picked (All (IsOver docs)) [] rows picks over low
