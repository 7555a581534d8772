-- A column of aggregates, row by row, is that of all rows.
use Rattle.std.proofs.Common.{◌≡◌, ℕ, suc, ◌+◌, ◌<◌, ◌≤◌, List, [], ◌∷◌, ◌++◌, map, length, get_or, drop, Option, Some, None, refl, sym, ap, ◌∙◌, subst, add-one, drop-cons, append_assoc, append-nil}
use Rattle.std.specs.Prelude.{All}
use Rattle.std.specs.Option.{option_map, option_and_then}
use Rattle.std.proofs.lemmas.List.{map_push, length-map, drop_all}
use Rattle.std.proofs.lemmas.Simd.{map-map}
use Rattle.std.proofs.lemmas.List.Elements.{All-push, All-map}
use Rattle.tb_tree.specs.Documents.{Docs}
use Rattle.tb_tree.specs.Rows as plain
use Rattle.tb_number.specs.declared.agg.AggKind.{AggKind}
use Rattle.tb_query.specs.Lists.{all_given}
use Rattle.tb_query.specs.Operators.{cell_aggregate, aggregated}
use Rattle.tb_table.specs.declared.cell.Cell.{Cell}
use Rattle.tb_table.specs.declared.cell.Cell.TheVariants.{Value}
use Rattle.tb_table.specs.declared.parts.Span.{Span}
use Rattle.tb_table.specs.Layout.{AreWithin, valued}
use Rattle.tb_table.specs.Rows.{no_cell, with_cells}
use Rattle.tb_table.specs.Seen.{cell_seen, row_seen, rows_seen, IsOver, AreOver}
use Rattle.tb_table.proofs.SeenRows.{cell-seen, row-pushed, over-with_cells}
use Rattle.tb_group.specs.Told.{value_at, IsTold, IsToldOf}
use Rattle.tb_group.specs.Columns.{row_value, row_values, values_told, told_with}
use Rattle.tb_group.proofs.ToldLaws.{values-kept, within-kept}

some-same : {A : Type 0} (x y : A) → Some x ≡ Some y → x ≡ y
some-same x y e = cc

pub value-seen : (docs : Docs) (from : ℕ) (kind : AggKind) (row : List Cell) (cell : Cell) → cell ≡ get_or row from no_cell → cell_aggregate kind (cell_seen docs cell) ≡ row_value docs from kind row
value-seen docs from kind row cell is = ap (λ c. cell_aggregate kind (cell_seen docs c)) is ∙ ap (cell_aggregate kind) (sym (cell-seen docs row from))

-- what is given of the first item, and of the others
given-none : {A B : Type 0} (give : A → Option B) (x : A) (xs : List A) → give x ≡ None → all_given give (x ∷ xs) ≡ None
given-none give x xs none = ap (option_and_then (λ y. option_map (λ ys. y ∷ ys) (all_given give xs))) none

given-some : {A B : Type 0} (give : A → Option B) (x : A) (xs : List A) (y : B) → give x ≡ Some y → all_given give (x ∷ xs) ≡ option_map (λ ys. y ∷ ys) (all_given give xs)
given-some give x xs y some = ap (option_and_then (λ z. option_map (λ ys. z ∷ ys) (all_given give xs))) some

told-more : (told : List (Option (List ℕ))) (v : Option (List ℕ)) (others : Option (List (Option (List ℕ)))) → told_with told (option_map (λ vs. v ∷ vs) others) ≡ told_with (told ++ v ∷ []) others
told-more told v None = refl
told-more told v (Some vs) = ap Some (sym (append_assoc told (v ∷ []) vs))

drop-row : (rows : List (List Cell)) (i : ℕ) → i < length rows → drop i rows ≡ get_or rows i [] ∷ drop (i + 1) rows
drop-row rows i lt = rw (add-one, drop-cons rows i []) refl

-- the row is past, and so all rows are
pub rows-past : (docs : Docs) (from : ℕ) (kind : AggKind) (rows : List (List Cell)) (i : ℕ) (told : List (Option (List ℕ))) → i < length rows
    → told_with told (row_values docs from kind (drop i rows)) ≡ row_values docs from kind rows → row_value docs from kind (get_or rows i []) ≡ None → row_values docs from kind rows ≡ None
rows-past docs from kind rows i told lt so_far none =
    sym so_far ∙ ap (λ rs. told_with told (row_values docs from kind rs)) (drop-row rows i lt)
    ∙ ap (told_with told) (given-none (row_value docs from kind) (get_or rows i []) (drop (i + 1) rows) none)

told-is : (bytes after : List ℕ) (spans : List Span) (span : Span) (v : Option (List ℕ)) → AreWithin (length bytes) spans → IsTold v bytes after span
    → values_told after (spans ++ span ∷ []) ≡ values_told bytes spans ++ v ∷ []
told-is bytes after spans span v within t =
    map_push (value_at after) spans span
    ∙ ap (λ l. l ++ value_at after span ∷ []) (ap (λ b. map (value_at b) spans) t.grown ∙ values-kept bytes t.more spans within)
    ∙ ap (λ w. map (value_at bytes) spans ++ w ∷ []) t.told

one-more : (docs : Docs) (from : ℕ) (kind : AggKind) (rows : List (List Cell)) (i : ℕ) (bytes after : List ℕ) (spans : List Span) (span : Span) (o : Option (Option (List ℕ))) → i < length rows
    → row_value docs from kind (get_or rows i []) ≡ o → AreWithin (length bytes) spans → IsToldOf o bytes after span
    → told_with (values_told bytes spans) (row_values docs from kind (drop i rows)) ≡ row_values docs from kind rows
    → told_with (values_told after (spans ++ span ∷ [])) (row_values docs from kind (drop (i + 1) rows)) ≡ row_values docs from kind rows
one-more docs from kind rows i bytes after spans span None lt is within t so_far = absurd t
one-more docs from kind rows i bytes after spans span (Some v) lt is within t so_far =
    ap (λ l. told_with l (row_values docs from kind (drop (i + 1) rows))) (told-is bytes after spans span v within t)
    ∙ sym (told-more (values_told bytes spans) v (row_values docs from kind (drop (i + 1) rows)))
    ∙ ap (told_with (values_told bytes spans)) (sym (given-some (row_value docs from kind) (get_or rows i []) (drop (i + 1) rows) v is))
    ∙ ap (λ rs. told_with (values_told bytes spans) (row_values docs from kind rs)) (sym (drop-row rows i lt))
    ∙ so_far

-- one row more
pub rows-told : (docs : Docs) (from : ℕ) (kind : AggKind) (rows : List (List Cell)) (i : ℕ) (bytes after : List ℕ) (spans : List Span) (span : Span) → i < length rows
    → AreWithin (length bytes) spans → IsToldOf (row_value docs from kind (get_or rows i [])) bytes after span
    → told_with (values_told bytes spans) (row_values docs from kind (drop i rows)) ≡ row_values docs from kind rows
    → told_with (values_told after (spans ++ span ∷ [])) (row_values docs from kind (drop (i + 1) rows)) ≡ row_values docs from kind rows
rows-told docs from kind rows i bytes after spans span lt within t so_far =
    one-more docs from kind rows i bytes after spans span (row_value docs from kind (get_or rows i [])) lt refl within t so_far

within-by : (o : Option (Option (List ℕ))) (bytes after : List ℕ) (spans : List Span) (span : Span) → AreWithin (length bytes) spans → IsToldOf o bytes after span → AreWithin (length after) (spans ++ span ∷ [])
within-by None bytes after spans span within t = absurd t
within-by (Some v) bytes after spans span within t =
    All-push (λ s. s.end ≤ length after) spans span (subst (λ b. AreWithin (length b) spans) (sym t.grown) (within-kept bytes t.more spans within)) t.within

pub rows-within : (docs : Docs) (from : ℕ) (kind : AggKind) (row : List Cell) (bytes after : List ℕ) (spans : List Span) (span : Span) → AreWithin (length bytes) spans → IsToldOf (row_value docs from kind row) bytes after span → AreWithin (length after) (spans ++ span ∷ [])
rows-within docs from kind row bytes after spans span within t = within-by (row_value docs from kind row) bytes after spans span within t

-- all rows
pub column-told : (docs : Docs) (from : ℕ) (kind : AggKind) (rows : List (List Cell)) (i : ℕ) (bytes : List ℕ) (spans : List Span) → length rows ≤ i
    → told_with (values_told bytes spans) (row_values docs from kind (drop i rows)) ≡ row_values docs from kind rows
    → option_map (map Value) (row_values docs from kind rows) ≡ Some (map (valued bytes) spans)
column-told docs from kind rows i bytes spans le so_far =
    ap (option_map (map Value)) (sym so_far ∙ ap (λ rs. told_with (values_told bytes spans) (row_values docs from kind rs)) (drop_all i rows le) ∙ ap Some (append-nil (values_told bytes spans)))
    ∙ ap Some (map-map Value (value_at bytes) spans)

-- as many values as rows
long-by : {A B : Type 0} (o : Option B) (others : Option (List B)) (x : A) (xs : List A) (ys : List B) → ((zs : List B) → others ≡ Some zs → length zs ≡ length xs)
    → option_and_then (λ y. option_map (λ zs. y ∷ zs) others) o ≡ Some ys → length ys ≡ length (x ∷ xs)
long-by {A} {B} None others x xs ys long is = absurd (let d : ◌≡◌ {A = Option (List B)} None (Some ys) = is in cc)
long-by {A} {B} (Some y) None x xs ys long is = absurd (let d : ◌≡◌ {A = Option (List B)} None (Some ys) = is in cc)
long-by {A} {B} (Some y) (Some zs) x xs ys long is = ap length (sym (some-same (y ∷ zs) ys is)) ∙ ap suc (long zs refl)

given-long : {A B : Type 0} (give : A → Option B) (xs : List A) (ys : List B) → all_given give xs ≡ Some ys → length ys ≡ length xs
given-long {A} {B} give [] ys is = ap length (sym (some-same [] ys is))
given-long {A} {B} give (x ∷ xs) ys is = long-by (give x) (all_given give xs) x xs ys (λ zs. given-long give xs zs) is

column-by : (o : Option (List (Option (List ℕ)))) (cells : List Cell) → option_map (map Value) o ≡ Some cells → (values : List (Option (List ℕ))) × (o ≡ Some values) × (cells ≡ map Value values)
column-by None cells is = absurd (let d : ◌≡◌ {A = Option (List Cell)} None (Some cells) = is in cc)
column-by (Some values) cells is = (values, refl, sym (some-same (map Value values) cells is))

pub column-long : (docs : Docs) (from : ℕ) (kind : AggKind) (rows : List (List Cell)) (cells : List Cell) → option_map (map Value) (row_values docs from kind rows) ≡ Some cells → length cells ≡ length rows
column-long docs from kind rows cells is =
    let v = column-by (row_values docs from kind rows) cells is in
    ap length v.2 ∙ length-map v.0 Value ∙ given-long (row_value docs from kind) rows v.0 v.1

pub column-over : (docs : Docs) (from : ℕ) (kind : AggKind) (rows : List (List Cell)) (cells : List Cell) → option_map (map Value) (row_values docs from kind rows) ≡ Some cells → AreOver docs rows → AreOver docs (with_cells rows cells)
column-over docs from kind rows cells is over =
    let v = column-by (row_values docs from kind rows) cells is in
    over-with_cells docs rows cells over (subst (All (IsOver docs)) (sym v.2) (All-map (IsOver docs) Value v.0 (λ k d lt. tt)))

-- The rows with the column are the rows that the operator means.
pub aggregated-seen : (docs : Docs) (from : ℕ) (kind : AggKind) (rows : List (List Cell))
    → aggregated from kind (rows_seen docs rows) ≡ option_map (λ vs. rows_seen docs (with_cells rows (map Value vs))) (row_values docs from kind rows)
aggregated-seen docs from kind [] = refl
aggregated-seen docs from kind (row ∷ rows) = by (row_value docs from kind row) (row_values docs from kind rows) (aggregated-seen docs from kind rows)
  where
    shown : List (Option (List ℕ)) → List plain.Row
    shown vs = rows_seen docs (with_cells rows (map Value vs))

    by : (o : Option (Option (List ℕ))) (others : Option (List (Option (List ℕ)))) → aggregated from kind (rows_seen docs rows) ≡ option_map (λ vs. rows_seen docs (with_cells rows (map Value vs))) others
        → option_and_then (λ y. option_map (λ ys. y ∷ ys) (aggregated from kind (rows_seen docs rows))) (option_map (λ v. row_seen docs row ++ plain.value v ∷ []) o)
        ≡ option_map (λ vs. rows_seen docs (with_cells (row ∷ rows) (map Value vs))) (option_and_then (λ v. option_map (λ vs. v ∷ vs) others) o)
    by None others is = refl
    by (Some v) None is = ap (option_map (λ ys. (row_seen docs row ++ plain.value v ∷ []) ∷ ys)) is
    by (Some v) (Some vs) is =
        ap (option_map (λ ys. (row_seen docs row ++ plain.value v ∷ []) ∷ ys)) is
        ∙ ap (λ r. Some (r ∷ rows_seen docs (with_cells rows (map Value vs)))) (sym (row-pushed docs row (Value v)))

pub column-seen : (docs : Docs) (from : ℕ) (kind : AggKind) (rows : List (List Cell)) (cells : List Cell) → option_map (map Value) (row_values docs from kind rows) ≡ Some cells
    → aggregated from kind (rows_seen docs rows) ≡ Some (rows_seen docs (with_cells rows cells))
column-seen docs from kind rows cells is =
    let v = column-by (row_values docs from kind rows) cells is in
    aggregated-seen docs from kind rows ∙ ap (option_map (λ vs. rows_seen docs (with_cells rows (map Value vs)))) v.1 ∙ ap (λ cs. Some (rows_seen docs (with_cells rows cs))) (sym v.2)

pub column-past : (docs : Docs) (from : ℕ) (kind : AggKind) (rows : List (List Cell)) → row_values docs from kind rows ≡ None → aggregated from kind (rows_seen docs rows) ≡ None
column-past docs from kind rows none = aggregated-seen docs from kind rows ∙ ap (option_map (λ vs. rows_seen docs (with_cells rows (map Value vs)))) none
