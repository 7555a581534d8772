-- Operators over small tables, computed cell by cell.
use Rattle.std.proofs.Common.{◌≡◌, ℕ, true, false, List, [], ◌∷◌, map, refl, codes, Option, Some, None}
use Rattle.std.specs.Prelude.{pos}
use Rattle.tb_tree.specs.Plain.{text}
use Rattle.tb_tree.specs.declared.against.Against.TheVariants.{Number, Text}
use Rattle.tb_number.specs.Reading.{integer_of}
use Rattle.tb_number.specs.Canonical.{canonical_text}
use Rattle.tb_number.specs.declared.op.CmpOp.TheVariants.{Eq, Ne}
use Rattle.tb_number.specs.declared.agg.AggKind.TheVariants.{Count, Sum, Min, Max}
use Rattle.tb_tree.specs.Rows.{NodeIn, Cell, nodes, value, Row}
use Rattle.tb_query.specs.Results.{given_trees}
use Rattle.tb_query.specs.Shapes.{cell_trees}
use Rattle.tb_query.specs.Operators.{filtered, value_joined, tables_joined, grouped_rows, aggregated, ordered_rows, projected, distinct}

-- the node of this number in a document, a text, and a cell with one such node of the first document
abbrev node_of : ℕ → ℕ → List ℕ → NodeIn
node_of document number bytes =
    record { document = document; at = record { number = number; node = text bytes } }

abbrev one : ℕ → List ℕ → Cell
one number bytes = nodes (node_of 0 number bytes ∷ [])

-- Rows stay where both columns have an equal value: 007 is 7, and 8 is not.
pub joined-keeps_equal : value_joined 1 0
    ((one 1 (codes "007") ∷ one 2 (codes "7") ∷ [])
    ∷ (one 3 (codes "8") ∷ one 4 (codes "7") ∷ [])
    ∷ (one 5 (codes "7") ∷ one 6 (codes "7") ∷ []) ∷ [])
    ≡ (one 1 (codes "007") ∷ one 2 (codes "7") ∷ [])
    ∷ (one 5 (codes "7") ∷ one 6 (codes "7") ∷ []) ∷ []
unfolding integer_of
joined-keeps_equal = refl

-- 007, 8 and a word, in the second column
abbrev mixed : List Row
mixed =
    (one 1 (codes "a") ∷ one 2 (codes "007") ∷ [])
    ∷ (one 3 (codes "b") ∷ one 4 (codes "8") ∷ [])
    ∷ (one 5 (codes "c") ∷ one 6 (codes "x") ∷ []) ∷ []

-- Against a number 007 is 7, so it goes, and the word is no number, so it goes too.
pub unequal-to_number : filtered 1 Ne (Number (pos 7)) mixed
    ≡ (one 3 (codes "b") ∷ one 4 (codes "8") ∷ []) ∷ []
unfolding integer_of
unequal-to_number = refl

-- Against a text bytes count, so 007 is not 7.
pub equal-to_text : filtered 0 Eq (Text (codes "7")) ((one 1 (codes "007") ∷ []) ∷ (one 2 (codes "7") ∷ []) ∷ [])
    ≡ (one 2 (codes "7") ∷ []) ∷ []
unfolding integer_of
equal-to_text = refl

-- The word is unequal to a text of other bytes, and so is 007.
pub unequal-to_text : filtered 1 Ne (Text (codes "8")) mixed
    ≡ (one 1 (codes "a") ∷ one 2 (codes "007") ∷ []) ∷ (one 5 (codes "c") ∷ one 6 (codes "x") ∷ []) ∷ []
unfolding integer_of
unequal-to_text = refl

-- Two tables are joined in the order of the left one, and for each of its rows in that of the right
-- one; the 8 and the 9 have no partner.
pub tables-joined_in_order : tables_joined 1 0 mixed
    ((one 7 (codes "x") ∷ []) ∷ (one 8 (codes "7") ∷ []) ∷ (one 9 (codes "9") ∷ []) ∷ (one 10 (codes "07") ∷ []) ∷ [])
    ≡ (one 1 (codes "a") ∷ one 2 (codes "007") ∷ one 8 (codes "7") ∷ [])
    ∷ (one 1 (codes "a") ∷ one 2 (codes "007") ∷ one 10 (codes "07") ∷ [])
    ∷ (one 5 (codes "c") ∷ one 6 (codes "x") ∷ one 7 (codes "x") ∷ []) ∷ []
unfolding integer_of
tables-joined_in_order = refl

-- The first key is ascending and the second one descending; the rows of 5 and of 05 are tied and
-- stay in their order.
pub ordered-by_two : ordered_rows
    (record { column = 1; descending = false } ∷ record { column = 0; descending = true } ∷ [])
    ((one 1 (codes "3") ∷ one 2 (codes "2") ∷ [])
    ∷ (one 3 (codes "5") ∷ one 4 (codes "1") ∷ [])
    ∷ (one 5 (codes "05") ∷ one 6 (codes "01") ∷ [])
    ∷ (one 7 (codes "10") ∷ one 8 (codes "1") ∷ []) ∷ [])
    ≡ (one 7 (codes "10") ∷ one 8 (codes "1") ∷ [])
    ∷ (one 3 (codes "5") ∷ one 4 (codes "1") ∷ [])
    ∷ (one 5 (codes "05") ∷ one 6 (codes "01") ∷ [])
    ∷ (one 1 (codes "3") ∷ one 2 (codes "2") ∷ []) ∷ []
unfolding integer_of
ordered-by_two = refl

-- three numbers in the first column
abbrev numbers : Cell
numbers = nodes (node_of 0 1 (codes "3") ∷ node_of 0 2 (codes "10") ∷ node_of 0 3 (codes "-2") ∷ [])

abbrev with_value : List ℕ → Option (List Row)
with_value bytes = Some ((numbers ∷ one 4 (codes "5") ∷ value (Some bytes) ∷ []) ∷ [])

-- Each aggregate of the three numbers stands in a new last column, as text.
pub aggregates-of_three :
    map (λ kind. aggregated 0 kind ((numbers ∷ one 4 (codes "5") ∷ []) ∷ [])) (Sum ∷ Min ∷ Max ∷ Count ∷ [])
    ≡ with_value (codes "11") ∷ with_value (codes "-2") ∷ with_value (codes "10") ∷ with_value (codes "3") ∷ []
unfolding integer_of canonical_text
aggregates-of_three = refl

-- One row has a sum past the range, so there is no table, though the row before it has a sum.
pub sum-past_range : aggregated 0 Sum
    ((numbers ∷ [])
    ∷ (nodes (node_of 0 5 (codes "170141183460469231731687303715884105727") ∷ node_of 0 6 (codes "1") ∷ []) ∷ []) ∷ [])
    ≡ None
unfolding integer_of canonical_text
sum-past_range = refl

-- The keys come B, A, B, so the first row and the third are a group. The node 8 is twice in it and
-- once in its column, a value is that of the first row, and the new column has the first node of
-- the key of the first row.
pub grouped-apart : grouped_rows 1
    ((nodes (node_of 0 9 (codes "i") ∷ node_of 0 8 (codes "j") ∷ [])
    ∷ nodes (node_of 0 1 (codes "B") ∷ node_of 0 2 (codes "C") ∷ []) ∷ value (Some (codes "5")) ∷ [])
    ∷ (one 7 (codes "k") ∷ one 3 (codes "A") ∷ value (Some (codes "6")) ∷ [])
    ∷ (nodes (node_of 0 8 (codes "j") ∷ node_of 0 6 (codes "l") ∷ []) ∷ one 4 (codes "B") ∷ value (Some (codes "7")) ∷ [])
    ∷ [])
    ≡ (nodes (node_of 0 9 (codes "i") ∷ node_of 0 8 (codes "j") ∷ node_of 0 6 (codes "l") ∷ [])
    ∷ nodes (node_of 0 1 (codes "B") ∷ node_of 0 2 (codes "C") ∷ node_of 0 4 (codes "B") ∷ [])
    ∷ value (Some (codes "5")) ∷ one 1 (codes "B") ∷ [])
    ∷ (one 7 (codes "k") ∷ one 3 (codes "A") ∷ value (Some (codes "6")) ∷ one 3 (codes "A") ∷ []) ∷ []
unfolding integer_of
grouped-apart = refl

-- Columns stand in the order that is asked for, and one that isn't asked for is gone.
pub projected-in_order : projected (2 ∷ 0 ∷ []) ((one 1 (codes "a") ∷ one 2 (codes "b") ∷ value None ∷ []) ∷ [])
    ≡ (value None ∷ one 1 (codes "a") ∷ []) ∷ []
projected-in_order = refl

-- Equal values are one row, and the first one stays: 007 is 7.
pub distinct-values : distinct
    ((value (Some (codes "7")) ∷ []) ∷ (value (Some (codes "007")) ∷ []) ∷ (value (Some (codes "8")) ∷ []) ∷ [])
    ≡ (value (Some (codes "7")) ∷ []) ∷ (value (Some (codes "8")) ∷ []) ∷ []
unfolding integer_of
distinct-values = refl

-- One number in two documents is two nodes, and nodes of one value are not the same.
pub distinct-nodes : distinct
    ((nodes (node_of 0 1 (codes "7") ∷ []) ∷ [])
    ∷ (nodes (node_of 1 1 (codes "7") ∷ []) ∷ [])
    ∷ (nodes (node_of 0 2 (codes "7") ∷ []) ∷ [])
    ∷ (nodes (node_of 0 1 (codes "7") ∷ []) ∷ []) ∷ [])
    ≡ (nodes (node_of 0 1 (codes "7") ∷ []) ∷ [])
    ∷ (nodes (node_of 1 1 (codes "7") ∷ []) ∷ [])
    ∷ (nodes (node_of 0 2 (codes "7") ∷ []) ∷ []) ∷ []
distinct-nodes = refl

-- Of an empty text a row gives no tree, as a query doesn't either.
pub empty-text_of_row : cell_trees (node_of 0 1 [] ∷ node_of 0 2 (codes "a") ∷ []) ≡ text (codes "a") ∷ []
empty-text_of_row = refl

pub empty-text_of_query : given_trees (record { number = 1; node = text [] } ∷ record { number = 2; node = text (codes "a") } ∷ []) ≡ text (codes "a") ∷ []
empty-text_of_query = refl
