-- The operators of a plan over rows, but for those that add nodes and make trees. `Match`, which is
-- alone in its plan, gives the trees of `match_trees` in `Answer`.
use Rattle.std.specs.Prelude.{ℕ, Bool, List, [], ◌∷◌, ◌++◌, pos, Option, Some, option_map, map, filter, flat_map, fold, length}
use Rattle.tb_tree.specs.declared.against.Against.{Against}
use Rattle.tb_tree.specs.declared.against.Against.TheVariants.{Column, Number, Text}
use Rattle.tb_number.specs.Canonical.{canonical_text}
use Rattle.tb_number.specs.Keys.{is_same_key}
use Rattle.tb_number.specs.declared.op.CmpOp.{CmpOp}
use Rattle.tb_number.specs.declared.op.CmpOp.TheVariants.{Eq}
use Rattle.tb_number.specs.declared.agg.AggKind.{AggKind}
use Rattle.tb_number.specs.declared.agg.AggKind.TheVariants.{Count, Sum, Min, Max}
use Rattle.tb_number.specs.declared.sort_key.SortKey.{SortKey}
use Rattle.tb_pattern.specs.declared.cond.Literal.TheVariants as literals
use Rattle.tb_query.specs.Lists.{each_once, grouped, sorted, all_given}
use Rattle.tb_query.specs.Operands.{first_of, aggregate}
use Rattle.tb_query.specs.Comparisons.{some_stand, some_stand_to}
use Rattle.tb_query.specs.Order.{SortValue, sort_values_cmp}
use Rattle.tb_tree.specs.Rows.{NodeIn, Cell, nodes, value, Row, cell_at, nodes_of, values_of, is_same}
use Rattle.tb_query.specs.SameRows.{is_same_row}

-- the values in a column
abbrev pub values_at : ℕ → Row → List (List ℕ)
values_at n row = values_of (cell_at n row)

-- Filter: the rows in which some value of the left column stands so to what it is compared with
abbrev pub stands_against : CmpOp → List (List ℕ) → Against → Row → Bool
stands_against op left (Column n) row = some_stand op left (values_at n row)
stands_against op left (Number n) row = some_stand_to op left (literals.Number n)
stands_against op left (Text bytes) row = some_stand_to op left (literals.Text bytes)

-- the rows that stand so, in order
abbrev pub filtered : ℕ → CmpOp → Against → List Row → List Row
filtered left op right rows = filter (λ row. stands_against op (values_at left row) right row) rows

-- ValueJoin: the rows in which two columns have an equal value
abbrev pub value_joined : ℕ → ℕ → List Row → List Row
value_joined left right rows = filtered left Eq (Column right) rows

-- The same of two tables: for the left rows in order, and for each the right rows in order, the
-- joined rows in which a column of the left and a column of the right have an equal value.
abbrev pub tables_joined : ℕ → ℕ → List Row → List Row → List Row
tables_joined left right rows others =
    flat_map (λ row. map (λ other. row ++ other)
    (filter (λ other. some_stand Eq (values_at left row) (values_at right other)) others)) rows

-- Group: a column of a group has the value that its first row has there, or the nodes of its rows,
-- one row after the other, each once at its first place.
abbrev pub merged_cell : Cell → Cell → Cell
merged_cell (nodes us) cell = nodes (us ++ nodes_of cell)
merged_cell (value v) cell = value v

-- two rows of a group as one, cell by cell
abbrev pub merged : Row → Row → Row
merged (c ∷ row) (d ∷ other) = merged_cell c d ∷ merged row other
merged row _ = row

-- each node once
abbrev pub once_cell : Cell → Cell
once_cell (nodes us) = nodes (each_once is_same us)
once_cell (value v) = value v

-- the first node of a cell, or none
abbrev pub first_cell : List NodeIn → Cell
first_cell [] = nodes []
first_cell (u ∷ us) = nodes (u ∷ [])

-- one row for a group, with one column more, which has the first node of the key in the first row
abbrev pub group_row : ℕ → List Row → Row
group_row key [] = []
group_row key (row ∷ rows) =
    map once_cell (fold merged row rows) ++ first_cell (nodes_of (cell_at key row)) ∷ []

-- rows whose first values of the key are equal, or that both have none, are a group
abbrev pub has_same_key : ℕ → Row → Row → Bool
has_same_key key row other =
    is_same_key (first_of (values_at key row)) (first_of (values_at key other))

-- a row for each group, in the order of their first rows
abbrev pub grouped_rows : ℕ → List Row → List Row
grouped_rows key rows = map (group_row key) (grouped (has_same_key key) rows)

-- Aggregate: a column more; `None` says that the sum of some row is past the range
abbrev pub cell_aggregate : AggKind → Cell → Option (Option (List ℕ))
cell_aggregate Count cell = Some (Some (canonical_text (pos (length (nodes_of cell)))))
cell_aggregate Sum cell = aggregate Sum (values_of cell)
cell_aggregate Min cell = aggregate Min (values_of cell)
cell_aggregate Max cell = aggregate Max (values_of cell)

-- each row with the aggregate of a column behind it
abbrev pub aggregated : ℕ → AggKind → List Row → Option (List Row)
aggregated from kind rows =
    all_given
    (λ row. option_map (λ v. row ++ value v ∷ []) (cell_aggregate kind (cell_at from row))) rows

-- Order: sorted stably by the first values of columns, key after key
abbrev pub row_keys : List SortKey → Row → List SortValue
row_keys keys row =
    map (λ k. record { value = first_of (values_at k.column row); descending = k.descending }) keys

-- the rows in order, ties in theirs
abbrev pub ordered_rows : List SortKey → List Row → List Row
ordered_rows keys rows =
    sorted (λ row other. sort_values_cmp (row_keys keys row) (row_keys keys other)) rows

-- Project: these columns, in this order
abbrev pub projected : List ℕ → List Row → List Row
projected columns rows = map (λ row. map (λ n. cell_at n row) columns) rows

-- Distinct: the first of equal rows
abbrev pub distinct : List Row → List Row
distinct rows = each_once is_same_row rows
