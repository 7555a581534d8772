-- A column of aggregates, as it is made.
use Rattle.std.specs.Prelude.{ℕ, List, ◌++◌, Option, option_map, map}
use Rattle.tb_tree.specs.Documents.{Docs}
use Rattle.tb_tree.specs.Rows as plain
use Rattle.tb_number.specs.declared.agg.AggKind.{AggKind}
use Rattle.tb_query.specs.Lists.{all_given}
use Rattle.tb_query.specs.Operators.{cell_aggregate}
use Rattle.tb_table.specs.declared.cell.Cell.{Cell}
use Rattle.tb_table.specs.declared.parts.Span.{Span}
use Rattle.tb_table.specs.Seen.{row_seen}
use Rattle.tb_group.specs.Told.{value_at}

-- the aggregate of a row, and those of rows, where no sum is past the range
abbrev pub row_value : Docs → ℕ → AggKind → List Cell → Option (Option (List ℕ))
row_value docs from kind row = cell_aggregate kind (plain.cell_at from (row_seen docs row))

abbrev pub row_values : Docs → ℕ → AggKind → List (List Cell) → Option (List (Option (List ℕ)))
row_values docs from kind rows = all_given (row_value docs from kind) rows

-- what the spans tell
abbrev pub values_told : List ℕ → List Span → List (Option (List ℕ))
values_told bytes spans = map (value_at bytes) spans

-- values with those of further rows behind them
abbrev pub told_with : List (Option (List ℕ)) → Option (List (Option (List ℕ))) → Option (List (Option (List ℕ)))
told_with told others = option_map (λ vs. told ++ vs) others
