-- The first values of columns.
use Rattle.std.specs.Prelude.{ℕ, List, Option, map}
use Rattle.std.specs.Option.{option_map}
use Rattle.tb_tree.specs.Documents.{Docs}
use Rattle.tb_query.specs.Operands.{first_of}
use Rattle.tb_query.specs.Operators.{values_at}
use Rattle.tb_table.specs.declared.cell.Cell.{Cell}
use Rattle.tb_table.specs.declared.text.Text.{Text}
use Rattle.tb_table.specs.Seen.{row_seen}
use Rattle.tb_table.specs.Texts.{text_of}

abbrev pub texts_of : List (Option Text) → List (Option (List ℕ))
texts_of texts = map (option_map text_of) texts

-- the first value of a row in a column, and those of rows
abbrev pub first_at : Docs → ℕ → List Cell → Option (List ℕ)
first_at docs column row = first_of (values_at column (row_seen docs row))

abbrev pub firsts : Docs → ℕ → List (List Cell) → List (Option (List ℕ))
firsts docs column rows = map (first_at docs column) rows
