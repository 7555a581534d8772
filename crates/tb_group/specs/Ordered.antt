-- The columns of keys.
use Rattle.std.specs.Prelude.{◌≡◌, ℕ, List, Option, map, length, All}
use Rattle.std.specs.Global.{Vec}
use Rattle.tb_tree.specs.Documents.{Docs}
use Rattle.tb_number.specs.declared.sort_key.SortKey.{SortKey}
use Rattle.tb_table.specs.declared.cell.Cell.{Cell}
use Rattle.tb_table.specs.declared.text.Text.{Text}
use Rattle.tb_group.specs.Firsts.{texts_of, firsts}

-- the first values of each key's column
abbrev pub key_columns : Docs → List SortKey → List (List Cell) → List (List (Option (List ℕ)))
key_columns docs keys rows = map (λ k. firsts docs k.column rows) keys

-- columns as they are kept
abbrev pub columns_of : List (Vec (Option Text)) → List (List (Option (List ℕ)))
columns_of columns = map (λ c. texts_of c.items) columns

abbrev pub AreLong : ℕ → List (Vec (Option Text)) → Type 0
AreLong count columns = All (λ c. length c.items ≡ count) columns
