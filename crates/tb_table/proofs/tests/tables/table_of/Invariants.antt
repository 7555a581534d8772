use Rattle.std.proofs.Common.{◌≡◌, length, take}
use Rattle.std.specs.Prelude.{All}
use Rattle.tb_table.proofs.tests.tables.table_of.Given as goal

-- the rows so far are as wide
abbrev pub invariant-rows : goal.invariant-rows
invariant-rows l = All (λ row. length row.cells ≡ l.width) (take l.row-index l.rows)
