use Rattle.std.proofs.Common.{◌≡◌}
use Rattle.std.specs.List.{range_with_len}
use Rattle.tb_table.specs.Rows.{cells_at}
use Rattle.tb_table.proofs.rows.row_of.Given as goal

-- the cells of the columns so far
abbrev pub invariant-columns : goal.invariant-columns
invariant-columns l = l.cells.items ≡ cells_at l.table.rows l.row (range_with_len 0 l.column)
