use Rattle.std.proofs.Common.{◌≡◌, map}
use Rattle.std.specs.List.{range_with_len}
use Rattle.tb_table.specs.Rows.{cells_at}
use Rattle.tb_table.proofs.table.Table.into_rows.Given as goal

-- the rows so far, cell by cell
abbrev pub invariant-rows : goal.invariant-rows
invariant-rows l = map (λ row. row.cells) l.rows.items ≡ map (λ row. cells_at l.fn.self.rows row (range_with_len 0 l.fn.self.width)) (range_with_len 0 l.row)
