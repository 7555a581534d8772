use Rattle.std.proofs.Common.{◌≡◌, ◌++◌, map, drop}
use Rattle.tb_table.specs.Rows.{column_at}
use Rattle.tb_table.proofs.rows.column_of.Given as goal

-- the cells so far, with those of the rows that are left, are all
abbrev pub invariant-rows : goal.invariant-rows
invariant-rows l = l.cells.items ++ column_at l.column (map (λ row. row.cells) (drop l.row-index l.rows)) ≡ column_at l.column (map (λ row. row.cells) l.rows)
