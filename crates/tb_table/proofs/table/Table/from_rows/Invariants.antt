use Rattle.std.proofs.Common.{◌≡◌, map}
use Rattle.tb_table.proofs.TransposedLaws.{columns_of}
use Rattle.tb_table.proofs.table.Table.from_rows.Given as goal

-- the columns so far
abbrev pub invariant-columns : goal.invariant-columns
invariant-columns l = l.columns.items ≡ columns_of l.column (map (λ row. row.cells) l.rows)
