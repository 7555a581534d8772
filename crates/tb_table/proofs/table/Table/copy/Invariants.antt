use Rattle.std.proofs.Common.{◌≡◌, ◌++◌, drop}
use Rattle.tb_table.proofs.table.Table.copy.Given as goal

-- the columns so far, with those that are left, are all
abbrev pub invariant-columns : goal.invariant-columns
invariant-columns l = l.columns.items ++ drop l.column-index l.self-inside.columns.items ≡ l.self-inside.columns.items
