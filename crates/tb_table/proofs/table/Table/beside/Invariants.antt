use Rattle.std.proofs.Common.{◌≡◌, ◌++◌}
use Rattle.tb_table.proofs.table.Table.beside.Given as goal

-- the columns of the first table, with those of the second so far
abbrev pub invariant-others : goal.invariant-others
invariant-others l = l.columns.items ≡ l.initial.columns.items ++ l.yielded
