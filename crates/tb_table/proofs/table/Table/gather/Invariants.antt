use Rattle.std.proofs.Common.{◌≡◌, map}
use Rattle.tb_table.specs.Rows.{no_cell, picked}
use Rattle.tb_table.proofs.table.Table.gather.Given as goal

-- the columns so far, gathered
abbrev pub invariant-columns : goal.invariant-columns
invariant-columns l = l.gathered.items ≡ map (λ cells. picked no_cell cells l.picks) l.yielded
