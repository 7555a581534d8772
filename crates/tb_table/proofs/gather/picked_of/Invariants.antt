use Rattle.std.proofs.Common.{◌≡◌, ◌++◌, drop}
use Rattle.tb_table.specs.Rows.{picked}
use Rattle.tb_table.proofs.gather.picked_of.Given as goal

-- the items so far, with those of the numbers that are left, are all
abbrev pub invariant-picks : goal.invariant-picks
invariant-picks g l = (d : g.row.T.Denot) → l.picked.items ++ picked d l.items (drop l.pick-index l.picks) ≡ picked d l.items l.picks
