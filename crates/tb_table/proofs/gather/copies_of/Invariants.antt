use Rattle.std.proofs.Common.{◌≡◌, ◌++◌, drop}
use Rattle.tb_table.specs.Rows.{no_cell, picked}
use Rattle.tb_table.proofs.gather.copies_of.Given as goal

-- the copies so far, with those of the numbers that are left, are all
abbrev pub invariant-picks : goal.invariant-picks
invariant-picks l = l.copies.items ++ picked no_cell l.cells (drop l.pick-index l.picks) ≡ picked no_cell l.cells l.picks
