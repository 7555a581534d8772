use Rattle.std.proofs.Common.{◌≡◌, ◌++◌, drop}
use Rattle.tb_table.specs.Rows.{positions_of}
use Rattle.tb_table.proofs.gather.marked_rows.Given as goal

-- the rows found so far, with those among the marks that are left, are all
abbrev pub invariant-marks : goal.invariant-marks
invariant-marks l = l.picks.items ++ positions_of l.row (drop l.row l.marks) ≡ positions_of 0 l.marks
