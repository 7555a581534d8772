use Rattle.std.proofs.Common.{◌≡◌, replicate, false}
use Rattle.tb_script.proofs.stuck.untold.Given as goal

-- none of the marks so far is told
abbrev pub invariant-marks : goal.invariant-marks
invariant-marks l = l.told.items ≡ replicate l._mark false
