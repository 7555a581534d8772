use Rattle.std.proofs.Common.{◌≡◌, length}
use Rattle.tb_script.proofs.order.no_waiters.Given as goal

-- there is a set for each of the marks so far
abbrev pub invariant-marks : goal.invariant-marks
invariant-marks l = length l.waiters.items ≡ l._mark
