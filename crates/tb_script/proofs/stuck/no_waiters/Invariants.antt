use Rattle.std.proofs.Common.{◌≡◌, replicate, map, []}
use Rattle.tb_script.proofs.stuck.no_waiters.Given as goal

-- none of the marks so far has waiters
abbrev pub invariant-marks : goal.invariant-marks
invariant-marks l = map (λ v. v.items) l.waiters.items ≡ replicate l._mark []
