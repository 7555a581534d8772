use Rattle.std.proofs.Common.{length}
use Rattle.tb_flwor.proofs.CondLaws.{CondsSoFar}
use Rattle.tb_flwor.proofs.conds.conds.Given as goal

-- so much behind the first condition is built
abbrev pub invariant-conds : goal.invariant-conds
invariant-conds l = CondsSoFar l.names l.initial.found.items l.found.items l.initial.left l.left

abbrev pub decreases-conds : goal.decreases-conds
decreases-conds l = length l.left
