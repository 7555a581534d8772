use Rattle.std.proofs.Common.{length}
use Rattle.tb_flwor.proofs.PathLaws.{StepsSoFar}
use Rattle.tb_flwor.proofs.path.steps.Given as goal

-- so much behind the first step is built
abbrev pub invariant-steps : goal.invariant-steps
invariant-steps l = StepsSoFar l.initial.found.items l.found.items l.initial.left l.left

abbrev pub decreases-steps : goal.decreases-steps
decreases-steps l = length l.left
