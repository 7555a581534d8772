use Rattle.std.proofs.Common.{length}
use Rattle.tb_pattern.proofs.CondLaws.{CondsSoFar}
use Rattle.tb_pattern.proofs.conds.conds.Given as goal

-- so much of the list is built
abbrev pub invariant-conds : goal.invariant-conds
invariant-conds l = CondsSoFar l.found.items l.tokens l.left

abbrev pub decreases-conds : goal.decreases-conds
decreases-conds l = length l.left
