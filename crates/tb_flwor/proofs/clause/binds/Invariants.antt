use Rattle.std.proofs.Common.{length}
use Rattle.tb_flwor.proofs.ClauseLaws.{BindsSoFar}
use Rattle.tb_flwor.proofs.clause.binds.Given as goal

-- so much behind the first binding is built
abbrev pub invariant-binds : goal.invariant-binds
invariant-binds l = BindsSoFar l.names l.initial.found.items l.found.items l.initial.left l.left

abbrev pub decreases-binds : goal.decreases-binds
decreases-binds l = length l.left
