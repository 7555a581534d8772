use Rattle.std.proofs.Common.{length}
use Rattle.tb_flwor.proofs.ClauseLaws.{ClausesSoFar}
use Rattle.tb_flwor.proofs.clause.clauses.Given as goal

-- so much is built
abbrev pub invariant-clauses : goal.invariant-clauses
invariant-clauses l = ClausesSoFar l.names l.initial.found.items l.found.items l.initial.left l.left

abbrev pub decreases-clauses : goal.decreases-clauses
decreases-clauses l = length l.left
