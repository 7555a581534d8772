use Rattle.std.proofs.Common.{◌≡◌, [], drop}
use Rattle.tb_tlc.specs.Ties.{lets_after}
use Rattle.tb_tlc.proofs.ties.lets_after.Given as goal

-- the clauses that are left lead from what there is to the whole
abbrev pub invariant-clauses : goal.invariant-clauses
invariant-clauses l = lets_after l.lets.items (drop l.clause-index l.clauses) ≡ lets_after [] l.clauses
