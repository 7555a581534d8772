use Rattle.std.proofs.Common.{◌≡◌, drop}
use Rattle.tb_tlc.specs.Ties.{is_free}
use Rattle.tb_tlc.proofs.ties.is_free.Given as goal

-- none so far binds the variable
abbrev pub invariant-clauses : goal.invariant-clauses
invariant-clauses l = is_free l.var (drop l.clause-index l.clauses) ≡ is_free l.var l.clauses
