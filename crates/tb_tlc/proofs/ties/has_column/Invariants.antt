use Rattle.std.proofs.Common.{◌≡◌, drop}
use Rattle.tb_tlc.specs.Ties.{has_column}
use Rattle.tb_tlc.proofs.ties.has_column.Given as goal

-- none so far is the variable's
abbrev pub invariant-columns : goal.invariant-columns
invariant-columns l = has_column l.var (drop l.placed-index l.columns) ≡ has_column l.var l.columns
