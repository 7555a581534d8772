use Rattle.std.proofs.Common.{◌≡◌, drop}
use Rattle.tb_tlc.specs.Planned.{column_of}
use Rattle.tb_tlc.proofs.scope.column_of.Given as goal

-- what is left has the variable as the whole has it
abbrev pub invariant-columns : goal.invariant-columns
invariant-columns l = column_of l.next l.var (drop l.placed-index l.columns) ≡ column_of l.next l.var l.columns
