use Rattle.std.proofs.Common.{◌≡◌, drop}
use Rattle.tb_query.specs.Tuples.{let_path}
use Rattle.tb_tlc.proofs.scope.behind_variable.Given as goal

-- what is left has the variable as the whole has it
abbrev pub invariant-lets : goal.invariant-lets
invariant-lets l = let_path l.var (drop l.named-index l.lets) ≡ let_path l.var l.lets
