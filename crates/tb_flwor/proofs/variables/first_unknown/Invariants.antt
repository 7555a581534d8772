use Rattle.std.proofs.Common.{◌≡◌, drop}
use Rattle.tb_flwor.specs.Variables.{unknown_behind, first_unknown}
use Rattle.tb_query.specs.Lent.{lent}
use Rattle.tb_flwor.proofs.variables.first_unknown.Given as goal

-- the first unknown name is that of the tokens that are left
abbrev pub invariant-tokens : goal.invariant-tokens
invariant-tokens l = unknown_behind l.before (lent l.names.items) (drop l.at l.tokens) ≡ first_unknown l.tokens
