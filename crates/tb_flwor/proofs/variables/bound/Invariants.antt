use Rattle.std.proofs.Common.{◌≡◌, ◌++◌, drop}
use Rattle.tb_flwor.specs.Variables.{bound}
use Rattle.tb_query.specs.Lent.{lent}
use Rattle.tb_flwor.proofs.variables.bound.Given as goal

-- the names so far, with those that are bound by the tokens that are left, are all
abbrev pub invariant-tokens : goal.invariant-tokens
invariant-tokens l = lent l.names.items ++ bound (drop l.at l.tokens) ≡ bound l.tokens
