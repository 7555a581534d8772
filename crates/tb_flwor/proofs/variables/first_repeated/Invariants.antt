use Rattle.std.proofs.Common.{◌≡◌, drop}
use Rattle.tb_flwor.specs.Variables.{repeated_behind, first_repeated}
use Rattle.tb_query.specs.Lent.{lent}
use Rattle.tb_flwor.proofs.variables.first_repeated.Given as goal

-- the first name bound twice is that of the tokens that are left
abbrev pub invariant-tokens : goal.invariant-tokens
invariant-tokens l = repeated_behind (lent l.names.items) (drop l.at l.tokens) ≡ first_repeated l.tokens
