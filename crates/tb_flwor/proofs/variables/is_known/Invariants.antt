use Rattle.std.proofs.Common.{◌≡◌, drop}
use Rattle.tb_flwor.specs.Variables.{is_known}
use Rattle.tb_query.specs.Lent.{lent}
use Rattle.tb_flwor.proofs.variables.is_known.Given as goal

-- none of the names passed is the name
abbrev pub invariant-names : goal.invariant-names
invariant-names l = is_known (lent (drop l.known-index l.names)) l.name ≡ is_known (lent l.names) l.name
