use Rattle.std.proofs.Common.{◌≡◌, drop}
use Rattle.tb_flwor.specs.Constructors.{behind_return, results}
use Rattle.tb_flwor.proofs.constructors.results.Given as goal

-- behind RETURN among the tokens that are left stands what stands behind it among all
abbrev pub invariant-tokens : goal.invariant-tokens
invariant-tokens l = behind_return l.before (drop l.at l.tokens) ≡ results l.tokens
