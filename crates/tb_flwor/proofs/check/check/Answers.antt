-- A fault that stands at a token is the first behind the limits.
use Rattle.std.proofs.Common.{sym, ◌∙◌}
use Rattle.tb_flwor.proofs.FaultLaws.{token-checks}
use Rattle.tb_flwor.proofs.check.check.Goals as goal

pub returns-in-Some : goal.returns-in-Some
returns-in-Some c =
    let names_are = c.in_ok-names.ensures in
    let fault_is = sym (rw c.in-Some.is at c.in_ok-fault.ensures) in
    token-checks c.args.tokens.now c.in-Some.fault names_are.0 (names_are.1 ∙ fault_is) fault_is
