-- A script that can be run has at most 640,000 commands.
use Rattle.std.proofs.Common.{arith}
use Rattle.tb_script.specs.Runnable.{commands_in}
use Rattle.tb_top.proofs.CheckLaws.{commands-few, queries_in-few}
use Rattle.tb_top.proofs.check.check.Goals as goal

pub check_sessions-requires-clause-commands : goal.check_sessions-requires-clause-commands
check_sessions-requires-clause-commands c =
    let few = commands-few (commands_in c.args.w) c.requires.commands_fit in
    omega (arith, few, c.requires.sessions_fit)

pub check_sessions-requires-clause-queries : goal.check_sessions-requires-clause-queries
check_sessions-requires-clause-queries c =
    let css = commands_in c.args.w in
    let few = commands-few css c.requires.commands_fit in
    omega (arith, few, queries_in-few css, c.requires.sessions_fit)
