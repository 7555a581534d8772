-- Steps stand behind the start.
use Rattle.tb_flwor.proofs.PathLaws.{longpath-builds}
use Rattle.tb_flwor.proofs.path.longpath.Goals as goal

pub returns-clause-built : goal.returns-clause-built
returns-clause-built c =
    longpath-builds c.args.names.now c.args.tokens.now c.in_ok-steps.left.now c.in_ok-start.left.now c.in_ok-start.start c.in_ok-steps.steps
    c.in_ok-start.ensures.built c.in_ok-steps.ensures.built
