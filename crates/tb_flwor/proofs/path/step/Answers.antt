-- A test stands behind the axis.
use Rattle.tb_flwor.proofs.PathLaws.{step-builds}
use Rattle.tb_flwor.proofs.path.step.Goals as goal

pub returns-clause-built : goal.returns-clause-built
returns-clause-built c =
    rw c.axis-axis.ensures (step-builds c.args.tokens.now c.in_ok-test.left.now c.in_ok-test.test (rw c.behind.ensures at c.in_ok-test.ensures.built))
