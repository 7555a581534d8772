-- The path stands behind the keyword IN.
use Rattle.tb_flwor.proofs.ClauseLaws.{bind-builds}
use Rattle.tb_flwor.proofs.clause.bind.Goals as goal

pub returns-clause-built : goal.returns-clause-built
returns-clause-built c =
    rw (c.number-var.ensures, c.bytes.ensures)
    (bind-builds c.args.names.now c.args.tokens.now c.allowed-empty.result.1.now c.in_ok-path.left.now c.allowed-empty.result.0 c.in_ok-path.path
    (rw c.behind.ensures at c.allowed-empty.ensures.built) (rw c.behind-2.ensures at c.in_ok-path.ensures.built))
