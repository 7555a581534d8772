-- The direction stands behind the operand.
use Rattle.tb_flwor.proofs.OrderLaws.{key-builds}
use Rattle.tb_flwor.proofs.order.key.Goals as goal

pub returns-clause-built : goal.returns-clause-built
returns-clause-built c =
    key-builds c.args.names.now c.in_ok-operand.operand c.turned-descending.result.0 c.args.tokens.now c.in_ok-operand.left.now c.turned-descending.result.1.now
    c.in_ok-operand.ensures.built c.turned-descending.ensures.built
