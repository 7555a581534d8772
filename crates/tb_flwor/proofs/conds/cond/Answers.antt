-- The right side stands behind the comparison.
use Rattle.tb_flwor.proofs.CondLaws.{cond-builds}
use Rattle.tb_flwor.proofs.conds.cond.Goals as goal

pub returns-clause-built : goal.returns-clause-built
returns-clause-built c =
    rw c.op.ensures
    (cond-builds c.args.names.now c.in_ok-left_operand.left_operand c.in_ok-right_side.right_side c.args.tokens.now c.in_ok-left_operand.cmp.now c.in_ok-right_side.left.now
    c.in_ok-left_operand.ensures.built (rw c.behind.ensures at c.in_ok-right_side.ensures.built))
