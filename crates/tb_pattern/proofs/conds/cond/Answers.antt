-- A literal stands behind the comparison.
use Rattle.tb_pattern.proofs.CondLaws.{cond-builds}
use Rattle.tb_pattern.proofs.conds.cond.Goals as goal

pub returns-clause-built : goal.returns-clause-built
returns-clause-built c =
    rw c.op.ensures (cond-builds c.args.tokens.now c.in_ok-with.left.now c.in_ok-with.with (rw c.behind.ensures at c.in_ok-with.ensures.built))
