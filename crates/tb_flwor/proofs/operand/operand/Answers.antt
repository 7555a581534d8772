-- A path stands alone, or in an aggregate.
use Rattle.std.proofs.Common.{sym, ◌∙◌}
use Rattle.tb_flwor.proofs.OperandLaws.{operand-nodes, operand-agg}
use Rattle.tb_flwor.proofs.operand.operand.Goals as goal

pub returns-then-begins-clause-built : goal.returns-then-begins-clause-built
returns-then-begins-clause-built c =
    operand-nodes c.args.names.now c.args.tokens.now c.in_ok-path.left.now c.in_ok-path.path (sym c.begins.ensures ∙ c.if-begins.true) c.in_ok-path.ensures.built

pub returns-clause-built : goal.returns-clause-built
returns-clause-built c =
    rw (c.agg-kind.ensures, c.behind-3.ensures)
    (operand-agg c.args.names.now c.args.tokens.now c.in_ok-path-2.left.now c.in_ok-path-2.path
    (sym c.begins.ensures ∙ c.if-begins.false) (rw (c.behind-2.ensures, c.behind.ensures) at c.in_ok-path-2.ensures.built))
