-- The next token is that of an operand, or of a literal.
use Rattle.std.proofs.Common.{sym, ◌∙◌}
use Rattle.tb_flwor.proofs.CondLaws.{right-operand, right-literal}
use Rattle.tb_flwor.proofs.conds.right.Goals as goal

pub returns-then-begins-clause-built : goal.returns-then-begins-clause-built
returns-then-begins-clause-built c =
    right-operand c.args.names.now c.in_ok-operand.operand c.args.tokens.now c.in_ok-operand.left.now (sym c.begins.ensures ∙ c.if-begins.true) c.in_ok-operand.ensures.built

pub returns-clause-built : goal.returns-clause-built
returns-clause-built c =
    right-literal c.args.names.now c.in_ok-literal.literal c.args.tokens.now c.in_ok-literal.left.now (sym c.begins.ensures ∙ c.if-begins.false) c.in_ok-literal.ensures.built
