-- The next token is a string, or the brace of an operand.
use Rattle.std.proofs.Common.{sym, ◌∙◌}
use Rattle.tb_flwor.proofs.OperandLaws.{content-text, content-operand}
use Rattle.tb_flwor.proofs.operand.content.Goals as goal

pub returns-then-begins-clause-built : goal.returns-then-begins-clause-built
returns-then-begins-clause-built c =
    rw (c.in_ok-quoted.ensures, c.behind.ensures) (content-text c.args.names.now c.args.tokens.now (sym c.begins.ensures ∙ c.if-begins.true))

pub returns-clause-built : goal.returns-clause-built
returns-clause-built c =
    rw c.behind-3.ensures
    (content-operand c.args.names.now c.args.tokens.now c.in_ok-operand.left.now c.in_ok-operand.operand
    (sym c.begins.ensures ∙ c.if-begins.false) (rw c.behind-2.ensures at c.in_ok-operand.ensures.built))
