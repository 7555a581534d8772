-- The next token is the keyword, or it is not there.
use Rattle.std.proofs.Common.{sym, ◌∙◌}
use Rattle.tb_flwor.proofs.OrderLaws.{turned-there, turned-none}
use Rattle.tb_flwor.proofs.order.turned.Goals as goal

pub returns-then-begins-clause-built : goal.returns-then-begins-clause-built
returns-then-begins-clause-built c =
    rw (c.begins-then-begins.ensures, c.behind.ensures) (turned-there c.args.tokens.now (sym c.begins.ensures ∙ c.if-begins.true))

pub returns-clause-built : goal.returns-clause-built
returns-clause-built c = turned-none c.args.tokens.now (sym c.begins.ensures ∙ c.if-begins.false)
