-- The variable is the third token, and the path begins at the fifth.
use Rattle.std.proofs.Common.{sym, ◌∙◌}
use Rattle.tb_flwor.proofs.OrderLaws.{group-there, group-none}
use Rattle.tb_flwor.proofs.order.group.Goals as goal

pub returns-then-not-begins : goal.returns-then-not-begins
returns-then-not-begins c = group-none c.args.names.now c.args.tokens.now (sym c.begins.ensures ∙ c.if-not-begins.true)

pub returns : goal.returns
returns c =
    rw (c.number-var.ensures, c.bytes.ensures, c.behind-variable.ensures, c.behind.ensures)
    (group-there c.args.names.now c.args.tokens.now c.in_ok-path.left.now c.in_ok-path.path (sym c.begins.ensures ∙ c.if-not-begins.false)
    (rw (c.behind-3.ensures, c.behind-2.ensures, c.behind-variable.ensures, c.behind.ensures) at c.in_ok-path.ensures.built))
