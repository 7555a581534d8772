-- The next token is the keyword FOR or LET.
use Rattle.std.proofs.Common.{sym, ◌∙◌}
use Rattle.tb_flwor.proofs.ClauseLaws.{clause-for, clause-let}
use Rattle.tb_flwor.proofs.clause.clause.Goals as goal

pub returns-then-begins-clause-built : goal.returns-then-begins-clause-built
returns-then-begins-clause-built c =
    clause-for c.args.names.now c.in_ok-found.found.items c.args.tokens.now c.in_ok-found.left.now (sym c.begins.ensures ∙ c.if-begins.true)
    (rw c.behind.ensures at c.in_ok-found.ensures.built)

pub returns-clause-built : goal.returns-clause-built
returns-clause-built c =
    rw (c.in_ok-push.ensures.items, c.new-found.ensures.items, c.number-var.ensures, c.bytes.ensures, c.behind-variable.ensures)
    (clause-let c.args.names.now c.args.tokens.now c.in_ok-path.left.now c.in_ok-path.path (sym c.begins.ensures ∙ c.if-begins.false)
    (rw (c.behind-3.ensures, c.behind-2.ensures, c.behind-variable.ensures) at c.in_ok-path.ensures.built))
