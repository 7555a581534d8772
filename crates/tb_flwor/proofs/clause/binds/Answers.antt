-- Bindings are built one after the other.
use Rattle.std.proofs.Common.{sym, ◌∙◌}
use Rattle.tb_flwor.proofs.ClauseLaws.{binds-start, binds-next, binds-end}
use Rattle.tb_flwor.proofs.clause.binds.Goals as goal

pub binds-init : goal.binds-init
binds-init c = binds-start c.args.names.now c.push.new.self.items c.in_ok-first.left.now

pub binds-preserved : goal.binds-preserved
binds-preserved c =
    rw c.in_ok-push-2.ensures.items
    (binds-next c.args.names.now c.push.new.self.items c.binds.found.items c.in_ok-next.next c.in_ok-first.left.now c.binds.left.now c.in_ok-next.rest.now
    (sym c.begins.ensures ∙ c.binds-test.true) c.binds.invariant
    (rw c.behind.ensures at c.in_ok-next.ensures.built) (rw c.behind.ensures at c.in_ok-next.ensures.shorter))

pub returns-clause-built : goal.returns-clause-built
returns-clause-built c =
    binds-end c.args.names.now c.in_ok-first.first c.binds.found.items c.args.tokens.now c.in_ok-first.left.now c.binds.left.now (sym c.begins.ensures ∙ c.binds-test.false)
    c.in_ok-first.ensures.built (rw (c.in_ok-push.ensures.items, c.new-found.ensures.items) at c.binds.invariant)
