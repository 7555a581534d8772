-- The conditions are built one after the other.
use Rattle.std.proofs.Common.{sym, ◌∙◌}
use Rattle.tb_pattern.proofs.CondLaws.{conds-first, conds-next, conds-end, conds-none}
use Rattle.tb_pattern.proofs.conds.conds.Goals as goal

pub returns-then-not-begins-clause-built : goal.returns-then-not-begins-clause-built
returns-then-not-begins-clause-built c =
    rw (c.from_vec.ensures, c.new-found.ensures.items) (conds-none c.args.tokens.now (sym c.begins.ensures ∙ c.if-not-begins.true))

pub conds-init : goal.conds-init
conds-init c =
    rw (c.in_ok-push.ensures.items, c.new-found.ensures.items)
    (conds-first c.in_ok-first.first c.args.tokens.now c.in_ok-first.left.now
    (rw c.behind.ensures at c.in_ok-first.ensures.built) (rw c.behind.ensures at c.in_ok-first.ensures.shorter))

pub conds-preserved : goal.conds-preserved
conds-preserved c =
    rw c.in_ok-push-2.ensures.items
    (conds-next c.conds.found.items c.in_ok-next.next c.args.tokens.now c.conds.left.now c.in_ok-next.rest.now
    (sym c.begins-in-conds.ensures ∙ c.conds-test.true) c.conds.invariant
    (rw c.behind-in-conds.ensures at c.in_ok-next.ensures.built) (rw c.behind-in-conds.ensures at c.in_ok-next.ensures.shorter))

pub returns-clause-built : goal.returns-clause-built
returns-clause-built c =
    rw (c.from_vec-2.ensures, c.behind-2.ensures)
    (conds-end c.conds.found.items c.args.tokens.now c.conds.left.now (sym c.begins.ensures ∙ c.if-not-begins.false)
    (sym c.begins-in-conds.ensures ∙ c.conds-test.false) c.conds.invariant)
