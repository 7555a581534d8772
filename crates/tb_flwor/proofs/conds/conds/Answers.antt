-- Conditions are built one after the other.
use Rattle.std.proofs.Common.{sym, ◌∙◌}
use Rattle.tb_flwor.proofs.CondLaws.{conds-start, conds-next, conds-end, conds-none}
use Rattle.tb_flwor.proofs.conds.conds.Goals as goal

pub returns-then-not-begins : goal.returns-then-not-begins
returns-then-not-begins c =
    rw (c.from_vec.ensures, c.new-found.ensures.items) (conds-none c.args.names.now c.args.tokens.now (sym c.begins.ensures ∙ c.if-not-begins.true))

pub conds-init : goal.conds-init
conds-init c = conds-start c.args.names.now c.push.new.self.items c.in_ok-first.left.now

pub conds-preserved : goal.conds-preserved
conds-preserved c =
    rw c.in_ok-push-2.ensures.items
    (conds-next c.args.names.now c.push.new.self.items c.conds.found.items c.in_ok-next.next c.in_ok-first.left.now c.conds.left.now c.in_ok-next.rest.now
    (sym c.begins-in-conds.ensures ∙ c.conds-test.true) c.conds.invariant
    (rw c.behind-in-conds.ensures at c.in_ok-next.ensures.built) (rw c.behind-in-conds.ensures at c.in_ok-next.ensures.shorter))

pub returns : goal.returns
returns c =
    rw c.from_vec-2.ensures
    (conds-end c.args.names.now c.in_ok-first.first c.conds.found.items c.args.tokens.now c.in_ok-first.left.now c.conds.left.now
    (sym c.begins.ensures ∙ c.if-not-begins.false) (sym c.begins-in-conds.ensures ∙ c.conds-test.false)
    (rw c.behind.ensures at c.in_ok-first.ensures.built) (rw (c.in_ok-push.ensures.items, c.new-found.ensures.items) at c.conds.invariant))
