-- Keys are built one after the other.
use Rattle.std.proofs.Common.{sym, ◌∙◌}
use Rattle.tb_flwor.proofs.OrderLaws.{keys-start, keys-next, keys-end, keys-none}
use Rattle.tb_flwor.proofs.order.keys.Goals as goal

pub returns-then-not-begins : goal.returns-then-not-begins
returns-then-not-begins c =
    rw (c.from_vec.ensures, c.new-found.ensures.items) (keys-none c.args.names.now c.args.tokens.now (sym c.begins.ensures ∙ c.if-not-begins.true))

pub keys-init : goal.keys-init
keys-init c = keys-start c.args.names.now c.push.new.self.items c.in_ok-first.left.now

pub keys-preserved : goal.keys-preserved
keys-preserved c =
    rw c.in_ok-push-2.ensures.items
    (keys-next c.args.names.now c.push.new.self.items c.keys.found.items c.in_ok-next.next c.in_ok-first.left.now c.keys.left.now c.in_ok-next.rest.now
    (sym c.begins-in-keys.ensures ∙ c.keys-test.true) c.keys.invariant
    (rw c.behind-in-keys.ensures at c.in_ok-next.ensures.built) (rw c.behind-in-keys.ensures at c.in_ok-next.ensures.shorter))

pub returns : goal.returns
returns c =
    rw c.from_vec-2.ensures
    (keys-end c.args.names.now c.in_ok-first.first c.keys.found.items c.args.tokens.now c.in_ok-first.left.now c.keys.left.now
    (sym c.begins.ensures ∙ c.if-not-begins.false) (sym c.begins-in-keys.ensures ∙ c.keys-test.false)
    (rw (c.behind-2.ensures, c.behind.ensures) at c.in_ok-first.ensures.built) (rw (c.in_ok-push.ensures.items, c.new-found.ensures.items) at c.keys.invariant))
