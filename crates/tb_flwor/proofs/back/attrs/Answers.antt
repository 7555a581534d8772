-- Attributes are built one after the other.
use Rattle.std.proofs.Common.{sym, ◌∙◌}
use Rattle.tb_flwor.proofs.ConsLaws.{attrs-first, attrs-next, attrs-end, attrs-none}
use Rattle.tb_flwor.proofs.back.attrs.Goals as goal

pub returns-then-not-begins_name-clause-built : goal.returns-then-not-begins_name-clause-built
returns-then-not-begins_name-clause-built c =
    rw (c.from_vec.ensures, c.new-found.ensures.items) (attrs-none c.args.names.now c.args.tokens.now (sym c.begins_name.ensures ∙ c.if-not-begins_name.true))

pub attrs-init : goal.attrs-init
attrs-init c =
    rw (c.in_ok-push.ensures.items, c.new-found.ensures.items)
    (attrs-first c.args.names.now c.in_ok-first.first c.args.tokens.now c.in_ok-first.left.now (sym c.begins_name.ensures ∙ c.if-not-begins_name.false)
    c.in_ok-first.ensures.built c.in_ok-first.ensures.shorter)

pub attrs-preserved : goal.attrs-preserved
attrs-preserved c =
    rw c.in_ok-push-2.ensures.items
    (attrs-next c.args.names.now c.attrs.found.items c.in_ok-next.next c.args.tokens.now c.attrs.left.now c.in_ok-next.rest.now
    (sym c.begins_name-in-attrs.ensures ∙ c.attrs-test.true) c.attrs.invariant c.in_ok-next.ensures.built c.in_ok-next.ensures.shorter)

pub returns-clause-built : goal.returns-clause-built
returns-clause-built c =
    rw c.from_vec-2.ensures
    (attrs-end c.args.names.now c.attrs.found.items c.args.tokens.now c.attrs.left.now (sym c.begins_name-in-attrs.ensures ∙ c.attrs-test.false) c.attrs.invariant)
