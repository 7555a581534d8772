-- Constructors are built part by part, and lists of parts one after the other.
use Rattle.std.proofs.Common.{sym, ◌∙◌}
use Rattle.tb_flwor.proofs.ConsLaws.{cons-builds, inside-none, inside-parts, parts-first, parts-next, parts-end, parts-none, part-cons, part-content}
use Rattle.tb_flwor.proofs.back.+building.Goals as goal

pub cons-returns-clause-built : goal.cons-returns-clause-built
cons-returns-clause-built t c =
    rw c.in_ok-name.ensures
    (cons-builds c.args.names.now c.in_ok-attrs.attrs c.in_ok-parts.parts c.args.tokens.now c.in_ok-attrs.left.now c.in_ok-parts.left.now
    (rw c.behind.ensures at c.in_ok-attrs.ensures.built) c.in_ok-parts.ensures.built)

pub inside-returns-then-begins-clause-built : goal.inside-returns-then-begins-clause-built
inside-returns-then-begins-clause-built t c =
    rw (c.from_vec.ensures, c.new.ensures.items, c.behind.ensures) (inside-none c.args.names.now c.args.tokens.now (sym c.begins.ensures ∙ c.if-begins.true))

pub inside-returns-clause-built : goal.inside-returns-clause-built
inside-returns-clause-built t c =
    rw (c.behind-5.ensures, c.behind-4.ensures, c.behind-3.ensures)
    (inside-parts c.args.names.now c.in_ok-parts.parts c.args.tokens.now c.in_ok-parts.left.now (sym c.begins.ensures ∙ c.if-begins.false)
    (rw c.behind-2.ensures at c.in_ok-parts.ensures.built))

pub parts-returns-then-not-begins-clause-built : goal.parts-returns-then-not-begins-clause-built
parts-returns-then-not-begins-clause-built t c =
    rw (c.from_vec.ensures, c.new-found.ensures.items) (parts-none c.args.names.now c.args.tokens.now (sym c.begins.ensures ∙ c.if-not-begins.true))

pub parts-parts-init : goal.parts-parts-init
parts-parts-init t c =
    rw (c.in_ok-push.ensures.items, c.new-found.ensures.items)
    (parts-first c.args.names.now c.in_ok-first.first c.args.tokens.now c.in_ok-first.left.now (sym c.begins.ensures ∙ c.if-not-begins.false)
    c.in_ok-first.ensures.built c.in_ok-first.ensures.shorter)

pub parts-parts-preserved : goal.parts-parts-preserved
parts-parts-preserved t c =
    rw c.in_ok-push-2.ensures.items
    (parts-next c.args.names.now c.parts.found.items c.in_ok-next.next c.args.tokens.now c.parts.left.now c.in_ok-next.rest.now
    (sym c.begins-in-parts.ensures ∙ c.parts-test.true) c.parts.invariant c.in_ok-next.ensures.built c.in_ok-next.ensures.shorter)

pub parts-returns-clause-built : goal.parts-returns-clause-built
parts-returns-clause-built t c =
    rw c.from_vec-2.ensures
    (parts-end c.args.names.now c.parts.found.items c.args.tokens.now c.parts.left.now (sym c.begins-in-parts.ensures ∙ c.parts-test.false) c.parts.invariant)

pub part-returns-then-begins-clause-built : goal.part-returns-then-begins-clause-built
part-returns-then-begins-clause-built t c =
    part-cons c.args.names.now c.in_ok-inner.inner c.args.tokens.now c.in_ok-inner.left.now (sym c.begins.ensures ∙ c.if-begins.true)
    (rw c.behind.ensures at c.in_ok-inner.ensures.built)

pub part-returns-clause-built : goal.part-returns-clause-built
part-returns-clause-built t c =
    part-content c.args.names.now c.in_ok-content.content c.args.tokens.now c.in_ok-content.left.now (sym c.begins.ensures ∙ c.if-begins.false) c.in_ok-content.ensures.built
