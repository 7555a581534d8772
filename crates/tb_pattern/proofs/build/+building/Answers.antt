-- Edges are built part by part, and lists of them one after the other.
use Rattle.std.proofs.Common.{sym, ◌∙◌}
use Rattle.tb_pattern.proofs.EdgeLaws.{edge-builds, edges-first, edges-next, edges-end, below-there, below-none}
use Rattle.tb_pattern.proofs.build.+building.Goals as goal

pub below-returns-then-begins-clause-built : goal.below-returns-then-begins-clause-built
below-returns-then-begins-clause-built t c =
    below-there c.in_ok-edges.edges c.args.tokens.now c.in_ok-edges.left.now (sym c.begins.ensures ∙ c.if-begins.true)
    (rw c.behind.ensures at c.in_ok-edges.ensures.built)

pub below-returns-clause-built : goal.below-returns-clause-built
below-returns-clause-built t c =
    rw (c.from_vec.ensures, c.new.ensures.items) (below-none c.args.tokens.now (sym c.begins.ensures ∙ c.if-begins.false))

pub edge-returns-clause-built : goal.edge-returns-clause-built
edge-returns-clause-built t c =
    rw (c.axis.ensures, c.mark.ensures, c.behind-marked.ensures)
    (edge-builds c.args.tokens.now c.in_ok-test.left.now c.in_ok-conds.left.now c.whole-whole.result.1.now c.in_ok-edges.left.now
    c.in_ok-test.test c.in_ok-conds.conds c.whole-whole.result.0 c.in_ok-edges.edges
    (rw (c.behind.ensures, c.behind-marked.ensures) at c.in_ok-test.ensures.built)
    c.in_ok-conds.ensures.built c.whole-whole.ensures.built c.in_ok-edges.ensures.built)

pub edges-edges-init : goal.edges-edges-init
edges-edges-init t c =
    rw (c.in_ok-push.ensures.items, c.new-found.ensures.items)
    (edges-first c.in_ok-first.first c.args.tokens.now c.in_ok-first.left.now c.in_ok-first.ensures.built c.in_ok-first.ensures.shorter)

pub edges-edges-preserved : goal.edges-edges-preserved
edges-edges-preserved t c =
    rw c.in_ok-push-2.ensures.items
    (edges-next c.edges.found.items c.in_ok-next.next c.args.tokens.now c.edges.left.now c.in_ok-next.rest.now
    (sym c.begins.ensures ∙ c.edges-test.true) c.edges.invariant
    (rw c.behind.ensures at c.in_ok-next.ensures.built) (rw c.behind.ensures at c.in_ok-next.ensures.shorter))

pub edges-returns-clause-built : goal.edges-returns-clause-built
edges-returns-clause-built t c =
    rw (c.from_vec.ensures, c.behind-2.ensures)
    (edges-end c.edges.found.items c.args.tokens.now c.edges.left.now (sym c.begins.ensures ∙ c.edges-test.false) c.edges.invariant)
