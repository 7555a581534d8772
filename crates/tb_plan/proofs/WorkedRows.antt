-- The orders of a small pattern, and the marks of a small list, computed.
use Rattle.std.proofs.Common.{◌≡◌, false, [], ◌∷◌, refl}
use Rattle.tb_tree.specs.declared.node_test.Test.TheVariants.{AnyElement}
use Rattle.tb_pattern.specs.Plain.{PlainEdges, PlainEdge, matching, no_edges, edge}
use Rattle.tb_plan.specs.Orders.{written_order, reverse_order}
use Rattle.tb_plan.specs.Marks.{marked}

-- the edges of `(/- * (/- *, /- *), /- *)`, or with another axis and another mark
module _ (e : PlainEdge) where
  -- an edge to any element, the edges below it, and those behind
  abbrev to : PlainEdges → PlainEdges → PlainEdges
  to below others = edge e.axis e.mark (matching AnyElement [] false below) others

  abbrev four : PlainEdges
  four = to (to no_edges (to no_edges no_edges)) (to no_edges no_edges)

  four-written : written_order four ≡ 0 ∷ 1 ∷ 2 ∷ 3 ∷ []
  four-written = refl

  four-reverse : reverse_order four ≡ 3 ∷ 2 ∷ 1 ∷ 0 ∷ []
  four-reverse = refl

none-written : written_order no_edges ≡ []
none-written = refl

-- 2 and 0 have marked their entries, 1 has not
two-marked : marked (2 ∷ 0 ∷ []) (2 ∷ 0 ∷ 1 ∷ []) ≡ 2147483650 ∷ 0 ∷ 2147483649 ∷ []
two-marked = refl
