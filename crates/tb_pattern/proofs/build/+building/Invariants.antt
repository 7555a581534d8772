use Rattle.std.proofs.Common.{◌+◌, ◌*◌, length}
use Rattle.tb_pattern.proofs.EdgeLaws.{EdgesSoFar}
use Rattle.tb_pattern.proofs.build.+building.Given as goal

-- Fewer tokens are left behind each bracket. A list of edges calls for an edge, and an edge for what
-- is below it, at the same tokens.
abbrev pub decreases-below : goal.decreases-below
decreases-below l = 3 * length l.tokens.now

abbrev pub decreases-edge : goal.decreases-edge
decreases-edge l = 3 * length l.tokens.now + 1

abbrev pub decreases-edges : goal.decreases-edges
decreases-edges l = 3 * length l.tokens.now + 2

-- so much of the list is built
abbrev pub invariant-edges-edges : goal.invariant-edges-edges
invariant-edges-edges l = EdgesSoFar l.found.items l.tokens l.left

abbrev pub decreases-edges-edges : goal.decreases-edges-edges
decreases-edges-edges l = length l.left
