use Rattle.std.proofs.Common.{◌≡◌, ◌+◌, drop}
use Rattle.tb_pattern.specs.View.{edges_of}
use Rattle.tb_plan.specs.Orders.{edge_count}
use Rattle.tb_plan.proofs.count.+edges_in.Given as goal

-- the edges so far, with those that are left, make the whole
abbrev pub invariant-edges : goal.invariant-edges
invariant-edges l = l.count + edge_count (edges_of (drop l.edge-index l.edges)) ≡ edge_count (edges_of l.edges)
