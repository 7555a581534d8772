use Rattle.std.proofs.Common.{◌≡◌, ◌+◌, drop}
use Rattle.tb_pattern.specs.Plain.{nodes_in}
use Rattle.tb_pattern.specs.View.{edges_of}
use Rattle.tb_twig.proofs.rows.+sizes.Given as goal

-- those of the edges so far, with those of the others
abbrev pub invariant-nodes_in-edges : goal.invariant-nodes_in-edges
invariant-nodes_in-edges l = l.size + nodes_in (edges_of (drop l.edge-index l.edges)) ≡ nodes_in (edges_of l.edges)
