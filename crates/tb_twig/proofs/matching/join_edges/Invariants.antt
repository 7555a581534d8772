use Rattle.std.proofs.Common.{◌≡◌, map, take}
use Rattle.tb_tree.specs.View.{plain_of}
use Rattle.tb_pattern.specs.View.{edges_of}
use Rattle.tb_twig.specs.Branches.{branches_of}
use Rattle.tb_twig.specs.Lists.{items_in, branch_of}
use Rattle.tb_twig.specs.Links.{lists_in}
use Rattle.tb_twig.proofs.HoldsLaws.{Holds}
use Rattle.tb_twig.proofs.matching.join_edges.Given as goal

-- what the joins know when the edges so far are done
abbrev pub invariant-order : goal.invariant-order
invariant-order g l = record {
  laid : l.joins.laid.items ≡ map branch_of (branches_of (edges_of l.p.edges));
  holds : Holds (plain_of l.store) (edges_of l.p.edges) (take l.e-index l.e-items) (map items_in l.joins.lists.items) (lists_in l.joins.links.items) (map (λ t. t.size) l.joins.trace.items);
}
