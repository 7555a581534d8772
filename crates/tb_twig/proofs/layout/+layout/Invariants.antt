use Rattle.std.proofs.Common.{◌≡◌, ◌+◌, ◌++◌, length, map, drop}
use Rattle.tb_tree.specs.View.{plain_of}
use Rattle.tb_pattern.specs.Plain.{nodes_in}
use Rattle.tb_pattern.specs.View.{edges_of}
use Rattle.tb_twig.specs.Branches.{branches}
use Rattle.tb_twig.specs.Lists.{items_in, branch_of, first_list}
use Rattle.tb_twig.proofs.layout.+layout.Given as goal

-- the edges and lists so far, with those of the edges that are left
abbrev pub invariant-lay_out-edges : goal.invariant-lay_out-edges
invariant-lay_out-edges l = record {
  count : length l.laid.items + nodes_in (edges_of (drop l.edge-index l.edges)) ≡ length l.initial.laid.items + nodes_in (edges_of l.edges);
  laid : l.laid.items ++ map branch_of (branches l.up (length l.laid.items) (edges_of (drop l.edge-index l.edges)))
      ≡ l.initial.laid.items ++ map branch_of (branches l.up (length l.initial.laid.items) (edges_of l.edges));
  lists : map items_in l.lists.items ++ map (λ s. first_list (plain_of l.store) s.to) (branches l.up (length l.laid.items) (edges_of (drop l.edge-index l.edges)))
      ≡ map items_in l.initial.lists.items ++ map (λ s. first_list (plain_of l.store) s.to) (branches l.up (length l.initial.laid.items) (edges_of l.edges));
}
