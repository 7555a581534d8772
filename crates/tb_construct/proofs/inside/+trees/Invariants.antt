use Rattle.std.proofs.Common.{◌≡◌, drop, map}
use Rattle.tb_tree.specs.View.{plain_of, plains_of}
use Rattle.tb_pattern.specs.View.{edges_of, pattern_at}
use Rattle.tb_pattern.specs.Witness.{together}
use Rattle.tb_pattern.specs.WitnessTree.{trees_of, trees_of_all}
use Rattle.tb_construct.specs.Seen.{nth_node, seen, row_seen}
use Rattle.tb_construct.specs.Kids.{with_kids}
use Rattle.tb_construct.proofs.inside.+trees.Given as goal

-- the kids so far, with the trees of the edges that are left
abbrev pub invariant-put_offers-edges : goal.invariant-put_offers-edges
invariant-put_offers-edges l =
    with_kids (plains_of l.kids.items) (trees_of (edges_of (drop l.edge-index l.edges)) (row_seen (nth_node (plain_of l.tree)) l.left))
    ≡ with_kids (plains_of l.initial.kids.items) (trees_of (edges_of l.edges) (row_seen (nth_node (plain_of l.tree)) l.row))

-- the kids so far, with the trees of the witnesses that are left
abbrev pub invariant-put_trees-witnesses : goal.invariant-put_trees-witnesses
invariant-put_trees-witnesses l =
    with_kids (plains_of l.kids.items) (trees_of_all (pattern_at l.to) (together (map (seen (nth_node (plain_of l.tree))) (drop l.w-index l.offer))))
    ≡ with_kids (plains_of l.initial.kids.items) (trees_of_all (pattern_at l.to) (together (map (seen (nth_node (plain_of l.tree))) l.offer)))
