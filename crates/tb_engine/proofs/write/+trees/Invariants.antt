-- Each call is on fewer pattern nodes, or on the same with less left to choose.
use Rattle.std.proofs.Common.{◌≡◌, ◌+◌, ◌-◌, ◌≤◌, ◌*◌, ◌^◌, ◌++◌, ◌∷◌, [], Some, length, drop, map}
use Rattle.std.specs.List.{flat_map}
use Rattle.tb_tree.specs.Plain.{plains}
use Rattle.tb_tree.specs.Pages.{with_nodes}
use Rattle.tb_pattern.specs.Plain.{nodes_in}
use Rattle.tb_pattern.specs.View.{edge_of, edges_of}
use Rattle.tb_twig.specs.Branches.{inside, below_of}
use Rattle.tb_engine.specs.Told.{told, with_trees}
use Rattle.tb_engine.specs.Shown.{ground_of, content_by, whole_of, trees_at, trees_from}
use Rattle.tb_engine.proofs.write.+trees.Given as goal

abbrev pub decreases-write_blank : goal.decreases-write_blank
decreases-write_blank l = 2 ^ 66 * nodes_in (edges_of l.stem.now.edges.now) + (3 * length l.rungs.now + 12)

abbrev pub decreases-write_choice : goal.decreases-write_choice
decreases-write_choice l = 2 ^ 66 * nodes_in (edges_of l.stem.now.edges.now) + (3 * length l.rungs.now + 11)

abbrev pub decreases-write_rows : goal.decreases-write_rows
decreases-write_rows l = 2 ^ 66 * nodes_in (edges_of l.stem.now.edges.now) + (3 * length l.rungs.now + 10)

abbrev pub decreases-write_trees : goal.decreases-write_trees
decreases-write_trees l = 2 ^ 66 * nodes_in (edges_of l.stem.now.edges.now) + (2 ^ 66 - 2)

abbrev pub decreases-write_tree : goal.decreases-write_tree
decreases-write_tree l = 2 ^ 66 * nodes_in (edges_of l.stem.now.edges.now) + 2

abbrev pub decreases-write_inside : goal.decreases-write_inside
decreases-write_inside l = 2 ^ 66 * nodes_in (edges_of l.edges.now) + 1

abbrev pub decreases-write_offer : goal.decreases-write_offer
decreases-write_offer l = 2 ^ 66 * nodes_in (below_of (edge_of l.edge.now)) + 2 ^ 66

abbrev pub decreases-write_chosen : goal.decreases-write_chosen
decreases-write_chosen l = 2 ^ 66 * nodes_in (below_of (edge_of l.edge.now)) + (2 ^ 66 - 1)

abbrev pub decreases-write_group : goal.decreases-write_group
decreases-write_group l = 2 ^ 66 * nodes_in (below_of (edge_of l.edge.now)) + (2 ^ 66 - 1)

-- the trees of the links that are left end as all do
abbrev pub invariant-write_rows-run : goal.invariant-write_rows-run
invariant-write_rows-run l =
    (l.chosen.items ≡ l.initial.chosen.items)
    × (with_trees (told l.pen.page l.trees)
    (flat_map (λ c. trees_from (ground_of l.g) l.stem l.rest (l.f + 1) (l.initial.chosen.items ++ c ∷ [])) (map Some (map (λ link. link.below) (drop l.link-index l.run))))
    ≡ with_trees (told l.initial.pen.page l.initial.trees)
    (flat_map (λ c. trees_from (ground_of l.g) l.stem l.rest (l.f + 1) (l.initial.chosen.items ++ c ∷ [])) (map Some (map (λ link. link.below) l.run))))

abbrev pub invariant-write_group-run : goal.invariant-write_group-run
invariant-write_group-run l =
    let to = (edge_of l.edge).to in
    with_nodes l.pen.page (plains (flat_map (trees_at (ground_of l.g) (l.f + 1) (whole_of to) (inside to)) (map (λ link. link.below) (drop l.link-index l.run))))
    ≡ with_nodes l.initial.pen.page (plains (flat_map (trees_at (ground_of l.g) (l.f + 1) (whole_of to) (inside to)) (map (λ link. link.below) l.run)))

-- what the edges that are left have inside
abbrev pub invariant-write_inside-edges : goal.invariant-write_inside-edges
invariant-write_inside-edges l =
    (l.f ≤ l.at)
    × (l.at + nodes_in (edges_of (drop l.edge-index l.edges)) ≡ l.f + nodes_in (edges_of l.edges))
    × (with_nodes l.pen.page (content_by (ground_of l.g) l.at (edges_of (drop l.edge-index l.edges)) l.n l.left)
    ≡ with_nodes l.initial.pen.page (content_by (ground_of l.g) l.f (edges_of l.edges) l.n l.row))
