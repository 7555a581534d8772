-- The trees that rows print as.
use Rattle.std.specs.Prelude.{ℕ, ◌+◌, nat_eq, if◌then◌else◌, Bool, List, [], Some, None, map, take, drop, slice_index_or, codes}
use Rattle.std.specs.List.{flat_map}
use Rattle.tb_tree.specs.View.{plain_of}
use Rattle.tb_tree.specs.Plain.{Plain, elem, Plains, no_kids, one, plains, joined_kids}
use Rattle.tb_tree.specs.Nodes.{node_at}
use Rattle.tb_pattern.specs.Plain.{PlainPattern, matching, PlainEdges, no_edges, edge, nodes_in}
use Rattle.tb_pattern.specs.View.{edges_of}
use Rattle.tb_pattern.specs.WitnessTree.{shown}
use Rattle.tb_pattern.specs.declared.pattern.Mark.{Mark}
use Rattle.tb_pattern.specs.declared.pattern.Mark.TheVariants as mark
use Rattle.tb_twig.specs.Branches.{inside}
use Rattle.tb_twig.specs.Links.{run}
use Rattle.tb_twig.specs.declared.branch.Branch.{Branch}
use Rattle.tb_twig.specs.declared.link.Link.{Link}
use Rattle.tb_engine.specs.Choices.{Choice, chosen_at, rows_by, rows_at}
use Rattle.tb_engine.specs.declared.ground.Ground as code
use Rattle.tb_engine.specs.declared.ground.Stem as stems

-- where trees come from: the nodes to which edge f leads from node n, the node of a number, and all edges
pub record Ground : Type 0 where
  pub run : ℕ → ℕ → List ℕ
  pub look : ℕ → Plain
  pub laid : List Branch

-- the node of a number, where the document node, 0, is an element `witness`
abbrev pub looked : Plain → ℕ → Plain
looked root n = if nat_eq n 0 then elem (codes "witness") no_kids else node_at root n

abbrev pub ground : List (List Link) → Plain → List Branch → Ground
ground links root laid = record {
  run = λ f n. run (slice_index_or links f []) n;
  look = looked root;
  laid = laid;
}

abbrev pub ground_of : code.Ground → Ground
ground_of g = ground g.runs (plain_of g.tree.now) g.laid.now

-- the tree of what is chosen, if a node is
abbrev pub chosen_tree : (ℕ → Plain) → Choice → Plains
chosen_tree tree None = no_kids
chosen_tree tree (Some n) = one (tree n)

-- one tree, or those of all together
abbrev pub by_mark : Mark → Plains → Plains → Plains
by_mark mark.One alone group = alone
by_mark mark.Optional alone group = alone
by_mark mark.Some alone group = group
by_mark mark.Any alone group = group

-- What stands in the tree of node n for these edges, the first of which has the number f, by the part of a row
-- that is theirs. Where all nodes stand together, each has trees for all its rows.
abbrev pub content_by : Ground → ℕ → PlainEdges → ℕ → List Choice → Plains
content_by g f no_edges n row = no_kids
content_by g f (edge axis m (matching test conds whole below) others) n row =
    joined_kids
    (by_mark m
    (chosen_tree (λ v. shown whole (g.look v) (content_by g (f + 1) below v (take (nodes_in below) (drop 1 row)))) (chosen_at row 0))
    (plains (flat_map
    (λ v. map (λ r. shown whole (g.look v) (content_by g (f + 1) below v (drop 1 r))) (rows_at g.run g.laid (f + 1) (nodes_in below) v))
    (g.run f n))))
    (content_by g (f + 1 + nodes_in below) others n (drop (1 + nodes_in below) row))

-- the tree of node n, which pattern node b met, with the part of a row that is below it
abbrev pub tree_by : Ground → ℕ → Bool → PlainEdges → ℕ → List Choice → Plain
tree_by g b whole edges n row = shown whole (g.look n) (content_by g b edges n row)

-- the trees of the node, for all its rows
abbrev pub trees_at : Ground → ℕ → Bool → PlainEdges → ℕ → List Plain
trees_at g b whole edges n =
    map (λ r. tree_by g b whole edges n (drop 1 r)) (rows_at g.run g.laid b (nodes_in edges) n)

-- the same of a stem of the program
abbrev pub stem_tree : Ground → stems.Stem → List Choice → Plain
stem_tree g s row = tree_by g s.place s.whole (edges_of s.edges.now) s.node row

abbrev pub stem_trees : Ground → stems.Stem → List Plain
stem_trees g s = trees_at g s.place s.whole (edges_of s.edges.now) s.node

-- those of the rows that go on from one
abbrev pub trees_from : Ground → stems.Stem → List Branch → ℕ → List Choice → List Plain
trees_from g s rungs f chosen = map (λ r. stem_tree g s (drop 1 r)) (rows_by g.run s.place rungs f chosen)

-- whether the node of a pattern brings its own content
abbrev pub whole_of : PlainPattern → Bool
whole_of (matching test conds whole below) = whole

-- of one edge: the tree of what is chosen, and those of all together
abbrev pub chosen_trees : Ground → ℕ → PlainPattern → List Choice → Plains
chosen_trees g f to row =
    chosen_tree (λ v. tree_by g (f + 1) (whole_of to) (inside to) v (take (nodes_in (inside to)) (drop 1 row))) (chosen_at row 0)

abbrev pub group_trees : Ground → ℕ → PlainPattern → ℕ → Plains
group_trees g f to n = plains (flat_map (trees_at g (f + 1) (whole_of to) (inside to)) (g.run f n))
