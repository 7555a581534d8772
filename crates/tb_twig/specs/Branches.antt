-- The edges of a pattern, each with the number of the node above it, and which nodes the lower one is.
use Rattle.std.specs.Prelude.{ℕ, ◌+◌, Bool, false, ◌&&◌, List, [], ◌∷◌, ◌++◌, slice_index_or}
use Rattle.tb_span.specs.declared.item.Axis.{Axis}
use Rattle.tb_span.specs.declared.item.Axis.TheVariants.{Descendant}
use Rattle.tb_tree.specs.Plain.{kids_of}
use Rattle.tb_tree.specs.Numbers.{Numbered}
use Rattle.tb_tree.specs.Meets.{meets}
use Rattle.tb_tree.specs.Value.{value_of}
use Rattle.tb_tree.specs.declared.node_test.Test.{Test}
use Rattle.tb_tree.specs.declared.node_test.Test.TheVariants.{AnyElement}
use Rattle.tb_pattern.specs.Plain.{PlainPattern, matching, PlainEdges, no_edges, edge, PlainEdge, nodes_in}
use Rattle.tb_pattern.specs.Conditions.{all_hold}
use Rattle.tb_pattern.specs.Witness.{on_axis}
use Rattle.tb_pattern.specs.declared.pattern.Mark.{Mark}
use Rattle.tb_pattern.specs.declared.pattern.Mark.TheVariants.{One}

-- An edge, the number of the pattern node above it, and the pattern at its lower end. Pattern node 0 is the
-- document node, and node e + 1 the lower end of edge e.
pub record Branch : Type 0 where
  pub up : ℕ
  pub axis : Axis
  pub mark : Mark
  pub to : PlainPattern

abbrev pub branch_to : ℕ → PlainEdge → Branch
branch_to n e = record { up = n; axis = e.axis; mark = e.mark; to = e.to }

-- the edges below an edge
abbrev pub inside : PlainPattern → PlainEdges
inside (matching test conds whole edges) = edges

abbrev pub below_of : PlainEdge → PlainEdges
below_of e = inside e.to

-- the edges that leave node n and all below them, in written order; the first has the number e
abbrev pub branches : ℕ → ℕ → PlainEdges → List Branch
branches n e no_edges = []
branches n e (edge axis mark (matching test conds whole below) others) =
    record { up = n; axis = axis; mark = mark; to = matching test conds whole below }
    ∷ (branches (e + 1) (e + 1) below ++ branches n (e + 1 + nodes_in below) others)

-- an edge that leaves node n and has the number e, and all edges below it
abbrev pub branches_in : ℕ → ℕ → PlainEdge → List Branch
branches_in n e it = branch_to n it ∷ branches (e + 1) (e + 1) (below_of it)

-- what `branch_at` reads past the last edge
abbrev pub no_branch : Branch
no_branch = record { up = 0; axis = Descendant; mark = One; to = matching AnyElement [] false no_edges }

-- the edges of a pattern, and edge number e
abbrev pub branches_of : PlainEdges → List Branch
branches_of edges = branches 0 0 edges

abbrev pub branch_at : PlainEdges → ℕ → Branch
branch_at edges e = slice_index_or (branches_of edges) e no_branch

-- the test of a pattern node
abbrev pub test_of : PlainPattern → Test
test_of (matching test conds whole edges) = test

-- the node meets the test and the conditions of the pattern node
abbrev pub fits : PlainPattern → Numbered → Bool
fits (matching test conds whole edges) u = meets test u.node && all_hold conds (value_of u.node)

-- the nodes on the axis of a node, in document order
abbrev pub axis_of : Axis → Numbered → List Numbered
axis_of axis u = on_axis axis u.number (kids_of u.node)
