-- Annotated patterns as plain data, after TAX (Jagadish and others, VLDB Journal 2002) and tree
-- logical classes (Paparizos and others, SIGMOD 2004).
use Rattle.std.specs.Prelude.{ℕ, ◌+◌, max, Bool, List, [], ◌∷◌, ◌++◌}
use Rattle.tb_span.specs.declared.item.Axis.{Axis}
use Rattle.tb_tree.specs.declared.node_test.Test.{Test}
use Rattle.tb_pattern.specs.declared.cond.Cond.{Cond}
use Rattle.tb_pattern.specs.declared.pattern.Mark.{Mark}

mutual
  -- a test, conditions on the value, whether the node brings its own content (`!`), and edges
  pub data PlainPattern : Type 0 where
    matching : Test → List Cond → Bool → PlainEdges → PlainPattern

  -- edges in written order, each with its axis, its mark and the pattern at its lower end
  pub data PlainEdges : Type 0 where
    no_edges : PlainEdges
    edge : Axis → Mark → PlainPattern → PlainEdges → PlainEdges

-- one edge
pub record PlainEdge : Type 0 where
  pub axis : Axis
  pub mark : Mark
  pub to : PlainPattern

-- edges given as a list
abbrev pub edges : List PlainEdge → PlainEdges
edges [] = no_edges
edges (e ∷ es) = edge e.axis e.mark e.to (edges es)

-- The edges in written order, each before those below it: edge number n, from 0, is the n-th.
abbrev pub numbered_edges : PlainEdges → List PlainEdge
numbered_edges no_edges = []
numbered_edges (edge axis mark (matching test conds whole below) others) =
    record { axis = axis; mark = mark; to = matching test conds whole below }
    ∷ numbered_edges below ++ numbered_edges others

-- how many nodes the edges lead to, one after the other
abbrev pub nodes_in : PlainEdges → ℕ
nodes_in no_edges = 0
nodes_in (edge axis mark (matching test conds whole below) others) =
    1 + nodes_in below + nodes_in others

-- how many nodes are inside each other, at most
abbrev pub levels : PlainEdges → ℕ
levels no_edges = 0
levels (edge axis mark (matching test conds whole below) others) =
    max (1 + levels below) (levels others)
