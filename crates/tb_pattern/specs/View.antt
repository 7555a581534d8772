-- The plain pattern that a pattern of the program is.
use Rattle.std.specs.Prelude.{List, map}
use Rattle.tb_pattern.specs.Plain.{PlainPattern, matching, PlainEdges, PlainEdge, edges}
use Rattle.tb_pattern.specs.declared.pattern.Edge.{Edge, fold-Edge}
use Rattle.tb_pattern.specs.declared.pattern.PNode.{PNode, fold-PNode}
use Rattle.tb_pattern.specs.declared.pattern.Edge.TheOpen.{Edge-F, PNode-F}

-- one edge whose lower end is seen already, and one node whose edges are
abbrev pub edge_step : Edge-F PlainEdge PlainPattern → PlainEdge
edge_step e = record { axis = e.axis; mark = e.mark; to = e.to }

abbrev pub node_step : PNode-F PlainEdge PlainPattern → PlainPattern
node_step p = matching p.test p.conds p.whole (edges p.edges)

-- the plain edge, node, and edges that those of the program are
abbrev pub edge_of : Edge → PlainEdge
edge_of = fold-Edge PlainEdge PlainPattern edge_step node_step

abbrev pub pattern_at : PNode → PlainPattern
pattern_at = fold-PNode PlainEdge PlainPattern edge_step node_step

abbrev pub edges_of : List Edge → PlainEdges
edges_of es = edges (map edge_of es)
