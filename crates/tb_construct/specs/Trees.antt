-- The trees of rows. A row is a witness at the document node.
use Rattle.std.specs.Prelude.{List, map}
use Rattle.tb_tree.specs.Plain.{Plain}
use Rattle.tb_pattern.specs.Plain.{PlainEdges}
use Rattle.tb_pattern.specs.Witness.{Witness, witness}
use Rattle.tb_pattern.specs.WitnessTree.{witness_tree}

-- the tree of a row: an element `witness` with the trees of what is offered
abbrev pub row_tree : PlainEdges → Witness → Plain
row_tree edges (witness number node given) = witness_tree edges given

-- a tree a row, in the order of the rows
abbrev pub trees_by : PlainEdges → List Witness → List Plain
trees_by edges rows = map (row_tree edges) rows
