use Rattle.std.proofs.Common.{◌≡◌, take, map}
use Rattle.tb_tree.specs.View.{plain_of}
use Rattle.tb_pattern.specs.View.{edges_of}
use Rattle.tb_construct.specs.Seen.{nth_node, seen}
use Rattle.tb_construct.specs.Trees.{trees_by}
use Rattle.tb_construct.proofs.forest.row_trees.Given as goal

-- the trees of the rows so far
abbrev pub invariant-rows : goal.invariant-rows
invariant-rows l = map plain_of l.trees.items ≡ trees_by (edges_of l.edges) (map (seen (nth_node (plain_of l.tree))) (take l.row-index l.rows))
