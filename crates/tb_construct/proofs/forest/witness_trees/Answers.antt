-- The rows are the naive witnesses.
use Rattle.std.proofs.Common.{ap₂, ◌∙◌, map}
use Rattle.tb_tree.specs.View.{plain_of}
use Rattle.tb_pattern.specs.View.{edges_of}
use Rattle.tb_construct.specs.Seen.{nth_node, seen}
use Rattle.tb_construct.specs.Trees.{trees_by}
use Rattle.tb_construct.proofs.TreeLaws.{naive-trees}
use Rattle.tb_construct.proofs.forest.witness_trees.Goals as goal

pub returns-clause-naive : goal.returns-clause-naive
returns-clause-naive c =
    naive-trees (edges_of c.args.p.now.edges) (plain_of c.args.store.now) c.args.rows.now c.in_ok-trees.trees.items
    (c.in_ok-trees.ensures ∙ ap₂ (λ es t. trees_by (edges_of es) (map (seen (nth_node (plain_of t))) c.args.rows.now)) c.as_slice.ensures c.tree.ensures.same)
