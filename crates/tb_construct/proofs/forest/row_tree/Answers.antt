-- The tree of a row.
use Rattle.tb_tree.specs.View.{plain_of}
use Rattle.std.proofs.Common.{◌∙◌}
use Rattle.tb_construct.specs.Seen.{nth_node}
use Rattle.tb_construct.proofs.TreeLaws.{row-tree}
use Rattle.tb_construct.proofs.forest.row_tree.Goals as goal

pub returns : goal.returns
returns c =
    row-tree (nth_node (plain_of c.args.tree.now)) c.args.edges.now c.args.row.now c.from_vec-name.result c.new-kids.result.items c.put_offers.new.kids.items c.from_vec.result c.as_slice.result.now
    (c.from_vec-name.ensures ∙ c.in_ok-to_vec.ensures.items_if_clones_equal (λ x y e. e)) c.new-kids.ensures.items c.as_slice.ensures c.in_ok-put_offers.ensures c.from_vec.ensures
