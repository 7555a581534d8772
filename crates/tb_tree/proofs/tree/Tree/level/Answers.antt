-- The first extent tells of the node.
use Rattle.std.proofs.Common.{ap, ◌∙◌}
use Rattle.tb_tree.specs.FlatTrees.{no_extent}
use Rattle.tb_tree.proofs.NodeAtLaws.{part-tells}
use Rattle.tb_tree.proofs.tree.Tree.level.Goals as goal

pub returns : goal.returns
returns c =
    let t = part-tells _ c.part.result.extents.now _ _ _ _ _ no_extent c.part.ensures.nodes in
    ap (λ x. x.level) c.extent_at.ensures ∙ t.level_is
