-- The first extent tells of the node.
use Rattle.std.proofs.Common.{◌-◌, take, drop, ap, ◌∙◌}
use Rattle.tb_tree.specs.FlatTrees.{no_extent}
use Rattle.tb_tree.proofs.NodeAtLaws.{part-tells}
use Rattle.tb_tree.proofs.tree.Tree.printed.Goals as goal

pub returns-clause-lines : goal.returns-clause-lines
returns-clause-lines c =
    let t = part-tells _ c.part-part.result.extents.now _ _ _ _ _ no_extent c.part-part.ensures.nodes in
    let lines = c.part-part.result.text.now in
    c.within.ensures ∙ ap (λ n. take n (drop c.extent_at-extent.result.from lines)) c.saturating_sub.ensures
    ∙ ap (λ x. take (x.to - x.from) (drop x.from lines)) c.extent_at-extent.ensures ∙ t.printed
