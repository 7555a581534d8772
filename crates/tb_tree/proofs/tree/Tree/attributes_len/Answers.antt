-- The attributes' lines end where the start line begins.
use Rattle.std.proofs.Common.{◌-◌, drop, ap, ◌∙◌}
use Rattle.tb_tree.specs.declared.extent.Extent as code
use Rattle.tb_tree.specs.FlatTrees.{no_extent}
use Rattle.tb_tree.specs.Parts.{attributes_end}
use Rattle.tb_tree.proofs.ContentLaws.{part-attributes}
use Rattle.tb_tree.proofs.tree.Tree.attributes_len.Goals as goal

pub returns : goal.returns
returns c =
    let own = c.part-part.result.extents.now in
    let from = c.extent_at-from.result.from in
    c.saturating_sub.ensures ∙ ap (λ n. n - from) (c.attributes_end-end.ensures ∙ ap (attributes_end from) c.suffix.ensures)
    ∙ ap (λ (x : code.Extent). attributes_end x.from (drop 1 own) - x.from) c.extent_at-from.ensures ∙ part-attributes _ own _ _ _ _ _ no_extent c.part-part.ensures.nodes c.part-part.ensures.sound
