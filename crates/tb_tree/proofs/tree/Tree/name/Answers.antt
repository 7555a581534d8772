-- The first extent tells of the node.
use Rattle.std.proofs.Common.{ap, sym, ◌∙◌}
use Rattle.tb_tree.specs.Extents.{name_in}
use Rattle.tb_tree.specs.FlatTrees.{no_extent}
use Rattle.tb_tree.proofs.NodeAtLaws.{part-tells}
use Rattle.tb_tree.proofs.tree.Tree.name.Goals as goal

pub returns-in-Element : goal.returns-in-Element
returns-in-Element c =
    let t = part-tells _ c.part-part.result.extents.now _ _ _ _ _ no_extent c.part-part.ensures.nodes in
    let es = c.part-part.result.elements.now in
    let ns = c.part-part.result.attributes.now in
    c.name_at.ensures ∙ ap (λ k. name_in es ns k c.extent_at-extent.result.name) (sym c.in-Element.is) ∙ ap (λ x. name_in es ns x.kind x.name) c.extent_at-extent.ensures ∙ t.name_is

pub returns-in-Attribute : goal.returns-in-Attribute
returns-in-Attribute c =
    let t = part-tells _ c.part-part.result.extents.now _ _ _ _ _ no_extent c.part-part.ensures.nodes in
    let es = c.part-part.result.elements.now in
    let ns = c.part-part.result.attributes.now in
    c.name_at-in-Attribute.ensures ∙ ap (λ k. name_in es ns k c.extent_at-extent.result.name) (sym c.in-Attribute.is) ∙ ap (λ x. name_in es ns x.kind x.name) c.extent_at-extent.ensures ∙ t.name_is

pub returns-in-Text : goal.returns-in-Text
returns-in-Text c =
    let t = part-tells _ c.part-part.result.extents.now _ _ _ _ _ no_extent c.part-part.ensures.nodes in
    let es = c.part-part.result.elements.now in
    let ns = c.part-part.result.attributes.now in
    ap (λ k. name_in es ns k c.extent_at-extent.result.name) (sym c.in-Text.is) ∙ ap (λ x. name_in es ns x.kind x.name) c.extent_at-extent.ensures ∙ t.name_is
