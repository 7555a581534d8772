-- An attribute's piece stands in its line, and any other node's is its only text.
use Rattle.std.proofs.Common.{◌+◌, ℕ, List, [], length, get_or, Some, ap, sym, ◌∙◌}
use Rattle.tb_tree.specs.declared.extent.Extent as code
use Rattle.tb_tree.specs.FlatTrees.{raw_behind, no_extent}
use Rattle.tb_tree.proofs.NodeAtLaws.{part-tells}
use Rattle.tb_tree.proofs.PieceLaws.{part-attribute, part-piece}
use Rattle.tb_tree.proofs.tree.Tree.piece.Goals as goal

pub returns-in-Attribute : goal.returns-in-Attribute
returns-in-Attribute c =
    let own = c.part-part.result.extents.now in
    let lines = c.part-part.result.text.now in
    let names = c.part-part.result.attributes.now in
    let e = c.extent_at-first.result in
    ap (λ (r : List ℕ). Some (r, e.escaped)) (c.raw_behind.ensures ∙ ap (λ w. raw_behind lines (8 + length w) e.from e.to) c.name_at.ensures)
    ∙ ap (λ (x : code.Extent). Some (raw_behind lines (8 + length (get_or names x.name [])) x.from x.to, x.escaped)) c.extent_at-first.ensures
    ∙ part-attribute _ own _ _ _ _ _ no_extent c.part-part.ensures.nodes (sym (ap (λ x. x.kind) c.extent_at-first.ensures) ∙ c.in-Attribute.is)

pub returns-in_default : goal.returns-in_default
returns-in_default c =
    let own = c.part-part.result.extents.now in
    let t = part-tells _ own _ _ _ _ _ no_extent c.part-part.ensures.nodes in
    c.only_text.ensures ∙ part-piece _ own _ _ _ _ _ c.part-part.ensures.nodes (λ is. c.in_default.not-Attribute (ap (λ x. x.kind) c.extent_at-first.ensures ∙ t.kind_is ∙ is))
