-- The last extent is that of the last kid, if this is a text.
use Rattle.std.proofs.Common.{◌≡◌, ◌+◌, ◌-◌, ap, ap₂, ◌∙◌, arith}
use Rattle.tb_tree.specs.View.{plain_of}
use Rattle.tb_tree.specs.Numbers.{count}
use Rattle.tb_tree.specs.Nodes.{node_at, level_at}
use Rattle.tb_tree.specs.FlatTrees.{no_extent}
use Rattle.tb_tree.specs.Parts.{is_text_at}
use Rattle.tb_tree.proofs.Numbering.{some-count}
use Rattle.tb_tree.proofs.NodeAtLaws.{part-tells}
use Rattle.tb_tree.proofs.ContentLaws.{part-last}
use Rattle.tb_tree.proofs.tree.Tree.ends_with_text.Goals as goal

pub returns : goal.returns
returns c =
    let root = plain_of c.args.self.now in
    let number = c.args.number in
    let own = c.part-part.result.extents.now in
    let t = part-tells _ own _ _ _ _ _ no_extent c.part-part.ensures.nodes in
    let i = c.saturating_sub.result + 1 - 1 in
    let at : i + 1 ≡ count (node_at root number) = omega (arith, c.saturating_sub.ensures, ap (λ x. x.last) c.extent_at-first.ensures, t.last_is, some-count (node_at root number)) in
    let level : c.from.result ≡ level_at root number = c.from.ensures ∙ ap (λ x. x.level) c.extent_at-first.ensures ∙ t.level_is in
    c.is_text_at.ensures ∙ ap₂ (λ l x. is_text_at (l + 1) x) level c.extent_at-last.ensures
    ∙ part-last _ own _ _ number _ i (node_at root number) no_extent c.part-part.ensures.nodes c.part-part.ensures.sound at
