-- An element with its own content.
use Rattle.std.proofs.Common.{sym, ap, ap₂, ◌∙◌}
use Rattle.tb_tree.specs.View.{plain_of}
use Rattle.tb_tree.specs.Plain.{kids_of}
use Rattle.tb_tree.specs.Nodes.{node_at}
use Rattle.tb_tree.specs.Printed.{start_line}
use Rattle.tb_tree.specs.Pieces.{content_of}
use Rattle.tb_tree.specs.Pages.{with_lines, with_nodes}
use Rattle.tb_tree.specs.Extents.{kind_of}
use Rattle.tb_engine.specs.Marked.{begun}
use Rattle.tb_engine.proofs.NodeLaws.{looked-node, element-begun}
use Rattle.tb_engine.proofs.marked.begin_element.Goals as goal

pub returns : goal.returns
returns c =
    let root = plain_of c.args.tree.now in
    let node = node_at root c.number_of-number.result in
    let p = c.args.page.now in
    let same = c.number_of-number.ensures.same ∙ sym (looked-node root c.args.node c.if-node-eq0.false) in
    c.in_ok-document_content.ensures
    ∙ ap (λ q. with_nodes q (content_of (kids_of node))) (c.in_ok-open.ensures ∙ ap₂ (λ q n. with_lines q (start_line n)) c.in_ok-document_attributes.ensures c.name.ensures)
    ∙ element-begun p node c.printed.ensures.sound (ap kind_of same ∙ c.requires)
    ∙ ap₂ (λ w n. begun w n p) (sym c.if-not-whole.false) same
