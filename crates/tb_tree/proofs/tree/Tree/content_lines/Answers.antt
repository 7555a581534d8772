-- The content stands between the start line and the end line, which are as long.
use Rattle.std.proofs.Common.{◌≡◌, ◌+◌, length, ap, sym, ◌∙◌, arith}
use Rattle.tb_tree.specs.View.{plain_of}
use Rattle.tb_tree.specs.Nodes.{node_at}
use Rattle.tb_tree.specs.Extents.{name_of}
use Rattle.tb_tree.proofs.ContentLaws.{lines-between}
use Rattle.tb_tree.proofs.tree.Tree.content_lines.Goals as goal

pub returns-clause-lines : goal.returns-clause-lines
returns-clause-lines c =
    let node = node_at (plain_of c.args.self.now) c.args.number in
    let lines = c.printed-lines.result.now in
    let line = length c.name.result.now + 2 in
    let named : line ≡ length (name_of node) + 2 = ap (λ w. length w + 2) c.name.ensures in
    c.within.ensures
    ∙ lines-between node lines c.attributes_len-start.result line c.saturating_sub-2.result (sym c.kind.ensures ∙ c.in-Element.is) c.printed-lines.ensures.lines c.attributes_len-start.ensures named
    (omega (arith, c.saturating_sub-2.ensures, c.saturating_sub-len.ensures, c.saturating_sub.ensures))
