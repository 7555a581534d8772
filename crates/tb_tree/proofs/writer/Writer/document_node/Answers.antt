-- The line of a text goes on in that of a text before it.
use Rattle.std.proofs.Common.{true, ap, sym, ◌∙◌}
use Rattle.tb_tree.specs.View.{plain_of}
use Rattle.tb_tree.specs.Nodes.{node_at}
use Rattle.tb_tree.specs.Pages.{joined, going_on}
use Rattle.tb_tree.proofs.PageLaws.{text-copied}
use Rattle.tb_tree.proofs.writer.Writer.document_node.Goals as goal

pub returns-in_ok-copy-in-Text : goal.returns-in_ok-copy-in-Text
returns-in_ok-copy-in-Text c =
    c.in_ok-copy-in-Text.ensures ∙ ap (λ l. going_on (joined c.args.self.now true l) true) c.printed-lines.ensures.lines
    ∙ text-copied c.args.self.now (node_at (plain_of c.args.tree.now) c.args.number) (sym c.kind.ensures ∙ c.in-Text.is) c.printed-lines.ensures.sound
