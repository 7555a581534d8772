-- A node's lines begin with those of its attributes.
use Rattle.std.proofs.Common.{take, ap₂, ◌∙◌}
use Rattle.tb_tree.specs.View.{plain_of}
use Rattle.tb_tree.specs.Nodes.{node_at}
use Rattle.tb_tree.proofs.ContentLaws.{lines-first}
use Rattle.tb_tree.proofs.tree.Tree.attribute_lines.Goals as goal

pub returns : goal.returns
returns c = c.within.ensures ∙ ap₂ (λ n l. take n l) c.attributes_len.ensures c.printed.ensures.lines ∙ lines-first (node_at (plain_of c.args.self.now) c.args.number)
