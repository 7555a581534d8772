-- The lines between start and end begin with a text's.
use Rattle.std.proofs.Common.{ap, ◌∙◌}
use Rattle.tb_tree.specs.Plain.{kids_of}
use Rattle.tb_tree.specs.View.{plain_of}
use Rattle.tb_tree.specs.Nodes.{node_at}
use Rattle.tb_tree.specs.Parts.{begins_with_data}
use Rattle.tb_tree.proofs.ContentLaws.{begins-content}
use Rattle.tb_tree.proofs.tree.Tree.begins_with_text.Goals as goal

pub returns : goal.returns
returns c = c.begins_with_data.ensures ∙ ap begins_with_data c.content_lines.ensures.lines ∙ begins-content (kids_of (node_at (plain_of c.args.self.now) c.args.number))
