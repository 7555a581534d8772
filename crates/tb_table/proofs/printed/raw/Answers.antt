-- What prints in one piece is the value.
use Rattle.tb_tree.specs.Nodes.{node_at}
use Rattle.tb_tree.specs.View.{plain_of}
use Rattle.tb_label.proofs.CompareLaws.{raw-value}
use Rattle.tb_table.proofs.printed.raw.Goals as goal

pub returns-in-Some : goal.returns-in-Some
returns-in-Some c = raw-value (node_at (plain_of c.args.tree.now) c.args.number) c.in-Some.printed.now c.in-Some.ensures
