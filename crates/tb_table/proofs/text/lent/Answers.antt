-- What is lent is the value.
use Rattle.tb_tree.specs.Nodes.{node_at}
use Rattle.tb_tree.specs.View.{plain_of}
use Rattle.tb_label.proofs.CompareLaws.{lent-value}
use Rattle.tb_table.proofs.text.lent.Goals as goal

pub returns-in-Some : goal.returns-in-Some
returns-in-Some c = lent-value (node_at (plain_of c.args.tree.now) c.args.number) c.in-Some.value.now c.in-Some.ensures
