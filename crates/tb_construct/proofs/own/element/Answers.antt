-- A marked element is shown as it is.
use Rattle.tb_tree.specs.View.{plain_of}
use Rattle.tb_tree.specs.Nodes.{node_at}
use Rattle.tb_construct.proofs.OwnLaws.{element-copied}
use Rattle.tb_construct.proofs.own.element.Goals as goal

pub returns-then-whole : goal.returns-then-whole
returns-then-whole c =
    element-copied c.node.result c.args.whole (node_at (plain_of c.args.tree.now) c.args.number) c.if-whole.true c.requires.element c.node.ensures.node c.node.ensures.sound
