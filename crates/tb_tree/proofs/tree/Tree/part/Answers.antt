-- The extents from the node's own to that of its last descendant are those of the node.
use Rattle.tb_tree.specs.View.{plain_of}
use Rattle.tb_tree.specs.FlatTrees.{no_extent}
use Rattle.tb_tree.proofs.SoundLaws.{node-sound}
use Rattle.tb_tree.proofs.NodeAtLaws.{document-node}
use Rattle.tb_tree.proofs.tree.Tree.part.Goals as goal

pub returns-clause-nodes : goal.returns-clause-nodes
returns-clause-nodes c =
    document-node _ c.source-source.result.extents.now _ _ _ (plain_of c.args.self.now) c.args.number no_extent c.source-source.ensures c.requires.some c.requires.within c.own_extents.ensures

pub returns-clause-sound : goal.returns-clause-sound
returns-clause-sound c = node-sound (plain_of c.args.self.now) c.args.number c.source-source.ensures.sound
