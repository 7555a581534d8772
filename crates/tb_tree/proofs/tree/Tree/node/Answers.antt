-- The part's extents are those of the node.
use Rattle.std.proofs.Common.{sym, subst}
use Rattle.std.proofs.lemmas.Result.{IfOk-weaker}
use Rattle.tb_tree.specs.Sound.{IsSound}
use Rattle.tb_tree.proofs.tree.Tree.node.Goals as goal

pub node_of-requires : goal.node_of-requires
node_of-requires c = (_, _, c.part.ensures.nodes)

pub returns-clause-node : goal.returns-clause-node
returns-clause-node c = IfOk-weaker c.node_of.result _ _ (λ node built. built _ _ c.part.ensures.nodes) c.node_of.ensures

pub returns-clause-sound : goal.returns-clause-sound
returns-clause-sound c =
    IfOk-weaker c.node_of.result _ _ (λ node built. subst IsSound (sym (built _ _ c.part.ensures.nodes)) c.part.ensures.sound) c.node_of.ensures
