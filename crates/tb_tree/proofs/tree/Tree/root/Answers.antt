-- The document's extents are those of its root.
use Rattle.std.proofs.Common.{IsTrue, sym, subst}
use Rattle.std.proofs.lemmas.Result.{IfOk-weaker}
use Rattle.tb_tree.specs.Plain.{is_element}
use Rattle.tb_tree.specs.Sound.{IsSound}
use Rattle.tb_tree.specs.View.{plain_of}
use Rattle.tb_tree.proofs.BackLaws.{document-nodes}
use Rattle.tb_tree.proofs.tree.Tree.root.Goals as goal

pub node_of-requires : goal.node_of-requires
node_of-requires c = (1, plain_of c.args.self.now, document-nodes _ _ _ _ _ c.source.ensures)

pub returns-clause-node : goal.returns-clause-node
returns-clause-node c =
    IfOk-weaker c.node_of.result _ _ (λ node built. built 1 (plain_of c.args.self.now) (document-nodes _ _ _ _ _ c.source.ensures)) c.node_of.ensures

pub returns-clause-sound : goal.returns-clause-sound
returns-clause-sound c =
    IfOk-weaker c.node_of.result _ _ (λ node built. subst IsSound (sym (built 1 (plain_of c.args.self.now) (document-nodes _ _ _ _ _ c.source.ensures))) c.source.ensures.sound) c.node_of.ensures

pub returns-clause-element : goal.returns-clause-element
returns-clause-element c =
    IfOk-weaker c.node_of.result _ _ (λ node built. subst (λ x. IsTrue (is_element x)) (sym (built 1 (plain_of c.args.self.now) (document-nodes _ _ _ _ _ c.source.ensures))) c.source.ensures.element) c.node_of.ensures
