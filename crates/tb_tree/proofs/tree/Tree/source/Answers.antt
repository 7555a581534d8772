-- The document is what the invariant says.
use Rattle.tb_tree.proofs.BackLaws.{opened, document-moved}
use Rattle.tb_tree.proofs.tree.Tree.source.Goals as goal

pub returns : goal.returns
returns c =
    document-moved _ _ _ _ _ _ _ _ _ (opened _ _ _ _ _ _ c.self.invariant c.self.view_is) c.as_slice.ensures.value c.as_slice-2.ensures.value c.as_slice-3.ensures.value c.as_slice-4.ensures.value
