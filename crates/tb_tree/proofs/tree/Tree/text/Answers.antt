-- The lines are those of the root.
use Rattle.std.proofs.Common.{◌∙◌}
use Rattle.tb_tree.proofs.BackLaws.{opened}
use Rattle.tb_tree.proofs.tree.Tree.text.Goals as goal

pub returns : goal.returns
returns c =
    let d = opened _ _ _ _ _ _ c.self.invariant c.self.view_is in
    record { lines = c.as_slice.ensures.value ∙ d.text_is; sound = d.sound; element = d.element; levels = d.low }
