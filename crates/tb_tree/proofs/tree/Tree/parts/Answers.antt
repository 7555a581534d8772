-- The extents are those of the root.
use Rattle.tb_tree.proofs.tree.Tree.parts.Goals as goal

pub returns : goal.returns
returns c =
    let d = c.source-source.ensures in
    record { extents_are = d.extents_are; elements_apart = d.elements_apart; attributes_apart = d.attributes_apart }
