-- Each node has an extent.
use Rattle.std.proofs.Common.{arith}
use Rattle.tb_tree.specs.View.{plain_of}
use Rattle.tb_tree.proofs.BackLaws.{opened, document-count}
use Rattle.tb_tree.proofs.tree.Tree.count.Goals as goal

pub returns : goal.returns
returns c =
    omega (arith, c.len.ensures, c.self.inside.extents.ok.0, document-count _ _ _ _ (plain_of c.args.self.now) (opened _ _ _ _ _ _ c.self.invariant c.self.view_is))
