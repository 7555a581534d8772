use Rattle.tb_tree.proofs.BackLaws.{node-plain}
use Rattle.tb_tree.proofs.tree.Tree.new.Goals as goal

pub returns : goal.returns
returns c = node-plain _
