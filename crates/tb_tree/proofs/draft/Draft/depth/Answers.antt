-- Each open element has a place on the stack.
use Rattle.std.proofs.Common.{arith}
use Rattle.tb_tree.proofs.KeptLaws.{stack-length}
use Rattle.tb_tree.proofs.draft.Draft.depth.Goals as goal

pub returns : goal.returns
returns c = λ m s. omega (arith, c.len.ensures, c.args.self.now.stack.ok.0, stack-length c.args.self.now m s)
