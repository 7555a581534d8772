-- Where no node has the number, the root is meant.
use Rattle.std.proofs.Common.{arith}
use Rattle.tb_tree.specs.View.{plain_of}
use Rattle.tb_construct.proofs.RootLaws.{root-past, root-before}
use Rattle.tb_engine.proofs.marked.number_of.Goals.{else-node-ge1-via-then-node-ge1+else-node-count, else-node-ge1-via-else-node-ge1}
use Rattle.tb_engine.proofs.marked.number_of.Goals as goal

pub returns-clause-same : goal.returns-clause-same
returns-clause-same c =
    elim c.else-node-ge1.branch [
      | else-node-ge1-via-then-node-ge1+else-node-count w ↦ root-past (plain_of c.args.tree.now) c.args.node (omega (arith, w.if-node-count.false, w.count.ensures))
      | else-node-ge1-via-else-node-ge1 w ↦ root-before (plain_of c.args.tree.now) c.args.node (omega (arith, w.if-node-ge1.false))
    ]
