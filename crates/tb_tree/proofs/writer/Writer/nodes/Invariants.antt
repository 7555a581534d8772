use Rattle.std.proofs.Common.{◌≡◌, drop}
use Rattle.tb_tree.specs.View.{plains_of}
use Rattle.tb_tree.specs.Pages.{with_nodes}
use Rattle.tb_tree.proofs.writer.Writer.nodes.Given as goal

-- what is written, with what is left, makes the whole
abbrev pub invariant-nodes : goal.invariant-nodes
invariant-nodes l = with_nodes l.self (plains_of (drop l.node-index l.nodes)) ≡ with_nodes l.initial.self (plains_of l.nodes)
