use Rattle.std.proofs.Common.{take}
use Rattle.std.specs.Prelude.{All}
use Rattle.tb_table.specs.Documents.{docs_of}
use Rattle.tb_table.specs.Seen.{IsNode}
use Rattle.tb_group.proofs.tests.given.are_nodes.Given as goal

-- those so far
abbrev pub invariant-nodes : goal.invariant-nodes
invariant-nodes l = All (IsNode (docs_of l.docs)) (take l.node-index l.nodes)
