use Rattle.std.proofs.Common.{rules}
use Rattle.tb_table.specs.Documents.{docs_of}
use Rattle.tb_table.specs.Seen.{IsNode}
use Rattle.tb_group.proofs.TestLaws.{all-more, all-items}
use Rattle.tb_group.proofs.tests.given.are_nodes.Goals as goal

pub nodes-preserved : goal.nodes-preserved
nodes-preserved c =
    all-more (IsNode (docs_of c.args.docs.now)) c.args.nodes.now c.nodes.node-index (record { document = 0; node = 0 }) c.nodes-test.true c.nodes.invariant (c.is_node.ensures (search rules))

pub returns : goal.returns
returns c = λ _. all-items (IsNode (docs_of c.args.docs.now)) c.args.nodes.now c.nodes.node-index c.nodes-test.false c.nodes.invariant
