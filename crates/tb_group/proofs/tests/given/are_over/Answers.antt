use Rattle.std.proofs.Common.{rules}
use Rattle.tb_table.specs.Documents.{docs_of}
use Rattle.tb_table.specs.Seen.{IsOver}
use Rattle.tb_group.proofs.TestLaws.{all-item, all-items}
use Rattle.tb_group.proofs.tests.given.are_over.Goals as goal

pub cells-preserved : goal.cells-preserved
cells-preserved c =
    all-item (IsOver (docs_of c.args.docs.now)) c.args.cells.now c.cells.cell-index c.cell-item.result c.cells-test.true c.cell-item.is c.cells.invariant (c.is_over.ensures (search rules))

pub returns : goal.returns
returns c = λ _. all-items (IsOver (docs_of c.args.docs.now)) c.args.cells.now c.cells.cell-index c.cells-test.false c.cells.invariant
