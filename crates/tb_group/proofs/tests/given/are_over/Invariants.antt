use Rattle.std.proofs.Common.{take}
use Rattle.std.specs.Prelude.{All}
use Rattle.tb_table.specs.Documents.{docs_of}
use Rattle.tb_table.specs.Seen.{IsOver}
use Rattle.tb_group.proofs.tests.given.are_over.Given as goal

-- those so far
abbrev pub invariant-cells : goal.invariant-cells
invariant-cells l = All (IsOver (docs_of l.docs)) (take l.cell-index l.cells)
