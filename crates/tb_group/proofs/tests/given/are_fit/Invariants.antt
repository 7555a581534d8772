use Rattle.std.proofs.Common.{◌≡◌, length, take}
use Rattle.std.specs.Prelude.{All}
use Rattle.tb_table.specs.declared.cell.Row.{Row}
use Rattle.tb_table.specs.Documents.{docs_of}
use Rattle.tb_table.specs.Seen.{IsOver}
use Rattle.tb_group.proofs.tests.given.are_fit.Given as goal

-- those so far
abbrev pub invariant-rows : goal.invariant-rows
invariant-rows l = All (λ (r : Row). (length r.cells ≡ l.width) × All (IsOver (docs_of l.docs)) r.cells) (take l.row-index l.rows)
