use Rattle.std.proofs.Common.{◌≡◌, ◌++◌, drop}
use Rattle.tb_table.proofs.gather.copies.Given as goal

-- the copies so far, with the cells that are left, are all
abbrev pub invariant-cells : goal.invariant-cells
invariant-cells l = l.copies.items ++ drop l.cell-index l.cells ≡ l.cells
