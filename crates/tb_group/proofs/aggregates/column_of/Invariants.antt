use Rattle.std.proofs.Common.{◌≡◌, drop, length}
use Rattle.tb_table.specs.Documents.{docs_of}
use Rattle.tb_table.specs.Layout.{AreWithin}
use Rattle.tb_group.specs.Columns.{values_told, told_with, row_values}
use Rattle.tb_group.proofs.aggregates.column_of.Given as goal

-- the values so far, with those of the rows that are left, are all
abbrev pub invariant-rows : goal.invariant-rows
invariant-rows l = record {
  long : length l.spans.items ≡ l.row;
  within : AreWithin (length l.bytes.items) l.spans.items;
  told : told_with (values_told l.bytes.items l.spans.items) (row_values (docs_of l.docs) l.from l.kind (drop l.row l.table.rows))
      ≡ row_values (docs_of l.docs) l.from l.kind l.table.rows;
}
