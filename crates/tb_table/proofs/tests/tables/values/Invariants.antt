use Rattle.std.proofs.Common.{length, take}
use Rattle.tb_table.specs.Layout.{AreWithin}
use Rattle.tb_table.proofs.tests.tables.values.Given as goal

-- the spans so far end within what they name
abbrev pub invariant-spans : goal.invariant-spans
invariant-spans l = AreWithin (length l.bytes.items) (take l.span-index l.fn.spans.items)
