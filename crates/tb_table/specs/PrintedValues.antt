-- Values as they print, and cells by the value that is their key.
use Rattle.std.specs.Prelude.{ℕ, List, Option, Some, None}
use Rattle.tb_table.specs.declared.printed.Printed as printed

-- the bytes of a value as it prints, or no value
abbrev pub printed_of : printed.Printed → Option (List ℕ)
printed_of printed.TheVariants.Absent = None
printed_of (printed.TheVariants.Lent bytes) = Some bytes.now
printed_of (printed.TheVariants.Made bytes) = Some bytes.items
