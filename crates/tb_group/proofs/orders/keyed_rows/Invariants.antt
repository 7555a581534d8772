use Rattle.std.proofs.Common.{◌≡◌, map}
use Rattle.std.specs.List.{range_with_len}
use Rattle.tb_group.specs.Ordered.{columns_of}
use Rattle.tb_group.specs.Parts.{keyed_at}
use Rattle.tb_group.proofs.orders.keyed_rows.Given as goal

abbrev pub invariant-rows : goal.invariant-rows
invariant-rows l = l.keyed.items ≡ map (keyed_at (columns_of l.columns) l.keys) (range_with_len 0 l.row)
