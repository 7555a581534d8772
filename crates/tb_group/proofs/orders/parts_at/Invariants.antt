use Rattle.std.proofs.Common.{◌≡◌, ◌++◌, drop}
use Rattle.tb_group.specs.Ordered.{columns_of}
use Rattle.tb_group.specs.Parts.{parts_at}
use Rattle.tb_group.proofs.orders.parts_at.Given as goal

-- the keys so far, with those of the columns that are left, are all
abbrev pub invariant-keys : goal.invariant-keys
invariant-keys l = l.parts.items ++ parts_at (columns_of (drop l.at l.columns)) (drop l.at l.keys) l.row ≡ parts_at (columns_of l.columns) l.keys l.row
