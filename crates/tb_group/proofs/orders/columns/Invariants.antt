use Rattle.std.proofs.Common.{◌≡◌, ◌++◌, drop}
use Rattle.tb_table.specs.Documents.{docs_of}
use Rattle.tb_group.specs.Ordered.{key_columns, columns_of}
use Rattle.tb_group.proofs.orders.columns.Given as goal

-- the columns so far, with those of the keys that are left, are all
abbrev pub invariant-keys : goal.invariant-keys
invariant-keys l = columns_of l.columns.items ++ key_columns (docs_of l.docs) (drop l.key-index l.keys) l.table.rows ≡ key_columns (docs_of l.docs) l.keys l.table.rows
