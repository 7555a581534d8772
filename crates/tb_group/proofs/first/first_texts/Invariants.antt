use Rattle.std.proofs.Common.{◌≡◌, ◌++◌, drop}
use Rattle.tb_table.specs.Documents.{docs_of}
use Rattle.tb_group.specs.Firsts.{texts_of, firsts}
use Rattle.tb_group.proofs.first.first_texts.Given as goal

-- the values so far, with those of the rows that are left, are all
abbrev pub invariant-rows : goal.invariant-rows
invariant-rows l = texts_of l.texts.items ++ firsts (docs_of l.docs) l.column (drop l.row l.table.rows) ≡ firsts (docs_of l.docs) l.column l.table.rows
