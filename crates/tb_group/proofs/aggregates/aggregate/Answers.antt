-- The column is that of the operator.
use Rattle.std.proofs.Common.{rules, Some, sym, ap, ◌∙◌, subst}
use Rattle.tb_table.specs.Documents.{docs_of}
use Rattle.tb_table.specs.Seen.{rows_seen, AreOver}
use Rattle.tb_group.proofs.ColumnLaws.{column-long, column-over, column-seen, column-past}
use Rattle.tb_group.proofs.aggregates.aggregate.Goals as goal

pub returns-in_err-column-clause-past : goal.returns-in_err-column-clause-past
returns-in_err-column-clause-past c = λ past.
    column-past (docs_of c.args.docs.now) c.args.from c.args.kind c.args.table.rows (c.column_of.ensures.past (search (rules, past)))

pub with_column-requires : goal.with_column-requires
with_column-requires c =
    column-long (docs_of c.args.docs.now) c.args.from c.args.kind c.args.table.rows c.in_ok-column.column c.in_ok-column.ensures.values

pub returns-clause-rows : goal.returns-clause-rows
returns-clause-rows c =
    column-seen (docs_of c.args.docs.now) c.args.from c.args.kind c.args.table.rows c.in_ok-column.column c.in_ok-column.ensures.values
    ∙ ap (λ rows. Some (rows_seen (docs_of c.args.docs.now) rows)) (sym c.in_ok-made.ensures.rows)

pub returns-clause-over : goal.returns-clause-over
returns-clause-over c =
    subst (AreOver (docs_of c.args.docs.now)) (sym c.in_ok-made.ensures.rows)
    (column-over (docs_of c.args.docs.now) c.args.from c.args.kind c.args.table.rows c.in_ok-column.column c.in_ok-column.ensures.values c.requires)
