-- One row after the other.
use Rattle.std.proofs.Common.{◌+◌, drop, rules, [], Some, get_or, length, sym, ap, ◌∙◌, subst, arith}
use Rattle.std.proofs.lemmas.List.{length_push}
use Rattle.tb_table.specs.Documents.{docs_of}
use Rattle.tb_table.specs.Rows.{cell_of}
use Rattle.tb_table.specs.Layout.{AreWithin}
use Rattle.tb_group.specs.Told.{IsToldOf}
use Rattle.tb_group.specs.Columns.{row_values, values_told, told_with}
use Rattle.tb_group.proofs.ColumnLaws.{value-seen, rows-past, rows-told, rows-within, column-told}
use Rattle.tb_group.proofs.aggregates.column_of.Goals as goal

pub returns-in_err-push_aggregate-clause-past : goal.returns-in_err-push_aggregate-clause-past
returns-in_err-push_aggregate-clause-past c = λ past.
    let rows = c.args.table.now.rows in
    let docs = docs_of c.args.docs.now in
    rows-past docs c.args.from c.args.kind rows c.rows.row (values_told c.rows.bytes.items c.rows.spans.items) (omega (arith, c.rows-test.true, c.len-row-end.ensures)) c.rows.invariant.told
    (sym (value-seen docs c.args.from c.args.kind (get_or rows c.rows.row []) (cell_of c.cell-cell.result) c.cell-cell.ensures) ∙ c.push_aggregate.ensures.past (search (rules, past)))

pub rows-preserved : goal.rows-preserved
rows-preserved c =
    let rows = c.args.table.now.rows in
    let docs = docs_of c.args.docs.now in
    let row = get_or rows c.rows.row [] in
    let before = c.rows.bytes.items in
    let after = c.push_aggregate.new.bytes.items in
    let span = c.in_ok-push_aggregate.field-0 in
    let told = subst (λ v. IsToldOf v before after span) (value-seen docs c.args.from c.args.kind row (cell_of c.cell-cell.result) c.cell-cell.ensures) c.in_ok-push_aggregate.ensures.told in
    let items = c.in_ok-push.ensures.items in
    record {
      long = omega (arith, ap length items, length_push c.rows.spans.items span, c.rows.invariant.long);
      within = subst (AreWithin (length after)) (sym items) (rows-within docs c.args.from c.args.kind row before after c.rows.spans.items span c.rows.invariant.within told);
      told = ap (λ l. told_with (values_told after l) (row_values docs c.args.from c.args.kind (drop (c.rows.row + 1) rows))) items ∙ rows-told docs c.args.from c.args.kind rows c.rows.row before after c.rows.spans.items span (omega (arith, c.rows-test.true, c.len-row-end.ensures)) c.rows.invariant.within told c.rows.invariant.told;
    }

pub returns-clause-values : goal.returns-clause-values
returns-clause-values c =
    column-told (docs_of c.args.docs.now) c.args.from c.args.kind c.args.table.now.rows c.rows.row c.rows.bytes.items c.rows.spans.items (omega (arith, c.rows-test.false, c.len-row-end.ensures)) c.rows.invariant.told
    ∙ ap Some (sym c.of_values.ensures)
