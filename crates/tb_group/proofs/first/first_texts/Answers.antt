-- One row more.
use Rattle.std.proofs.Common.{◌+◌, ◌++◌, [], drop, get_or, ap, ◌∙◌, arith}
use Rattle.tb_table.specs.Documents.{docs_of}
use Rattle.tb_table.specs.Rows.{cell_of}
use Rattle.tb_group.specs.Firsts.{texts_of, firsts}
use Rattle.tb_group.proofs.FirstLaws.{first-seen, firsts-more}
use Rattle.tb_group.proofs.first.first_texts.Goals as goal

pub rows-preserved : goal.rows-preserved
rows-preserved c =
    let docs = docs_of c.args.docs.now in
    let rows = c.args.table.now.rows in
    ap (λ l. texts_of l ++ firsts docs c.args.column (drop (c.rows.row + 1) rows)) c.in_ok-push.ensures.items
    ∙ firsts-more docs c.args.column rows c.rows.row c.rows.texts.items c.in_ok-first_text.field-0 (omega (arith, c.rows-test.true, c.len-row-end.ensures))
    (c.in_ok-first_text.ensures ∙ first-seen docs c.args.column (get_or rows c.rows.row []) (cell_of c.cell-cell.result) c.cell-cell.ensures) c.rows.invariant
