-- The columns of the rows, and so the rows.
use Rattle.std.proofs.Common.{map, length, ap, ◌++◌, [], ◌∷◌, sym, ◌∙◌, subst, arith, ◌≡◌}
use Rattle.std.specs.List.{range_with_len}
use Rattle.std.proofs.lemmas.List.{length-map}
use Rattle.std.proofs.lemmas.List.Elements.{All-map}
use Rattle.std.proofs.lemmas.List.FromFn.{length-map-range_with_len}
use Rattle.tb_table.specs.Rows.{AreEven, column_at, rows_of}
use Rattle.tb_table.proofs.TransposedLaws.{columns_of, columns-even, rows-of-columns, map-range-more}
use Rattle.tb_table.proofs.table.Table.from_rows.Goals as goal

pub columns-preserved : goal.columns-preserved
columns-preserved c =
    let rows = map (λ row. row.cells) c.args.rows.now in
    let at = c.columns.column in
    c.in_ok-push.ensures.items ∙ ap (λ l. l ++ c.of_cells.result ∷ []) c.columns.invariant
    ∙ ap (λ x. columns_of at rows ++ x ∷ []) (c.of_cells.ensures ∙ c.in_ok-cells.ensures)
    ∙ sym (map-range-more (λ column. column_at column rows) at)

pub table_from-requires : goal.table_from-requires
table_from-requires c =
    let rows = map (λ row. row.cells) c.args.rows.now in
    subst (λ columns. AreEven (length c.args.rows.now) columns) (sym c.columns.invariant)
    (subst (λ n. AreEven n (columns_of c.columns.column rows)) (length-map c.args.rows.now (λ row. row.cells)) (columns-even c.columns.column rows))

pub returns-clause-rows : goal.returns-clause-rows
returns-clause-rows c =
    let rows = map (λ row. row.cells) c.args.rows.now in
    ap (λ t. t.rows) c.table_from.ensures
    ∙ ap (rows_of (length c.args.rows.now)) (c.columns.invariant ∙ ap (λ n. columns_of n rows) (omega (arith, c.columns-test.false, c.columns.auto.column-end)))
    ∙ ap (λ n. rows_of n (columns_of c.args.width rows)) (sym (length-map c.args.rows.now (λ row. row.cells)))
    ∙ rows-of-columns c.args.width rows (All-map (λ cells. length cells ≡ c.args.width) (λ row. row.cells) c.args.rows.now c.requires)

pub returns-clause-width : goal.returns-clause-width
returns-clause-width c =
    let rows = map (λ row. row.cells) c.args.rows.now in
    ap (λ t. t.width) c.table_from.ensures
    ∙ ap length c.columns.invariant
    ∙ length-map-range_with_len (λ column. column_at column rows) 0 c.columns.column
    ∙ omega (arith, c.columns-test.false, c.columns.auto.column-end)
