-- A row more, and at the end all of them.
use Rattle.std.proofs.Common.{ℕ, map, length, ap, ◌++◌, [], ◌∷◌, sym, ◌∙◌, arith}
use Rattle.std.specs.List.{range_with_len}
use Rattle.std.proofs.lemmas.List.{map_push}
use Rattle.tb_table.specs.Rows.{cells_at}
use Rattle.tb_table.proofs.TransposedLaws.{rows-back, map-range-more}
use Rattle.tb_table.proofs.table.Table.into_rows.Goals as goal

pub rows-preserved : goal.rows-preserved
rows-preserved c =
    let at = λ (row : ℕ). cells_at c.args.self.rows row (range_with_len 0 c.args.self.width) in
    ap (map (λ row. row.cells)) c.in_ok-push.ensures.items
    ∙ map_push (λ row. row.cells) c.rows.rows.items _
    ∙ ap (λ l. l ++ c.in_ok-cells.cells ∷ []) c.rows.invariant
    ∙ ap (λ x. map at (range_with_len 0 c.rows.row) ++ x ∷ []) c.in_ok-cells.ensures
    ∙ sym (map-range-more at c.rows.row)

pub returns : goal.returns
returns c =
    c.rows.invariant
    ∙ ap (λ n. map (λ row. cells_at c.args.self.rows row (range_with_len 0 c.args.self.width)) (range_with_len 0 n)) (omega (arith, c.rows-test.false, c.rows.auto.row-end, c.len-count.ensures))
    ∙ rows-back c.self.inside.count c.self.inside.columns.items c.args.self c.self.view_is
