-- A column more gives a cell more.
use Rattle.std.proofs.Common.{◌++◌, [], ◌∷◌, get_or, sym, ap, ◌∙◌}
use Rattle.std.specs.List.{range_with_len}
use Rattle.tb_table.specs.Rows.{no_cell, cells_at}
use Rattle.tb_table.proofs.TransposedLaws.{map-range-more}
use Rattle.tb_table.proofs.rows.row_of.Goals as goal

pub columns-preserved : goal.columns-preserved
columns-preserved c =
    let rows = c.args.table.now.rows in
    let at = c.columns.column in
    c.in_ok-push.ensures.items ∙ ap (λ l. l ++ c.in_ok-cell.cell ∷ []) c.columns.invariant
    ∙ ap (λ x. cells_at rows c.args.row (range_with_len 0 at) ++ x ∷ []) (c.in_ok-cell.ensures ∙ c.cell.ensures)
    ∙ sym (map-range-more (λ column. get_or (get_or rows c.args.row []) column no_cell) at)
