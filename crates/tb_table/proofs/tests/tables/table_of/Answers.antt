-- Each row was looked at.
use Rattle.std.proofs.Common.{◌≡◌, length, ap, arith, subst, sym, ◌∙◌}
use Rattle.std.specs.Prelude.{All}
use Rattle.std.proofs.lemmas.List.{take_all}
use Rattle.std.proofs.lemmas.List.Elements.{All-more}
use Rattle.tb_table.specs.declared.cell.Row.{Row}
use Rattle.tb_table.proofs.tests.tables.table_of.Goals as goal

pub rows-preserved : goal.rows-preserved
rows-preserved c =
    All-more (λ row. length row.cells ≡ c.args.width) c.args.rows.now c.rows.row-index c.row-item.result (omega (arith, c.rows-test.true)) c.rows.invariant
    (omega (arith, c.if-as_slice-width.false, ap length c.as_slice.ensures, ap (λ (r : Row). length r.cells) c.row-item.is))

pub from_rows-requires : goal.from_rows-requires
from_rows-requires c =
    subst (All (λ row. length row.cells ≡ c.args.width)) (take_all c.rows.row-index c.args.rows.now (omega (arith, c.rows-test.false))) c.rows.invariant
