-- The rows of the numbers that are kept are those that are kept.
use Rattle.std.proofs.Common.{◌<◌, [], length, sym, ap, ◌∙◌, subst, arith, refl}
use Rattle.std.specs.Prelude.{All}
use Rattle.tb_table.specs.Rows.{picked}
use Rattle.tb_table.proofs.RowLaws.{picked-kept, positions-below}
use Rattle.tb_table.proofs.table.Table.keep.Goals as goal

pub gather-requires : goal.gather-requires
gather-requires c =
    subst (All (λ p. p < length c.args.self.rows)) (sym (c.as_slice.ensures.value ∙ c.in_ok-picks.ensures)) (positions-below c.args.marks.now 0 (length c.args.self.rows) (omega (arith, c.requires.long)))

pub returns-clause-rows : goal.returns-clause-rows
returns-clause-rows c =
    c.in_ok-table.ensures.rows
    ∙ ap (picked [] c.args.self.rows) (c.as_slice.ensures.value ∙ c.in_ok-picks.ensures)
    ∙ picked-kept [] [] c.args.self.rows c.args.marks.now 0 refl c.requires.long
