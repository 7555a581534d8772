use Rattle.std.proofs.Common.{◌≡◌, ap, sym, ◌∙◌, subst, length, rules}
use Rattle.std.specs.Prelude.{All}
use Rattle.std.proofs.lemmas.List.Elements.{All-map}
use Rattle.tb_table.specs.declared.cell.Row.{Row}
use Rattle.tb_table.specs.Documents.{docs_of}
use Rattle.tb_table.specs.Seen.{IsOver}
use Rattle.tb_group.proofs.TestLaws.{all-item, all-items}
use Rattle.tb_group.proofs.tests.given.are_fit.Goals as goal

pub rows-preserved : goal.rows-preserved
rows-preserved c =
    all-item (λ (r : Row). (length r.cells ≡ c.args.width) × All (IsOver (docs_of c.args.docs.now)) r.cells) c.args.rows.now c.rows.row-index c.row-item.result c.rows-test.true c.row-item.is c.rows.invariant
    (ap length (sym c.as_slice-cells.ensures) ∙ search rules, subst (All (IsOver (docs_of c.args.docs.now))) c.as_slice-cells.ensures (c.are_over.ensures (search rules)))

pub returns-clause-wide : goal.returns-clause-wide
returns-clause-wide c = λ _ k d lt.
    (all-items (λ (r : Row). (length r.cells ≡ c.args.width) × All (IsOver (docs_of c.args.docs.now)) r.cells) c.args.rows.now c.rows.row-index c.rows-test.false c.rows.invariant k d lt).0

pub returns-clause-over : goal.returns-clause-over
returns-clause-over c = λ _.
    All-map (All (IsOver (docs_of c.args.docs.now))) (λ (r : Row). r.cells) c.args.rows.now
    (λ k d lt. (all-items (λ (r : Row). (length r.cells ≡ c.args.width) × All (IsOver (docs_of c.args.docs.now)) r.cells) c.args.rows.now c.rows.row-index c.rows-test.false c.rows.invariant k d lt).1)
