-- The copies are the columns.
use Rattle.std.proofs.Common.{◌++◌, length, sym, ap, ◌∙◌, subst, arith}
use Rattle.std.proofs.lemmas.List.{append-nil, at_drop_all}
use Rattle.tb_table.specs.Rows.{table_of, AreEven}
use Rattle.tb_table.proofs.table.Table.copy.Goals as goal

pub table_from-requires : goal.table_from-requires
table_from-requires c =
    let made = c.columns.columns.items in
    let kept = c.self.inside.columns.items in
    let all = sym (append-nil made) ∙ sym (at_drop_all (λ rest. made ++ rest) kept c.columns.column-index (omega (arith, c.columns-test.false, ap length c.deref-column-items.ensures.value))) ∙ c.columns.invariant in
    subst (AreEven c.self.inside.count) (sym all) c.self.invariant

pub returns : goal.returns
returns c =
    let made = c.columns.columns.items in
    let kept = c.self.inside.columns.items in
    let all = sym (append-nil made) ∙ sym (at_drop_all (λ rest. made ++ rest) kept c.columns.column-index (omega (arith, c.columns-test.false, ap length c.deref-column-items.ensures.value))) ∙ c.columns.invariant in
    c.table_from.ensures ∙ ap (table_of c.self.inside.count) all ∙ c.self.view_is
