-- The best number is the least, or the greatest.
use Rattle.std.proofs.Common.{sym, subst}
use Rattle.std.specs.Option.{option_map}
use Rattle.tb_tree.specs.Rows.{values_of}
use Rattle.tb_number.specs.Canonical.{canonical_text}
use Rattle.tb_query.specs.Operands.{numbers_of}
use Rattle.tb_query.specs.Operators.{cell_aggregate}
use Rattle.tb_table.specs.Documents.{docs_of}
use Rattle.tb_table.specs.Rows.{cell_of}
use Rattle.tb_table.specs.Seen.{cell_seen}
use Rattle.tb_group.specs.Told.{IsTold, IsToldOf}
use Rattle.tb_group.proofs.ExtremeLaws.{best-least, best-greatest}
use Rattle.tb_group.proofs.aggregates.push_aggregate.Goals as goal

pub returns-in_ok-span-in-Min-clause-told : goal.returns-in_ok-span-in-Min-clause-told
returns-in_ok-span-in-Min-clause-told c =
    let cell = cell_seen (docs_of c.args.docs.now) (cell_of c.args.cell) in
    subst (λ k. IsToldOf (cell_aggregate k cell) c.args.bytes.now.items c.push_best.new.bytes.items c.in_ok-span-in-Min.span) (sym c.in-Min.is)
    (subst (λ n. IsTold (option_map canonical_text n) c.args.bytes.now.items c.push_best.new.bytes.items c.in_ok-span-in-Min.span) (best-least (numbers_of (values_of cell))) c.in_ok-span-in-Min.ensures)

pub returns-in_ok-span-in-Max-clause-told : goal.returns-in_ok-span-in-Max-clause-told
returns-in_ok-span-in-Max-clause-told c =
    let cell = cell_seen (docs_of c.args.docs.now) (cell_of c.args.cell) in
    subst (λ k. IsToldOf (cell_aggregate k cell) c.args.bytes.now.items c.push_best-in-Max.new.bytes.items c.in_ok-span-in-Max.span) (sym c.in-Max.is)
    (subst (λ n. IsTold (option_map canonical_text n) c.args.bytes.now.items c.push_best-in-Max.new.bytes.items c.in_ok-span-in-Max.span) (best-greatest (numbers_of (values_of cell))) c.in_ok-span-in-Max.ensures)
