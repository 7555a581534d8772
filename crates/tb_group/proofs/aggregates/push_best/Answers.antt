-- What stands behind the bytes is the best number.
use Rattle.std.proofs.Common.{◌≡◌, length, sym, ◌∙◌, subst, arith}
use Rattle.tb_tree.specs.Rows.{values_of}
use Rattle.tb_query.specs.Operands.{numbers_of}
use Rattle.tb_table.specs.Documents.{docs_of}
use Rattle.tb_table.specs.Rows.{cell_of}
use Rattle.tb_table.specs.Seen.{cell_seen}
use Rattle.tb_group.specs.Told.{IsTold, text_behind}
use Rattle.tb_group.specs.Extremes.{best_of, kept_text, Keeps}
use Rattle.tb_group.proofs.ExtremeLaws.{keeps-all, kept_text-behind}
use Rattle.tb_group.proofs.aggregates.push_best.Goals as goal

pub returns : goal.returns
returns c =
    let values = values_of (cell_seen (docs_of c.args.docs.now) (cell_of c.args.cell)) in
    let best = best_of c.args.op (numbers_of values) in
    let old = c.args.bytes.now.items in
    let new = c.keep_cell.new.bytes.items in
    let at : c.len-first.result ≡ length old = omega (arith, c.len-first.ensures, c.args.bytes.now.ok.0) in
    let grown = keeps-all c.args.op values old new (subst (λ n. Keeps c.args.op n values old new) at c.in_ok-keep_cell.ensures.kept) in
    let slice = c.as_slice.ensures.value in
    subst (λ v. IsTold v old new c.span_behind.result) (kept_text-behind best)
    (subst (λ b. IsTold (text_behind (kept_text best)) old b c.span_behind.result) slice (c.span_behind.ensures.told old (sym at) (kept_text best) (slice ∙ grown)))
