-- Each span was looked at.
use Rattle.std.proofs.Common.{◌≤◌, get_or, length, ap, arith, subst}
use Rattle.std.specs.Prelude.{All}
use Rattle.std.proofs.lemmas.List.{take_all}
use Rattle.std.proofs.lemmas.List.Elements.{All-more}
use Rattle.tb_table.specs.declared.parts.Span.{Span}
use Rattle.tb_table.proofs.tests.tables.lists.Goals as goal

pub spans-preserved : goal.spans-preserved
spans-preserved c =
    let spans = c.args.spans.items in
    let at = c.spans.span-index in
    let same = ap (λ xs. (get_or {A = Span} xs at (record { first = 0; end = 0 })).end) c.deref-span-items.ensures.value in
    All-more (λ s. s.end ≤ length c.args.nodes.items) spans at (record { first = 0; end = 0 }) (omega (arith, c.spans-test.true, ap length c.deref-span-items.ensures.value)) c.spans.invariant
    (omega (arith, c.if-span-len.false, c.len.ensures, same))

pub of_lists-requires : goal.of_lists-requires
of_lists-requires c =
    subst (All (λ s. s.end ≤ length c.args.nodes.items)) (take_all c.spans.span-index c.args.spans.items (omega (arith, c.spans-test.false, ap length c.deref-span-items.ensures.value))) c.spans.invariant
