use Rattle.std.proofs.Common.{◌<◌, map, ap, arith}
use Rattle.tb_span.specs.Span.{Span}
use Rattle.tb_span.specs.Seeds.{label_at}
use Rattle.tb_stackjoin.proofs.PlaceLaws.{below-more, label_at-map}
use Rattle.tb_stackjoin.specs.declared.tests.checked.Known.{Known}
use Rattle.tb_stackjoin.proofs.tests.checked.started_before.Goals as goal

pub all-preserved : goal.all-preserved
all-preserved c =
    let xs = map (λ (u : Known). u.item) c.args.list.now in
    let u = c.index-list-from.result in
    let at = label_at-map (λ (v : Known). v.item) c.args.list.now c.all.from u (omega arith) c.index-list-from.is in
    let read = ap (λ (v : Known). v.start) c.index-list-from.is in
    let start = ap (λ (v : Span). v.start) at in
    (omega arith, below-more (λ i. (label_at xs i).start < c.args.point) c.all.from c.all.invariant.1 (omega (arith, start, read, u.start_is, c.if-list-from.false)))
