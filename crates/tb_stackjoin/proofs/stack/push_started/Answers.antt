use Rattle.std.proofs.Common.{◌<◌, ◌++◌, ◌∷◌, [], ◌∙◌, ap, subst, arith}
use Rattle.tb_span.specs.Span.{Span}
use Rattle.tb_span.specs.Seeds.{label_at}
use Rattle.tb_stackjoin.proofs.Told.{less-told}
use Rattle.tb_stackjoin.proofs.StackLaws.{IsStack-pushed}
use Rattle.tb_stackjoin.proofs.RunLaws.{place-start, run_more}
use Rattle.tb_stackjoin.proofs.KeptLaws.{kept_push}
use Rattle.tb_stackjoin.proofs.stack.push_started.Goals as goal

pub overflow_add-next : goal.overflow_add-next
overflow_add-next g c =
    omega (
      arith,
      place-start c.args.a.now c.started.next c.requires.sorted (omega arith),
      ap (λ (v : Span). v.start) c.label_of-ancestor.ensures.is,
      c.label_of-ancestor.ensures.interval,
      c.label_of-ancestor.ensures.short,
    )

pub started-preserved : goal.started-preserved
started-preserved g c =
    let a = c.args.a.now in
    let point = c.args.label.now.start in
    let next = c.started.next in
    let v = c.label_of-ancestor.result.now in
    let old = c.started.stack.items in
    let new = c.push.new.self.items in
    let starts : v.start < point = less-told _ _ _ c.starts_before.ensures.tells c.if-not-starts_before.false in
    let starts_at : (label_at a next).start < point = subst (λ (u : Span). u.start < point) c.label_of-ancestor.ensures.is starts in
    record {
      within = (omega (arith, c.started.invariant.within), omega arith);
      counted = omega (arith, c.started.invariant.counted, run_more a next point (omega arith) starts_at);
      stacked = IsStack-pushed a next old c.pop_ended.new.stack.items new v c.requires.sorted c.requires.nest (omega arith) c.label_of-ancestor.ensures.is c.label_of-ancestor.ensures.interval
          c.started.invariant.stacked c.pop_ended.ensures.left c.in_ok-push.ensures.ok;
      kept = λ q le. kept_push a v.start q c.args.first next c.args.stack.now.items old new (omega arith) (omega (arith, c.started.invariant.within))
          (c.in_ok-push.ensures.ok ∙ ap (λ xs. xs ++ next ∷ []) c.pop_ended.ensures.left) (c.started.invariant.kept q le);
      cost = omega (arith, c.started.invariant.cost, c.starts_before.ensures.counts, c.pop_ended.ensures.cost, c.in_ok-push.ensures.len);
    }
