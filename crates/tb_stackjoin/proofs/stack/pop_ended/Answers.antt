use Rattle.std.proofs.Common.{◌≡◌, ◌<◌, ◌≤◌, ◌++◌, ◌∷◌, [], ◌∙◌, sym, ap, subst, length, filter, arith}
use Rattle.std.proofs.lemmas.Bool.{lt-leb}
use Rattle.std.proofs.lemmas.List.{length_push}
use Rattle.tb_span.specs.Span.{Span}
use Rattle.tb_span.specs.Seeds.{label_at}
use Rattle.tb_stackjoin.specs.Stacks.{IsStack, lasts}
use Rattle.tb_tree.proofs.lists.Filters.{filter_all, filter_push-no}
use Rattle.tb_stackjoin.proofs.Told.{less-told, less-denied}
use Rattle.tb_stackjoin.proofs.StackLaws.{all_last, last-same, popped-last, IsStack-pop}
use Rattle.tb_stackjoin.proofs.stack.pop_ended.Goals as goal

pub returns-then-not-ends_before-clause-left : goal.returns-then-not-ends_before-clause-left
returns-then-not-ends_before-clause-left g c =
    let a = c.args.a.now in
    let point = c.args.label.now.start in
    let stack = c.ended.stack.items in
    let top = c.in-Some.top.now in
    let some : 0 < length stack = omega (arith, ap length c.as_slice.ensures, c.in-Some.ensures.item.3.0) in
    let lasting : point ≤ c.label_of.result.now.end = less-denied _ _ _ c.ends_before.ensures.tells c.if-not-ends_before.true in
    sym (filter_all (lasts a point) stack (all_last a (length a) point stack top c.ended.invariant.stacked some
    (last-same stack c.as_slice.result.now top c.as_slice.ensures c.in-Some.ensures.item.1)
    (subst (λ (u : Span). point ≤ u.end) c.label_of.ensures.is lasting)))
    ∙ c.ended.invariant.left

pub ended-preserved : goal.ended-preserved
ended-preserved g c =
    let a = c.args.a.now in
    let point = c.args.label.now.start in
    let rest = c.pop.new.self.items in
    let top = c.in-Some.top.now in
    let parts : c.ended.stack.items ≡ rest ++ top ∷ [] =
    popped-last c.ended.stack.items c.as_slice.result.now rest top c.pop.result c.as_slice.ensures c.pop.ensures.items c.pop.ensures.value c.in-Some.ensures.value in
    let long = ap length parts ∙ length_push rest top in
    let ended : c.label_of.result.now.end < point = less-told _ _ _ c.ends_before.ensures.tells c.if-not-ends_before.false in
    record {
      stacked = IsStack-pop a (length a) rest top (subst (λ xs. IsStack a (length a) xs) parts c.ended.invariant.stacked);
      left = sym (ap (λ xs. filter (lasts a point) xs) parts ∙ filter_push-no (lasts a point) rest top
          (lt-leb point (label_at a top).end (subst (λ (u : Span). u.end < point) c.label_of.ensures.is ended))) ∙ c.ended.invariant.left;
      cost = omega (arith, long, c.ended.invariant.cost, c.ends_before.ensures.counts);
    }
