-- The top has ended: its reach ends, and it leaves the stack.
use Rattle.std.proofs.Common.{◌≡◌, All, ◌<◌, ◌≤◌, ◌++◌, ◌∷◌, [], Some, ◌∙◌, sym, ap, subst, length, filter, arith}
use Rattle.std.proofs.lemmas.Bool.{lt-leb}
use Rattle.std.proofs.lemmas.List.{length_push, map_push}
use Rattle.std.proofs.lemmas.List.Elements.{All-pop}
use Rattle.tb_span.specs.Span.{Span}
use Rattle.tb_span.specs.Seeds.{label_at}
use Rattle.tb_stackjoin.specs.Stacks.{IsStack, lasts}
use Rattle.tb_stackjoin.specs.Reaches.{reach_at, reaches_ended, ancestors_of, HasReaches}
use Rattle.tb_tree.proofs.lists.Filters.{filter_all, filter_push-no}
use Rattle.tb_stackjoin.proofs.Told.{less-told, less-denied}
use Rattle.tb_stackjoin.proofs.StackLaws.{last-same, popped-last, IsStack-pop}
use Rattle.tb_stackjoin.proofs.ReachLaws.{reaches-ended}
use Rattle.tb_stackjoin.proofs.NumberLaws.{top_lasts, below_top-others, ancestors_of-ended, numbered-ended}
use Rattle.tb_stackjoin.proofs.opening.end_reaches.Goals as goal

pub returns-then-not-ends_before-clause-left : goal.returns-then-not-ends_before-clause-left
returns-then-not-ends_before-clause-left g c =
    let a = c.args.a.now in
    let point = c.args.label.now.start in
    let reaches = c.ended.reaches.items in
    let stack = c.ended.stack.items in
    let top = c.in-Some.top.now in
    let some : 0 < length stack = omega (arith, ap length c.as_slice.ensures, c.in-Some.ensures.item.3.0) in
    let lasting : point ≤ c.label_of.result.now.end = less-denied _ _ _ c.ends_before.ensures.tells c.if-not-ends_before.true in
    let here : label_at a (reach_at reaches top).a ≡ c.label_of.result.now =
    sym (c.label_of.ensures.is ∙ ap (label_at a) (c.ancestor_of.ensures ∙ ap (λ rs. (reach_at rs top).a) c.deref.ensures.value)) in
    sym (filter_all (lasts a point) (ancestors_of reaches stack) (top_lasts a (length a) point reaches stack top c.ended.invariant.stacked some
    (last-same stack c.as_slice.result.now top c.as_slice.ensures c.in-Some.ensures.item.1)
    (subst (λ (u : Span). point ≤ u.end) (sym here) lasting)))
    ∙ c.ended.invariant.left

pub ended-preserved : goal.ended-preserved
ended-preserved g c =
    let a = c.args.a.now in
    let point = c.args.label.now.start in
    let place = c.args.place in
    let reaches = c.ended.reaches.items in
    let stack = c.ended.stack.items in
    let rest = c.pop.new.self.items in
    let top = c.in-Some.top.now in
    let parts : stack ≡ rest ++ top ∷ [] =
    popped-last stack c.as_slice.result.now rest top c.pop.result c.as_slice.ensures c.pop.ensures.items c.pop.ensures.value c.in-Some.ensures.value in
    let numbered = All-pop (λ k. k < length reaches) stack rest (Some top) parts c.ended.invariant.numbered in
    let less : top < length reaches = numbered.1 in
    let here : label_at a (reach_at reaches top).a ≡ c.label_of.result.now =
    sym (c.label_of.ensures.is ∙ ap (label_at a) (c.ancestor_of.ensures ∙ ap (λ rs. (reach_at rs top).a) c.deref.ensures.value)) in
    let past : (label_at a (reach_at reaches top).a).end < point =
    subst (λ (u : Span). u.end < point) (sym here) (less-told _ _ _ c.ends_before.ensures.tells c.if-not-ends_before.false) in
    let was : ancestors_of reaches stack ≡ ancestors_of reaches rest ++ (reach_at reaches top).a ∷ [] = ap (ancestors_of reaches) parts ∙ map_push (λ k. (reach_at reaches k).a) rest top in
    let others = below_top-others a (length a) top reaches rest (subst (λ ks. IsStack a (length a) (ancestors_of reaches ks)) parts c.ended.invariant.stacked) in
    let kept : ancestors_of (reaches_ended place top reaches) rest ≡ ancestors_of reaches rest = ancestors_of-ended place top reaches rest numbered.0 others in
    let now : c.end_reach.new.reaches.items ≡ reaches_ended place top reaches = c.end_reach.ensures in
    let still = numbered-ended place top reaches rest less numbered.0 others in
    record {
      stacked = subst (λ rs. IsStack a (length a) (ancestors_of rs rest)) (sym now) (subst (λ is. IsStack a (length a) is) (sym kept)
          (IsStack-pop a (length a) (ancestors_of reaches rest) (reach_at reaches top).a (subst (λ is. IsStack a (length a) is) was c.ended.invariant.stacked)));
      numbered = subst (λ rs. All (λ k. k < length rs) rest) (sym now) still.0;
      left = ap (λ rs. filter (lasts a point) (ancestors_of rs rest)) now
          ∙ ap (filter (lasts a point)) kept
          ∙ sym (ap (filter (lasts a point)) was ∙ filter_push-no (lasts a point) (ancestors_of reaches rest) (reach_at reaches top).a (lt-leb point (label_at a (reach_at reaches top).a).end past))
          ∙ c.ended.invariant.left;
      few = omega (arith, ap length now, still.1, c.ended.invariant.few);
      reaches = λ d r passed pairs short early h.
          subst (λ rs. HasReaches a d r place passed pairs rs rest) (sym now)
          (reaches-ended a d r place point top passed pairs reaches stack rest short early less parts past (c.ended.invariant.reaches d r passed pairs short early h));
      cost = omega (arith, ap length parts ∙ length_push rest top, c.ended.invariant.cost, c.ends_before.ensures.counts);
    }
