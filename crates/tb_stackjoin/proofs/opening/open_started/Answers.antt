-- An ancestor is passed: what has ended before it ends, and it opens a reach of its own.
use Rattle.std.proofs.Common.{◌≡◌, ◌-◌, ◌<◌, ◌++◌, ◌∷◌, [], ◌∙◌, All, sym, ap, subst, length, arith, append_assoc}
use Rattle.std.specs.List.{range_with_len}
use Rattle.std.proofs.lemmas.List.{length_push}
use Rattle.tb_span.specs.Span.{Span}
use Rattle.tb_span.specs.Seeds.{label_at, range}
use Rattle.tb_stackjoin.specs.Reaches.{opened, ancestors_of, HasReaches}
use Rattle.tb_tree.proofs.lists.Ranges.{range_more}
use Rattle.tb_stackjoin.proofs.Told.{less-told}
use Rattle.tb_stackjoin.proofs.StackLaws.{IsStack-pushed}
use Rattle.tb_stackjoin.proofs.RunLaws.{place-start, run_more}
use Rattle.tb_stackjoin.proofs.ReachLaws.{reaches-opened}
use Rattle.tb_stackjoin.proofs.NumberLaws.{ancestors_of-opened, numbered-opened}
use Rattle.tb_stackjoin.proofs.opening.open_started.Goals as goal

pub overflow_add-next : goal.overflow_add-next
overflow_add-next g c =
    omega (
      arith,
      place-start c.args.a.now c.started.next c.requires.sorted (omega arith),
      ap (λ (v : Span). v.start) c.label_of-ancestor.ensures.is,
      c.label_of-ancestor.ensures.interval,
      c.label_of-ancestor.ensures.short,
    )

pub started-preserved : goal.started-preserved
started-preserved g c =
    let a = c.args.a.now in
    let point = c.args.label.now.start in
    let place = c.args.place in
    let first = c.args.first in
    let next = c.started.next in
    let v = c.label_of-ancestor.result.now in
    let reaches = c.write_ended.new.reaches.items in
    let stack = c.end_reaches.new.stack.items in
    let new = c.push-in-started.new.self.items in
    let numbers = c.push.new.self.items in
    let inv = c.started.invariant in
    let wrote = c.in_ok-write_ended.ensures in
    let seen : c.as_slice.result.now ≡ stack = c.as_slice.ensures in
    let numbered : All (λ k. k < length reaches) stack =
    subst (λ ks. All (λ k. k < length reaches) ks) seen (wrote.numbered (subst (λ ks. All (λ k. k < length c.end_reaches.new.reaches.items) ks) (sym seen) c.end_reaches.ensures.numbered)) in
    let same : ancestors_of reaches stack ≡ ancestors_of c.end_reaches.new.reaches.items stack =
    subst (λ ks. ancestors_of reaches ks ≡ ancestors_of c.end_reaches.new.reaches.items ks) seen wrote.same in
    let x = opened (range 0 c.args.hi) next place in
    let made : new ≡ reaches ++ x ∷ [] = c.in_ok-push-2.ensures.items in
    let pushed : numbers ≡ stack ++ length reaches ∷ [] = c.in_ok-push.ensures.ok ∙ ap (λ n. stack ++ n ∷ []) (c.len.ensures ∙ c.write_ended.new.reaches.ok.0) in
    let starts : v.start < point = less-told _ _ _ c.starts_before.ensures.tells c.if-not-starts_before.false in
    let starts_at : (label_at a next).start < point = subst (λ (u : Span). u.start < point) c.label_of-ancestor.ensures.is starts in
    record {
      within = (omega (arith, inv.within), omega arith, omega (arith, ap length made ∙ length_push reaches x, wrote.few, c.end_reaches.ensures.few, inv.within));
      counted = omega (arith, inv.counted, run_more a next point (omega arith) starts_at);
      stacked = IsStack-pushed a next (ancestors_of c.started.reaches.items c.started.stack.items) (ancestors_of reaches stack) (ancestors_of new numbers) v c.requires.sorted c.requires.nest (omega arith)
          c.label_of-ancestor.ensures.is c.label_of-ancestor.ensures.interval inv.stacked (same ∙ c.end_reaches.ensures.left)
          (ap (λ rs. ancestors_of rs numbers) made ∙ ap (ancestors_of (reaches ++ x ∷ [])) pushed ∙ ancestors_of-opened reaches stack x numbered);
      numbered = subst (λ rs. All (λ k. k < length rs) numbers) (sym made) (subst (λ ks. All (λ k. k < length (reaches ++ x ∷ [])) ks) (sym pushed) (numbered-opened reaches stack x numbered));
      reaches = λ d lo passed short early none h.
          let r = range lo c.args.hi in
          let pairs = c.write_ended.new.pairs.items in
          let before = passed ++ range_with_len first (next - first) in
          let closed = c.end_reaches.ensures.reaches d r before c.started.pairs.items short (omega (arith, starts, early)) (inv.reaches d lo passed short early none h) in
          let written = subst (λ ks. HasReaches a d r place before pairs reaches ks) seen
          (wrote.reaches a d r place before (subst (λ ks. HasReaches a d r place before c.started.pairs.items c.end_reaches.new.reaches.items ks) (sym seen) closed)) in
          subst (λ is. HasReaches a d r place is pairs new numbers)
          (append_assoc passed (range_with_len first (next - first)) (next ∷ []) ∙ ap (λ is. passed ++ is) (sym (range_more first next inv.within.0)))
          (subst (λ rs. HasReaches a d r place (before ++ next ∷ []) pairs rs numbers) (sym made)
          (subst (λ ks. HasReaches a d r place (before ++ next ∷ []) pairs (reaches ++ x ∷ []) ks) (sym pushed)
          (reaches-opened a d r place next before pairs reaches stack (none next inv.within.0 (omega arith)) written)));
      cost = omega (arith, inv.cost, c.starts_before.ensures.counts, c.end_reaches.ensures.cost, c.in_ok-push.ensures.len);
    }
