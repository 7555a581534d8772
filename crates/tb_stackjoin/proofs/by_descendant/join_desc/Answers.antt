-- Each answer puts one turn together: the ancestors passed, what was taken from the stack, and the pairs.
use Rattle.std.proofs.Common.{◌≡◌, ◌+◌, ◌≤◌, ◌∙◌, refl, sym, ap, subst, length, arith}
use Rattle.tb_span.specs.Span.{Span}
use Rattle.tb_span.specs.Seeds.{label_at}
use Rattle.tb_stackjoin.specs.Stacks.{IsStack, lasts, run}
use Rattle.tb_stackjoin.proofs.StackLaws.{IsStack-weaker, IsStack-filter}
use Rattle.tb_stackjoin.proofs.RunLaws.{run_within, run_turns, start_rises}
use Rattle.tb_stackjoin.proofs.KeptLaws.{kept_pop, kept_all}
use Rattle.tb_stackjoin.proofs.PairLaws.{pairs-none}
use Rattle.tb_stackjoin.proofs.JoinLaws.{seed_stack, seed_started, seed_all, counted-more, started-more, stack-above, paired-more}
use Rattle.tb_stackjoin.proofs.by_descendant.join_desc.Goals as goal

pub each-init : goal.each-init
each-init g c =
    let a = c.args.a.now in
    let d = c.args.d.now in
    let seed = c.args.seed.now in
    let same = c.in_ok-stack.ensures.ok in
    let ok = c.requires.joinable in
    let within = c.requires.range in
    record {
      within = (omega arith, within.2);
      counted = λ j low high. refl;
      few = omega arith;
      started = seed_started a d seed c.args.from c.args.lo c.args.hi ok within.1 c.requires.seeded;
      stacked = subst (λ xs. IsStack a c.args.from xs) (sym same) (seed_stack a d seed c.args.from c.args.lo c.args.hi ok within.2 within.0 c.requires.seeded);
      kept = seed_all a d seed c.in_ok-stack.stack.items c.args.from c.args.lo c.args.hi ok within.2 within.1 c.requires.seeded same;
      pairs = c.new-pairs.ensures.items ∙ sym (pairs-none c.args.axis a d c.args.lo c.args.lo (omega arith));
      cost = omega (arith, ap length same);
    }

pub returns-in_err-next-clause-cost : goal.returns-in_err-next-clause-cost
returns-in_err-next-clause-cost g c =
    let a = c.args.a.now in
    let start = ap (λ (v : Span). v.start) c.label_of-label.ensures.is in
    let same = ap (λ point. run a c.each.next point) start in
    let counted = c.each.invariant.counted c.each.place (omega arith) (omega arith) in
    let few = run_turns a c.args.d.now c.args.from c.args.lo c.args.hi c.each.place c.requires.joinable.descendants_sorted (omega arith) (omega arith) (omega arith) in
    omega (arith, c.in_err-next.ensures.cost, c.each.invariant.cost, same, counted, few)

pub pop_ended-requires : goal.pop_ended-requires
pop_ended-requires g c =
    let a = c.args.a.now in
    let pushed = c.in_ok-next.ensures.pushed in
    let within = run_within a c.each.next c.label_of-label.result.now.start c.each.invariant.within.1 in
    record { stacked = IsStack-weaker a c.in_ok-next.next (length a) c.push_started.new.stack.items (omega (arith, pushed.is, within)) pushed.stack }

pub pair_all-requires-clause-stacked : goal.pair_all-requires-clause-stacked
pair_all-requires-clause-stacked g c =
    let a = c.args.a.now in
    let pushed = c.in_ok-next.ensures.pushed in
    let within = run_within a c.each.next c.label_of-label.result.now.start c.each.invariant.within.1 in
    subst (λ xs. IsStack a (length a) xs) (sym (c.as_slice.ensures ∙ c.pop_ended.ensures.left))
    (IsStack-filter a (length a) (lasts a c.label_of-label.result.now.start) c.push_started.new.stack.items
    (IsStack-weaker a c.in_ok-next.next (length a) c.push_started.new.stack.items (omega (arith, pushed.is, within)) pushed.stack))

pub pair_all-requires-clause-above : goal.pair_all-requires-clause-above
pair_all-requires-clause-above g c =
    let a = c.args.a.now in
    let v = c.label_of-label.result.now in
    let pushed = c.in_ok-next.ensures.pushed in
    let within = run_within a c.each.next v.start c.each.invariant.within.1 in
    stack-above a c.args.d.now c.each.next c.in_ok-next.next c.each.place c.push_started.new.stack.items c.as_slice.result.now v
    c.requires.joinable (omega (arith, pushed.is, within)) (omega arith) c.label_of-label.ensures.is c.label_of-label.ensures.interval
    pushed.stack (c.as_slice.ensures ∙ c.pop_ended.ensures.left) pushed.is (c.each.invariant.started c.each.place (omega arith) (omega arith))

pub returns-in_err-pair_all-clause-cost : goal.returns-in_err-pair_all-clause-cost
returns-in_err-pair_all-clause-cost g c =
    let a = c.args.a.now in
    let start = ap (λ (v : Span). v.start) c.label_of-label.ensures.is in
    let same = ap (λ point. run a c.each.next point) start in
    let counted = c.each.invariant.counted c.each.place (omega arith) (omega arith) in
    let few = run_turns a c.args.d.now c.args.from c.args.lo c.args.hi c.each.place c.requires.joinable.descendants_sorted (omega arith) (omega arith) (omega arith) in
    omega (arith, c.in_ok-next.ensures.cost, c.pop_ended.ensures.cost, c.in_err-pair_all.ensures.cost, c.each.invariant.cost, same, counted, few)

pub each-preserved : goal.each-preserved
each-preserved g c =
    let a = c.args.a.now in
    let d = c.args.d.now in
    let v = c.label_of-label.result.now in
    let next = c.each.next in
    let after = c.in_ok-next.next in
    let place = c.each.place in
    let pushed = c.in_ok-next.ensures.pushed in
    let inv = c.each.invariant in
    let ok = c.requires.joinable in
    let is = c.label_of-label.ensures.is in
    let start : v.start ≡ (label_at d place).start = ap (λ (u : Span). u.start) is in
    let same = ap (λ point. run a next point) start in
    let within : after ≤ length a = omega (arith, pushed.is, run_within a next v.start inv.within.1) in
    let few = run_turns a d c.args.from c.args.lo c.args.hi place ok.descendants_sorted (omega arith) (omega arith) (omega arith) in
    let counted = inv.counted place (omega arith) (omega arith) in
    record {
      within = (omega (arith, pushed.is, inv.within), within);
      counted = λ j low high. counted-more a next after v.start (label_at d j).start (c.args.from + run a c.args.from (label_at d j).start) pushed.is
          (omega (arith, start, start_rises d place j ok.descendants_sorted (omega arith) (omega arith))) (inv.counted j (omega arith) high);
      few = omega (arith, pushed.is, same, counted, few);
      started = λ j low high. started-more a next after v.start (label_at d j).start pushed.is
          (omega (arith, start, start_rises d place j ok.descendants_sorted (omega arith) (omega arith))) (inv.started j (omega arith) high);
      stacked = subst (λ xs. IsStack a after xs) (sym c.pop_ended.ensures.left) (IsStack-filter a after (lasts a v.start) c.push_started.new.stack.items pushed.stack);
      kept = λ j low high some.
          let rises : v.start ≤ (label_at d j).start = omega (arith, start, start_rises d place j ok.descendants_sorted (omega arith) (omega arith)) in
          kept_pop a v.start (label_at d j).start c.push_started.new.stack.items c.pop_ended.new.stack.items rises c.pop_ended.ensures.left
          ∙ kept_all a (label_at d j).start next after c.each.stack.items c.push_started.new.stack.items (omega (arith, pushed.is)) (pushed.kept (label_at d j).start rises) (inv.kept j (omega arith) high some);
      pairs = paired-more c.args.axis a d c.args.lo next after place c.each.stack.items c.push_started.new.stack.items c.as_slice.result.now v c.each.pairs.items c.pair_all.new.pairs.items
          ok (omega arith) inv.within.1 is c.label_of-label.ensures.interval pushed (c.as_slice.ensures ∙ c.pop_ended.ensures.left)
          (inv.kept place (omega arith) (omega arith)) inv.pairs c.in_ok-pair_all.ensures.pairs;
      cost = omega (arith, c.in_ok-next.ensures.cost, c.pop_ended.ensures.cost, c.in_ok-pair_all.ensures.cost, inv.cost, pushed.is);
    }

pub returns-clause-cost : goal.returns-clause-cost
returns-clause-cost g c = omega (arith, c.each.invariant.cost, c.each.invariant.few, c.requires.range)
