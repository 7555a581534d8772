-- Each answer puts one turn together: the ancestors that open a reach, and those that end.
use Rattle.std.proofs.Common.{◌≡◌, ℕ, ◌+◌, ◌-◌, ◌<◌, ◌≤◌, ◌∙◌, ◌++◌, [], All, true, refl, sym, ap, subst, length, map, arith}
use Rattle.std.specs.List.{range_with_len}
use Rattle.std.proofs.lemmas.List.{length-map}
use Rattle.std.proofs.lemmas.List.Elements.{filter_passes}
use Rattle.std.proofs.lemmas.List.FromFn.{length-range_with_len}
use Rattle.tb_span.specs.Span.{Span}
use Rattle.tb_span.specs.Seeds.{label_at, range}
use Rattle.tb_span.specs.declared.item.Axis.TheVariants.{Descendant}
use Rattle.tb_tree.proofs.lists.Ranges.{All-range}
use Rattle.tb_stackjoin.specs.Pairs.{below}
use Rattle.tb_stackjoin.specs.Stacks.{IsStack, lasts, run}
use Rattle.tb_stackjoin.specs.Reaches.{opened, ancestors_of, HasReaches}
use Rattle.tb_stackjoin.proofs.PlaceLaws.{below-more}
use Rattle.tb_stackjoin.proofs.StackLaws.{IsStack-weaker, IsStack-filter}
use Rattle.tb_stackjoin.proofs.RunLaws.{run_within, run_turns, run_rest, start_rises}
use Rattle.tb_stackjoin.proofs.JoinLaws.{seed_stack, seed_started, counted-more, started-more}
use Rattle.tb_stackjoin.proofs.ReachLaws.{below-none, below-later, reaches-grown}
use Rattle.tb_stackjoin.proofs.AncestorLaws.{seed-reaches, seed-ancestors_of, seed_few, made-more, made-before, written-all}
use Rattle.tb_stackjoin.proofs.by_ancestor.by_reach.Goals as goal

pub open_seed-requires-clause-few : goal.open_seed-requires-clause-few
open_seed-requires-clause-few g c =
    omega (arith, seed_few c.args.a.now c.args.d.now c.args.seed.now c.args.from (range c.args.lo c.args.hi) c.requires.range.0 c.requires.seeded, c.ranges.from.fits)

pub each-init : goal.each-init
each-init g c =
    let a = c.args.a.now in
    let d = c.args.d.now in
    let seed = c.args.seed.now in
    let from = c.args.from in
    let lo = c.args.lo in
    let r = range lo c.args.hi in
    let reaches = c.open_seed.new.reaches.items in
    let stack = c.open_seed.new.stack.items in
    let ok = c.requires.joinable in
    let within = c.requires.range in
    let made : reaches ≡ map (λ i. opened r i lo) seed = c.in_ok-open_seed.ensures.reaches in
    let numbers : stack ≡ range_with_len 0 (length seed) = c.in_ok-open_seed.ensures.stack in
    let above : ancestors_of reaches stack ≡ seed = ap (λ rs. ancestors_of rs stack) made ∙ ap (ancestors_of (map (λ i. opened r i lo) seed)) numbers ∙ seed-ancestors_of r seed in
    record {
      within = (omega arith, within.2, omega (arith, ap length made ∙ length-map seed (λ i. opened r i lo), seed_few a d seed from r within.0 c.requires.seeded));
      counted = λ j low high. refl;
      few = omega arith;
      started = seed_started a d seed from lo c.args.hi ok within.1 c.requires.seeded;
      stacked = subst (λ is. IsStack a from is) (sym above) (seed_stack a d seed from lo c.args.hi ok within.2 within.0 c.requires.seeded);
      numbered = subst (λ ks. All (λ k. k < length reaches) ks) (sym numbers)
          (All-range (λ k. k < length reaches) 0 (length seed) (λ k low high. omega (arith, ap length made ∙ length-map seed (λ i. opened r i lo))));
      rest = λ k low less. below-none d (label_at a k) lo lo (omega arith);
      behind = λ j low high. absurd (omega arith);
      reaches = subst (λ rs. HasReaches a d r lo (seed ++ range_with_len from (from - from)) c.new-pairs.result.items rs stack) (sym made)
          (subst (λ ks. HasReaches a d r lo (seed ++ range_with_len from (from - from)) c.new-pairs.result.items (map (λ i. opened r i lo) seed) ks) (sym numbers)
          (seed-reaches a d r seed from c.new-pairs.result.items c.new-pairs.ensures.items));
      cost = omega (arith, ap length numbers ∙ length-range_with_len 0 (length seed));
    }

pub returns-in_err-next-clause-cost : goal.returns-in_err-next-clause-cost
returns-in_err-next-clause-cost g c =
    let a = c.args.a.now in
    let start = ap (λ (v : Span). v.start) c.label_of-label.ensures.is in
    let same = ap (λ point. run a c.each.next point) start in
    let counted = c.each.invariant.counted c.each.place (omega arith) (omega arith) in
    let few = run_turns a c.args.d.now c.args.from c.args.lo c.args.hi c.each.place c.requires.joinable.descendants_sorted (omega arith) (omega arith) (omega arith) in
    omega (arith, c.in_err-next.ensures.cost, c.each.invariant.cost, same, counted, few)

pub end_reaches-requires-clause-stacked : goal.end_reaches-requires-clause-stacked
end_reaches-requires-clause-stacked g c =
    let a = c.args.a.now in
    let within = run_within a c.each.next c.label_of-label.result.now.start c.each.invariant.within.1 in
    IsStack-weaker a c.in_ok-next.next (length a) (ancestors_of c.open_started.new.reaches.items c.open_started.new.stack.items) (omega (arith, c.in_ok-next.ensures.is, within)) c.in_ok-next.ensures.stack

pub each-preserved : goal.each-preserved
each-preserved g c =
    let a = c.args.a.now in
    let d = c.args.d.now in
    let seed = c.args.seed.now in
    let from = c.args.from in
    let lo = c.args.lo in
    let r = range lo c.args.hi in
    let v = c.label_of-label.result.now in
    let next = c.each.next in
    let after = c.in_ok-next.next in
    let place = c.each.place in
    let inv = c.each.invariant in
    let ok = c.requires.joinable in
    let reaches = c.end_reaches.new.reaches.items in
    let stack = c.end_reaches.new.stack.items in
    let passed : after ≡ next + run a next v.start = c.in_ok-next.ensures.is in
    let here : v ≡ label_at d place = c.label_of-label.ensures.is in
    let start : v.start ≡ (label_at d place).start = ap (λ (u : Span). u.start) here in
    let some : (label_at d place).start < (label_at d place).end = subst (λ (u : Span). u.start < u.end) here c.label_of-label.ensures.interval in
    let same = ap (λ point. run a next point) start in
    let within : after ≤ length a = omega (arith, passed, run_within a next v.start inv.within.1) in
    let few = run_turns a d from lo c.args.hi place ok.descendants_sorted (omega arith) (omega arith) (omega arith) in
    let counted = inv.counted place (omega arith) (omega arith) in
    let pairs = c.open_started.new.pairs.items in
    let before = seed ++ range_with_len from (next - from) in
    let now = seed ++ range_with_len from (after - from) in
    let later = λ (j : ℕ) (low : place ≤ j) (high : j < c.args.hi). start_rises d place j ok.descendants_sorted low (omega (arith, high, c.requires.range.1)) in
    let started = λ (j : ℕ) (low : place ≤ j) (high : j < c.args.hi).
    started-more a next after v.start (label_at d j).start passed (omega (arith, start, later j low high)) (inv.started j low high) in
    let seeds : All (λ i. i < from) seed = (seed_stack a d seed from lo c.args.hi ok c.requires.range.2 c.requires.range.0 c.requires.seeded).below in
    let started_now = subst (λ is. HasReaches a d r place is pairs c.open_started.new.reaches.items c.open_started.new.stack.items) (made-more seed from next after inv.within.0 (omega (arith, passed)))
    (c.in_ok-next.ensures.reaches d lo before (omega arith) (omega (arith, start)) inv.rest inv.reaches) in
    record {
      within = (omega (arith, passed, inv.within), within, omega (arith, c.end_reaches.ensures.few, c.in_ok-next.ensures.few));
      counted = λ j low high. counted-more a next after v.start (label_at d j).start (from + run a from (label_at d j).start) passed
          (omega (arith, start, later j (omega arith) high)) (inv.counted j (omega arith) high);
      few = omega (arith, passed, same, counted, few);
      started = λ j low high. started j (omega arith) high;
      stacked = subst (λ is. IsStack a after is) (sym c.end_reaches.ensures.left)
          (IsStack-filter a after (lasts a v.start) (ancestors_of c.open_started.new.reaches.items c.open_started.new.stack.items) c.in_ok-next.ensures.stack);
      numbered = c.end_reaches.ensures.numbered;
      rest = λ k low less. below-later d (label_at a k) lo place (omega arith)
          (omega (arith, start, run_rest a next v.start k ok.ancestors_sorted inv.within.1 (omega (arith, passed, low)) less)) (inv.rest k (omega (arith, passed, low)) less);
      behind = λ j low high. below-more (λ i. lo ≤ i → (label_at d i).start < (label_at d i).end) place (λ i less first. inv.behind i first less) (λ first. some) j high low;
      reaches = reaches-grown a d r place after now pairs reaches stack ok (omega arith) (omega arith) (omega arith) within some
          (made-before seed from after (omega (arith, inv.within.0, passed)) seeds)
          (started place (omega arith) (omega arith))
          (subst (λ point. All (λ i. lasts a point i ≡ true) (ancestors_of reaches stack)) start
          (subst (λ is. All (λ i. lasts a v.start i ≡ true) is) (sym c.end_reaches.ensures.left)
          (filter_passes (lasts a v.start) (ancestors_of c.open_started.new.reaches.items c.open_started.new.stack.items))))
          (c.end_reaches.ensures.reaches d r now pairs (omega arith) (omega (arith, start)) started_now);
      cost = omega (arith, c.in_ok-next.ensures.cost, c.end_reaches.ensures.cost, inv.cost, passed);
    }

pub returns-clause-pairs : goal.returns-clause-pairs
returns-clause-pairs g c =
    let a = c.args.a.now in
    let d = c.args.d.now in
    let lo = c.args.lo in
    let r = range lo c.args.hi in
    let inv = c.each.invariant in
    let end : c.each.place ≡ c.args.hi = omega (arith, c.each.auto.place-end, c.requires.range.0, c.each-test.false) in
    written-all a d c.args.seed.now c.args.from c.each.next r c.each.pairs.items c.write_reaches.new.pairs.items c.each.reaches.items c.each.stack.items
    c.requires.joinable c.requires.range.0 c.requires.range.1 inv.within.0 inv.within.1 c.requires.seeded
    (λ j low high. inv.behind j low (omega (arith, end, high)))
    (λ k low less. subst (λ hi. below Descendant d (label_at a k) (range lo hi) ≡ []) end (inv.rest k low less))
    (subst (λ hi. HasReaches a d r hi (c.args.seed.now ++ range_with_len c.args.from (c.each.next - c.args.from)) c.each.pairs.items c.each.reaches.items c.each.stack.items) end inv.reaches)
    c.in_ok-write_reaches.ensures.pairs
