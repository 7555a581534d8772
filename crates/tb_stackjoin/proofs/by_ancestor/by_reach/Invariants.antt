use Rattle.std.proofs.Common.{◌≡◌, ◌+◌, ◌-◌, ◌*◌, ◌<◌, ◌≤◌, ◌++◌, ℕ, [], All, length}
use Rattle.std.specs.List.{range_with_len}
use Rattle.tb_span.specs.Seeds.{label_at, range}
use Rattle.tb_span.specs.declared.item.Axis.TheVariants.{Descendant}
use Rattle.tb_stackjoin.specs.Pairs.{below}
use Rattle.tb_stackjoin.specs.Turns.{turns}
use Rattle.tb_stackjoin.specs.Stacks.{IsStack, run, spent}
use Rattle.tb_stackjoin.specs.Reaches.{ancestors_of, HasReaches}
use Rattle.tb_stackjoin.proofs.by_ancestor.by_reach.Given as goal

-- Each ancestor of the seed and each one passed has a reach, and each one to come has nothing below it so far.
-- The steps are paid as in a join by descendant.
abbrev pub invariant-each : goal.invariant-each
invariant-each g l = record {
  within : (l.from ≤ l.next) × (l.next ≤ length l.a) × (length l.reaches.items ≤ l.next);
  counted : (j : ℕ) → l.place ≤ j → j < l.hi → l.next + run l.a l.next (label_at l.d j).start ≡ l.from + run l.a l.from (label_at l.d j).start;
  few : l.next ≤ l.from + turns l.a l.d l.from (range l.lo l.hi);
  started : (j : ℕ) → l.place ≤ j → j < l.hi → (k : ℕ) → k < l.next → (label_at l.a k).start < (label_at l.d j).start;
  stacked : IsStack l.a l.next (ancestors_of l.reaches.items l.stack.items);
  numbered : All (λ k. k < length l.reaches.items) l.stack.items;
  rest : (k : ℕ) → l.next ≤ k → k < length l.a → below Descendant l.d (label_at l.a k) (range l.lo l.place) ≡ [];
  behind : (j : ℕ) → l.lo ≤ j → j < l.place → (label_at l.d j).start < (label_at l.d j).end;
  reaches : HasReaches l.a l.d (range l.lo l.hi) l.place (l.seed ++ range_with_len l.from (l.next - l.from)) l.pairs.items l.reaches.items l.stack.items;
  cost : spent l.steps l.stack.items + (3 * l.from + 3 * l.lo) ≤ spent l.fn.steps l.seed + (3 * l.next + 3 * l.place);
}
