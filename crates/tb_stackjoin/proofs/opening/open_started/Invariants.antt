use Rattle.std.proofs.Common.{◌≡◌, ◌+◌, ◌-◌, ◌*◌, ◌<◌, ◌≤◌, ◌++◌, ℕ, List, [], All, length}
use Rattle.std.specs.List.{range_with_len}
use Rattle.tb_span.specs.Seeds.{label_at, range}
use Rattle.tb_span.specs.declared.item.Axis.TheVariants.{Descendant}
use Rattle.tb_span.specs.declared.item.Item.{Item}
use Rattle.tb_stackjoin.specs.Pairs.{below}
use Rattle.tb_stackjoin.specs.Stacks.{IsStack, run, spent}
use Rattle.tb_stackjoin.specs.Reaches.{ancestors_of, HasReaches}
use Rattle.tb_stackjoin.proofs.opening.open_started.Given as goal

-- each ancestor that was passed has a reach, and pays three steps
abbrev pub invariant-started : goal.invariant-started
invariant-started g l = record {
  within : (l.first ≤ l.next) × (l.next ≤ length l.a) × (length l.reaches.items ≤ l.next);
  counted : l.next + run l.a l.next l.label.start ≡ l.first + run l.a l.first l.label.start;
  stacked : IsStack l.a l.next (ancestors_of l.reaches.items l.stack.items);
  numbered : All (λ k. k < length l.reaches.items) l.stack.items;
  reaches : (d : List Item) → (lo : ℕ) → (passed : List ℕ) → l.place < l.hi → l.label.start ≤ (label_at d l.place).start
      → ((k : ℕ) → l.first ≤ k → k < length l.a → below Descendant d (label_at l.a k) (range lo l.place) ≡ [])
      → HasReaches l.a d (range lo l.hi) l.place passed l.initial.pairs.items l.initial.reaches.items l.initial.stack.items
      → HasReaches l.a d (range lo l.hi) l.place (passed ++ range_with_len l.first (l.next - l.first)) l.pairs.items l.reaches.items l.stack.items;
  cost : spent l.steps l.stack.items + 3 * l.first ≤ spent l.initial.steps l.initial.stack.items + 3 * l.next;
}

abbrev pub decreases-started : goal.decreases-started
decreases-started g l = length l.a - l.next
