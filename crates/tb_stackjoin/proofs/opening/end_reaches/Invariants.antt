use Rattle.std.proofs.Common.{ℕ, ◌≡◌, ◌<◌, ◌≤◌, List, All, length, filter}
use Rattle.tb_span.specs.Seeds.{label_at, Range}
use Rattle.tb_span.specs.declared.item.Item.{Item}
use Rattle.tb_span.specs.declared.item.Pair.{Pair}
use Rattle.tb_stackjoin.specs.Stacks.{IsStack, lasts, spent}
use Rattle.tb_stackjoin.specs.Reaches.{ancestors_of, HasReaches}
use Rattle.tb_stackjoin.proofs.opening.end_reaches.Given as goal

-- only reaches that have ended were ended, and each ending is paid by the stack
abbrev pub invariant-ended : goal.invariant-ended
invariant-ended g l = record {
  stacked : IsStack l.a (length l.a) (ancestors_of l.reaches.items l.stack.items);
  numbered : All (λ k. k < length l.reaches.items) l.stack.items;
  left : filter (lasts l.a l.label.start) (ancestors_of l.reaches.items l.stack.items) ≡ filter (lasts l.a l.label.start) (ancestors_of l.initial.reaches.items l.initial.stack.items);
  few : length l.reaches.items ≤ length l.initial.reaches.items;
  reaches : (d : List Item) → (r : Range) → (passed : List ℕ) → (pairs : List Pair) → l.place < r.hi → l.label.start ≤ (label_at d l.place).start
      → HasReaches l.a d r l.place passed pairs l.initial.reaches.items l.initial.stack.items → HasReaches l.a d r l.place passed pairs l.reaches.items l.stack.items;
  cost : spent l.steps l.stack.items ≤ spent l.initial.steps l.initial.stack.items;
}

abbrev pub decreases-ended : goal.decreases-ended
decreases-ended g l = length l.stack.items
