use Rattle.std.proofs.Common.{◌≡◌, ◌+◌, ◌*◌, ◌<◌, ◌≤◌, ℕ, length, filter}
use Rattle.tb_span.specs.Seeds.{label_at, places, range}
use Rattle.tb_stackjoin.specs.Pairs.{pairs_by_descendant}
use Rattle.tb_stackjoin.specs.Turns.{turns}
use Rattle.tb_stackjoin.specs.Stacks.{IsStack, lasts, run, spent}
use Rattle.tb_stackjoin.proofs.by_descendant.join_desc.Given as goal

-- For each descendant still to come the stack has all passed ancestors that last till it starts. The potential is
-- the stack's length: three steps an ancestor, three a descendant, and one for each place of the seed.
abbrev pub invariant-each : goal.invariant-each
invariant-each g l = record {
  within : (l.from ≤ l.next) × (l.next ≤ length l.a);
  counted : (j : ℕ) → l.place ≤ j → j < l.hi → l.next + run l.a l.next (label_at l.d j).start ≡ l.from + run l.a l.from (label_at l.d j).start;
  few : l.next ≤ l.from + turns l.a l.d l.from (range l.lo l.hi);
  started : (j : ℕ) → l.place ≤ j → j < l.hi → (k : ℕ) → k < l.next → (label_at l.a k).start < (label_at l.d j).start;
  stacked : IsStack l.a l.next l.stack.items;
  kept : (j : ℕ) → l.place ≤ j → j < l.hi → (label_at l.d j).start < (label_at l.d j).end
      → filter (lasts l.a (label_at l.d j).start) l.stack.items ≡ filter (lasts l.a (label_at l.d j).start) (places l.next);
  pairs : l.pairs.items ≡ pairs_by_descendant l.axis l.a l.d (range l.lo l.place);
  cost : spent l.steps l.stack.items + (3 * l.from + 3 * l.lo) ≤ spent l.fn.steps l.seed + (3 * l.next + 3 * l.place);
}
