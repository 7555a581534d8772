use Rattle.std.proofs.Common.{◌≡◌, ◌+◌, ◌-◌, ◌*◌, ◌≤◌, ℕ, ◌++◌, length, filter}
use Rattle.std.specs.List.{range_with_len}
use Rattle.tb_stackjoin.specs.Stacks.{IsStack, lasts, run, spent}
use Rattle.tb_stackjoin.proofs.stack.push_started.Given as goal

-- what was passed is on the stack as far as it lasts, and each push pays three steps
abbrev pub invariant-started : goal.invariant-started
invariant-started g l = record {
  within : (l.first ≤ l.next) × (l.next ≤ length l.a);
  counted : l.next + run l.a l.next l.label.start ≡ l.first + run l.a l.first l.label.start;
  stacked : IsStack l.a l.next l.stack.items;
  kept : (q : ℕ) → l.label.start ≤ q → filter (lasts l.a q) l.stack.items ≡ filter (lasts l.a q) l.initial.stack.items ++ filter (lasts l.a q) (range_with_len l.first (l.next - l.first));
  cost : spent l.steps l.stack.items + 3 * l.first ≤ spent l.initial.steps l.initial.stack.items + 3 * l.next;
}

abbrev pub decreases-started : goal.decreases-started
decreases-started g l = length l.a - l.next
