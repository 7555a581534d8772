use Rattle.std.proofs.Common.{◌≡◌, ◌≤◌, length, filter}
use Rattle.tb_stackjoin.specs.Stacks.{IsStack, lasts, spent}
use Rattle.tb_stackjoin.proofs.stack.pop_ended.Given as goal

-- only what has ended was taken, and each taking is paid by the stack
abbrev pub invariant-ended : goal.invariant-ended
invariant-ended g l = record {
  stacked : IsStack l.a (length l.a) l.stack.items;
  left : filter (lasts l.a l.label.start) l.stack.items ≡ filter (lasts l.a l.label.start) l.initial.stack.items;
  cost : spent l.steps l.stack.items ≤ spent l.initial.steps l.initial.stack.items;
}

abbrev pub decreases-ended : goal.decreases-ended
decreases-ended g l = length l.stack.items
