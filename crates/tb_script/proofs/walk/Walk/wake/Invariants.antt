use Rattle.std.proofs.Common.{◌≡◌, length}
use Rattle.tb_script.specs.Walks.{state_of, waiters_of, Woken}
use Rattle.tb_script.proofs.walk.Walk.wake.Given as goal

-- the waiters so far go on
abbrev pub invariant-waiters : goal.invariant-waiters
invariant-waiters l = record {
  woken : Woken l.mark (state_of l.initial.self) (state_of l.self);
  same : length l.self.waiters.items ≡ length l.initial.self.waiters.items;
}

abbrev pub decreases-waiters : goal.decreases-waiters
decreases-waiters l = length (waiters_of (state_of l.self) l.mark)
