use Rattle.std.proofs.Common.{◌≡◌, ◌<◌, ℕ, true}
use Rattle.tb_plan.specs.Marks.{has}
use Rattle.tb_plan.proofs.permutation.has_each.Given as goal

-- each number so far is in the list
abbrev pub invariant-each : goal.invariant-each
invariant-each l = (k : ℕ) → k < l.number-counter → has l.numbers k ≡ true
