use Rattle.std.proofs.Common.{ℕ, ◌-◌, ◌<◌, ◌≤◌, length, map}
use Rattle.tb_span.specs.Seeds.{label_at}
use Rattle.tb_stackjoin.proofs.tests.checked.started_before.Given as goal

abbrev pub invariant-all : goal.invariant-all
invariant-all l = (l.from ≤ length l.list) × ((i : ℕ) → i < l.from → (label_at (map (λ u. u.item) l.list) i).start < l.point)

abbrev pub decreases-all : goal.decreases-all
decreases-all l = length l.list - l.from
