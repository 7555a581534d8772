use Rattle.std.proofs.Common.{◌≡◌, take}
use Rattle.tb_plan.specs.Marks.{marked}
use Rattle.tb_plan.proofs.permutation.mark_each.Given as goal

-- the numbers so far have marked theirs
abbrev pub invariant-each : goal.invariant-each
invariant-each l = l.numbers.items ≡ marked (take l.place l.initial.numbers.items) l.initial.numbers.items
