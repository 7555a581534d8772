use Rattle.std.proofs.Common.{◌≡◌, ◌+◌, ◌^◌, ◌++◌, map, take, drop}
use Rattle.tb_plan.proofs.permutation.unmark_all.Given as goal

-- the first entries had marks, and have them no more
abbrev pub invariant-each : goal.invariant-each
invariant-each l = l.initial.numbers.items ≡ map (λ n. n + 2 ^ 31) (take l.place l.numbers.items) ++ drop l.place l.numbers.items
