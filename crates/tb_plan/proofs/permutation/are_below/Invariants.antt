use Rattle.std.proofs.Common.{◌<◌, All, length, take}
use Rattle.tb_plan.proofs.permutation.are_below.Given as goal

abbrev pub invariant-each : goal.invariant-each
invariant-each l = All (λ n. n < length l.numbers) (take l.number-index l.numbers)
