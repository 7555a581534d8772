use Rattle.std.proofs.Common.{◌≡◌}
use Rattle.tb_plan.specs.Orders.{numbers}
use Rattle.tb_plan.proofs.by_number.numbers_below.Given as goal

abbrev pub invariant-numbers : goal.invariant-numbers
invariant-numbers l = l.edges.items ≡ numbers l.number
