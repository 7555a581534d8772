use Rattle.std.proofs.Common.{length}
use Rattle.tb_flwor.proofs.OrderLaws.{KeysSoFar}
use Rattle.tb_flwor.proofs.order.keys.Given as goal

-- so much behind the first key is built
abbrev pub invariant-keys : goal.invariant-keys
invariant-keys l = KeysSoFar l.names l.initial.found.items l.found.items l.initial.left l.left

abbrev pub decreases-keys : goal.decreases-keys
decreases-keys l = length l.left
