use Rattle.std.proofs.Common.{length}
use Rattle.tb_flwor.proofs.ConsLaws.{AttrsSoFar}
use Rattle.tb_flwor.proofs.back.attrs.Given as goal

-- so much is built
abbrev pub invariant-attrs : goal.invariant-attrs
invariant-attrs l = AttrsSoFar l.names l.found.items l.tokens l.left

abbrev pub decreases-attrs : goal.decreases-attrs
decreases-attrs l = length l.left
