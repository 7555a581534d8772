use Rattle.std.proofs.Common.{◌+◌, ◌*◌, length}
use Rattle.tb_flwor.proofs.ConsLaws.{PartsSoFar}
use Rattle.tb_flwor.proofs.back.+building.Given as goal

-- Fewer tokens are left behind each `<`. A constructor calls for what is inside it, that for its
-- parts, and these for one part, perhaps at the same tokens.
abbrev pub decreases-part : goal.decreases-part
decreases-part l = 4 * length l.tokens.now

abbrev pub decreases-parts : goal.decreases-parts
decreases-parts l = 4 * length l.tokens.now + 1

abbrev pub decreases-inside : goal.decreases-inside
decreases-inside l = 4 * length l.tokens.now + 2

abbrev pub decreases-cons : goal.decreases-cons
decreases-cons l = 4 * length l.tokens.now + 3

-- so much is built
abbrev pub invariant-parts-parts : goal.invariant-parts-parts
invariant-parts-parts l = PartsSoFar l.names l.found.items l.tokens l.left

abbrev pub decreases-parts-parts : goal.decreases-parts-parts
decreases-parts-parts l = length l.left
