use Rattle.std.proofs.Common.{◌≡◌, map, take}
use Rattle.tb_stackjoin.proofs.tests.checked.items_of.Given as goal

abbrev pub invariant-all : goal.invariant-all
invariant-all l = l.items.items ≡ map (λ u. u.item) (take l.u-index l.list)
