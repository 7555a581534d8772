use Rattle.std.proofs.Common.{◌≡◌, ◌++◌, map, take}
use Rattle.tb_stackjoin.specs.Pairs.{pair}
use Rattle.tb_stackjoin.proofs.pairing.pair_each.Given as goal

abbrev pub invariant-each : goal.invariant-each
invariant-each l = l.pairs.items ≡ l.initial.pairs.items ++ map (λ i. pair i l.place) (take l.ancestor-index l.stack)
