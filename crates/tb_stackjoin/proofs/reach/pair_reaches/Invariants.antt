use Rattle.std.proofs.Common.{◌≡◌, ◌++◌, flat_map, take}
use Rattle.tb_stackjoin.specs.Reaches.{pairs_in}
use Rattle.tb_stackjoin.proofs.reach.pair_reaches.Given as goal

-- the pairs of the reaches so far
abbrev pub invariant-reaches : goal.invariant-reaches
invariant-reaches l = l.pairs.items ≡ l.initial.pairs.items ++ flat_map pairs_in (take l.reach-index l.reaches)
