use Rattle.std.proofs.Common.{take}
use Rattle.tb_twig.specs.Hits.{AreHits}
use Rattle.tb_twig.proofs.hits.hits_below.Given as goal

-- the flags of the pairs so far
abbrev pub invariant-pairs : goal.invariant-pairs
invariant-pairs l = AreHits (λ p. p.d) (take l.pair-index l.pairs) l.hits.items l.count
