use Rattle.std.proofs.Common.{◌≡◌, map, take}
use Rattle.tb_twig.specs.Hits.{link_at}
use Rattle.tb_twig.proofs.hits.links_at.Given as goal

-- the links of the pairs so far
abbrev pub invariant-pairs : goal.invariant-pairs
invariant-pairs l = l.links.items ≡ map (link_at l.a l.d) (take l.pair-index l.pairs)
