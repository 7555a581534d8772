use Rattle.std.proofs.Common.{◌≡◌, [], replicate}
use Rattle.tb_twig.specs.Links.{lists_in}
use Rattle.tb_twig.proofs.matching.empty_links.Given as goal

-- one empty list an edge so far
abbrev pub invariant-edges : goal.invariant-edges
invariant-edges l = lists_in l.links.items ≡ replicate l._e []
