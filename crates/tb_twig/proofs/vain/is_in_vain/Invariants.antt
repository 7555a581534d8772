use Rattle.std.proofs.Common.{◌≡◌, ℕ, ◌+◌, [], drop}
use Rattle.tb_tree.specs.Plain.{Plain}
use Rattle.tb_pattern.specs.Plain.{nodes_in}
use Rattle.tb_pattern.specs.View.{edges_of}
use Rattle.tb_twig.specs.Links.{links_at, built_by}
use Rattle.tb_twig.proofs.vain.is_in_vain.Given as goal

-- where the other edges have no row, nor have all
abbrev pub invariant-edges : goal.invariant-edges
invariant-edges l =
    (l.at + nodes_in (edges_of (drop l.edge-index l.edges)) ≡ nodes_in (edges_of l.edges))
    × ((look : ℕ → Plain) → built_by look (links_at l.links) l.at (edges_of (drop l.edge-index l.edges)) l.n ≡ [] → built_by look (links_at l.links) 0 (edges_of l.edges) l.n ≡ [])
