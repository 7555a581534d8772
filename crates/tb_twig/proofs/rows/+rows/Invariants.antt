use Rattle.std.proofs.Common.{◌≡◌, ℕ, ◌+◌, take, drop, map}
use Rattle.std.specs.List.{flat_map}
use Rattle.tb_tree.specs.Plain.{Plain}
use Rattle.tb_pattern.specs.Plain.{nodes_in}
use Rattle.tb_pattern.specs.View.{edge_of, edges_of}
use Rattle.tb_pattern.specs.Witness.{witness}
use Rattle.tb_twig.specs.Branches.{below_of}
use Rattle.tb_twig.specs.Links.{links_at, built_by}
use Rattle.tb_twig.specs.Seen.{seen, row_seen}
use Rattle.tb_twig.proofs.RowsLaws.{followed}
use Rattle.tb_twig.proofs.rows.+rows.Given as goal

-- the rows of the edges so far, with those of the others behind them
abbrev pub invariant-rows_below-edges : goal.invariant-rows_below-edges
invariant-rows_below-edges l =
    (l.at + nodes_in (edges_of (drop l.edge-index l.edges)) ≡ l.fn.e + nodes_in (edges_of l.edges))
    × ((look : ℕ → Plain) → followed (map (row_seen look) l.rows.items) (built_by look (links_at l.links) l.at (edges_of (drop l.edge-index l.edges)) l.n)
    ≡ built_by look (links_at l.links) l.fn.e (edges_of l.edges) l.n)

-- the witnesses of the links so far
abbrev pub invariant-witnesses_below-links : goal.invariant-witnesses_below-links
invariant-witnesses_below-links l =
    (look : ℕ → Plain) → map (seen look) l.witnesses.items
    ≡ flat_map (λ m. map (witness m (look m)) (built_by look (links_at l.links) (l.e + 1) (below_of (edge_of l.edge)) m)) (map (λ link. link.below) (take l.link-index l.link-items))
