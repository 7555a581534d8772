-- Rows put together from the links of the edges, by numbers of nodes alone.
use Rattle.std.specs.Prelude.{ℕ, ◌+◌, ◌<◌, ◌≤◌, nat_eq, List, [], ◌∷◌, map, filter, flat_map, slice_index_or}
use Rattle.std.proofs.Common.{Vec, Global}
use Rattle.std.specs.List.Sorted.{IsNonDecreasingBy}
use Rattle.tb_tree.specs.Plain.{Plain}
use Rattle.tb_pattern.specs.Plain.{matching, PlainEdges, no_edges, edge, nodes_in}
use Rattle.tb_pattern.specs.Witness.{witness, Offers, no_offers, offer, offered}
use Rattle.tb_twig.specs.declared.link.Link.{Link}

-- the links of each edge, and of edge e
abbrev pub lists_in : List (Vec Link Global) → List (List Link)
lists_in found = map (λ links. links.items) found

abbrev pub links_at : List (Vec Link Global) → ℕ → List Link
links_at found e = slice_index_or (lists_in found) e []

-- in the order of the upper nodes
abbrev pub IsRising : List Link → Type 0
IsRising links = IsNonDecreasingBy (λ link. link.above) links

-- those that lead from node n
abbrev pub leading_from : ℕ → List Link → List Link
leading_from n links = filter (λ link. nat_eq link.above n) links

-- the numbers of the nodes that these links lead to from node n
abbrev pub run : List Link → ℕ → List ℕ
run links n = map (λ link. link.below) (leading_from n links)

-- One offer an edge for node n, for all choices, the first edge varying slowest, where edge e has these links;
-- the first of the edges has the number e.
abbrev pub built_by : (ℕ → Plain) → (ℕ → List Link) → ℕ → PlainEdges → ℕ → List Offers
built_by look links e no_edges n = no_offers ∷ []
built_by look links e (edge axis mark (matching test conds whole below) others) n =
    flat_map (λ ws. map (offer ws) (built_by look links (e + 1 + nodes_in below) others n))
    (offered mark (flat_map (λ m. map (witness m (look m)) (built_by look links (e + 1) below m)) (run (links e) n)))

-- a link that leads from a node before n, or from n or a later one
abbrev pub starts_below : ℕ → Link → Type 0
starts_below n link = link.above < n

abbrev pub starts_from : ℕ → Link → Type 0
starts_from n link = n ≤ link.above
