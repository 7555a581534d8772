-- Which places of a list the pairs of a join have.
use Rattle.std.specs.Prelude.{◌≡◌, ℕ, ◌<◌, Bool, false, nat_eq, List, length, map, filter, slice_index_or, All, AllPairs}
use Rattle.std.specs.Prelude.{Option, Some, None}
use Rattle.std.proofs.Common.{Vec, Global}
use Rattle.std.specs.List.{list_any}
use Rattle.tb_span.specs.Seeds.{item_at, places}
use Rattle.tb_span.specs.declared.item.Item.{Item}
use Rattle.tb_span.specs.declared.item.Pair.{Pair}
use Rattle.tb_twig.specs.Narrowed.{link}
use Rattle.tb_twig.specs.declared.link.Link.{Link}

-- the nodes of a pair of places
abbrev pub link_at : List Item → List Item → Pair → Link
link_at a d p = link (item_at a p.a).node (item_at d p.d).node

-- numbers rise strictly
abbrev pub IsNumbered : List Item → Type 0
IsNumbered items = AllPairs (λ x y. x.node < y.node) items

-- the places that the pairs have in a list of so many
abbrev pub AreWithin : (Pair → ℕ) → ℕ → List Pair → Type 0
AreWithin place count pairs = All (λ p. place p < count) pairs

-- one flag for each of so many places: whether a pair has it
pub record AreHits (place : Pair → ℕ) (pairs : List Pair) (hits : List Bool) (count : ℕ) : Type 0 where
  pub long : length hits ≡ count
  pub hit : (j : ℕ) → j < count → slice_index_or hits j false ≡ list_any (λ p. nat_eq (place p) j) pairs

-- the items at the places that are hit
abbrev pub chosen : List Item → List Bool → List Item
chosen items hits = map (item_at items) (filter (λ j. slice_index_or hits j false) (places (length items)))

-- a list that may have been narrowed
abbrev pub left_of : List Item → Option (Vec Item Global) → List Item
left_of items None = items
left_of items (Some kept) = kept.items
