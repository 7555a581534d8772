-- The pairs of a structural join: the places of an ancestor and of a descendant in their two lists.
use Rattle.std.specs.Prelude.{◌≡◌, ℕ, nat_eq, List, length, map, filter, flat_map}
use Rattle.std.specs.List.Sorted.{IsPermutation, IsNonDecreasingBy}
use Rattle.tb_span.specs.Span.{Span}
use Rattle.tb_span.specs.Lists.{is_related}
use Rattle.tb_span.specs.Seeds.{label_at, places, Range, places_in}
use Rattle.tb_span.specs.declared.item.Axis.{Axis}
use Rattle.tb_span.specs.declared.item.Item.{Item}
use Rattle.tb_span.specs.declared.item.Pair.{Pair}
use Rattle.tb_stackjoin.specs.declared.whole.By.{By}
use Rattle.tb_stackjoin.specs.declared.whole.By.TheVariants.{Desc, Anc}

abbrev pub pair : ℕ → ℕ → Pair
pair i j = record { a = i; d = j }

-- those of the places in `a` that have the label v on the axis
abbrev pub related_places : Axis → List Item → Span → List ℕ → List ℕ
related_places axis a v is = filter (λ i. is_related axis (label_at a i) v) is

-- all places in `a` that have the label v on the axis, in order
abbrev pub above : Axis → List Item → Span → List ℕ
above axis a v = related_places axis a v (places (length a))

-- the pairs of the descendant at place j with these ancestors
abbrev pub paired : List ℕ → ℕ → List Pair
paired ancestors j = map (λ i. pair i j) ancestors

-- all pairs of the descendant at place j, by ancestor
abbrev pub pairs_of : Axis → List Item → List Item → ℕ → List Pair
pairs_of axis a d j = paired (above axis a (label_at d j)) j

-- all pairs of the descendants of a range, by descendant and then by ancestor
abbrev pub pairs_by_descendant : Axis → List Item → List Item → Range → List Pair
pairs_by_descendant axis a d r = flat_map (pairs_of axis a d) (places_in r)

-- the places in the range of `d` of all that the label u has on the axis, in order
abbrev pub below : Axis → List Item → Span → Range → List ℕ
below axis d u r = filter (λ j. is_related axis u (label_at d j)) (places_in r)

-- all pairs of the ancestor at place i, by descendant
abbrev pub pairs_under : Axis → List Item → List Item → Range → ℕ → List Pair
pairs_under axis a d r i = map (λ j. pair i j) (below axis d (label_at a i) r)

-- the same pairs, by ancestor and then by descendant
abbrev pub pairs_by_ancestor : Axis → List Item → List Item → Range → List Pair
pairs_by_ancestor axis a d r = flat_map (pairs_under axis a d r) (places (length a))

-- the pairs in either order
abbrev pub pairs_by : By → Axis → List Item → List Item → Range → List Pair
pairs_by Desc axis a d r = pairs_by_descendant axis a d r
pairs_by Anc axis a d r = pairs_by_ancestor axis a d r

-- those of the pairs that have the ancestor at place i
abbrev pub of_ancestor : ℕ → List Pair → List Pair
of_ancestor i pairs = filter (λ p. nat_eq p.a i) pairs

-- the second are the first in another order: by ancestor, and those of one ancestor in the order that they had
pub record AreByAncestor (pairs sorted : List Pair) : Type 0 where
  pub moved : IsPermutation pairs sorted
  pub rises : IsNonDecreasingBy (λ p. p.a) sorted
  pub kept : (i : ℕ) → of_ancestor i sorted ≡ of_ancestor i pairs
