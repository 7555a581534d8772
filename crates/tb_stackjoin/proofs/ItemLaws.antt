-- What a join by ancestor is for the items themselves, whatever is made of each pair of them.
use Rattle.std.proofs.Common.{◌≡◌, ℕ, ◌+◌, ◌-◌, List, length, map, filter, flat_map, sym, ap, ◌∙◌, arith}
use Rattle.std.proofs.lemmas.Simd.{map-map}
use Rattle.std.proofs.lemmas.List.Folds.{flat_map-map}
use Rattle.tb_span.specs.Lists.{is_related}
use Rattle.tb_span.specs.Seeds.{no_item, item_at, places, all_of, places_in}
use Rattle.tb_span.specs.declared.item.Axis.{Axis}
use Rattle.tb_span.specs.declared.item.Item.{Item}
use Rattle.tb_span.specs.declared.item.Pair.{Pair}
use Rattle.tb_tree.proofs.lists.Filters.{filter-map}
use Rattle.tb_tree.proofs.lists.Maps.{map-flat_map, flat_map_same}
use Rattle.tb_tree.proofs.lists.Ranges.{map-range}
use Rattle.tb_stackjoin.specs.Pairs.{pair, pairs_under, pairs_by_ancestor}

-- a list has its items at its places
pub items_at_places : (items : List Item) → map (item_at items) (places (length items)) ≡ items
items_at_places items = map-range no_item (item_at items) 0 items (λ i less. let same : 0 + i ≡ i = omega arith in ap (item_at items) same)

-- a whole list is a range of its places
pub places_in-all : (items : List Item) → places_in (all_of items) ≡ places (length items)
places_in-all items = let whole : length items - 0 ≡ length items = omega arith in ap places whole

-- the items that one has on the axis
abbrev pub on_axis : Axis → List Item → Item → List Item
on_axis axis d x = filter (λ y. is_related axis x.label y.label) d

module _ {M : Type 0} (link : Item → Item → M) (axis : Axis) (a d : List Item) where
  abbrev linked : Pair → M
  linked p = link (item_at a p.a) (item_at d p.d)

  -- the pairs of the ancestor at a place
  pub joined-under : (i : ℕ) → map (λ p. link (item_at a p.a) (item_at d p.d)) (pairs_under axis a d (all_of d) i) ≡ map (link (item_at a i)) (on_axis axis d (item_at a i))
  joined-under i =
      let x = item_at a i in
      let related = λ (y : Item). is_related axis x.label y.label in
      ap (λ js. map linked (map (pair i) (filter (λ j. related (item_at d j)) js))) (places_in-all d)
      ∙ map-map linked (pair i) (filter (λ j. related (item_at d j)) (places (length d)))
      ∙ sym (map-map (link x) (item_at d) (filter (λ j. related (item_at d j)) (places (length d))))
      ∙ ap (map (link x)) (sym (filter-map related (item_at d) (places (length d))) ∙ ap (filter related) (items_at_places d))

  -- All of them: each item of the one list with those of the other that it has on the axis, in order.
  pub joined : map (λ p. link (item_at a p.a) (item_at d p.d)) (pairs_by_ancestor axis a d (all_of d)) ≡ flat_map (λ x. map (link x) (on_axis axis d x)) a
  joined =
      let ps = places (length a) in
      map-flat_map linked (pairs_under axis a d (all_of d)) ps
      ∙ flat_map_same (λ i. map linked (pairs_under axis a d (all_of d) i)) (λ i. map (link (item_at a i)) (on_axis axis d (item_at a i))) ps (λ k e less. joined-under _)
      ∙ sym (flat_map-map (λ x. map (link x) (on_axis axis d x)) (item_at a) ps)
      ∙ ap (flat_map (λ x. map (link x) (on_axis axis d x))) (items_at_places a)
