-- Pairs and bounds of small joins, computed.
use Rattle.std.proofs.Common.{◌≡◌, ℕ, List, [], ◌∷◌, refl}
use Rattle.tb_span.specs.Seeds.{open_places, range}
use Rattle.tb_span.specs.declared.item.Axis.TheVariants.{Child, Descendant}
use Rattle.tb_span.specs.declared.item.Item.{Item}
use Rattle.tb_stackjoin.specs.Pairs.{pair, pairs_by_descendant, pairs_by_ancestor, of_ancestor}
use Rattle.tb_stackjoin.specs.Turns.{turns, most_steps}

abbrev item : ℕ → ℕ → ℕ → ℕ → Item
item start end level number = record { label = record { start = start; end = end; level = level }; node = number }

-- three nested elements
abbrev nested : List Item
nested = item 2 7 1 1 ∷ item 3 6 2 2 ∷ item 4 5 3 3 ∷ []

-- each with all that it is inside of, and none with itself
nested-descendants : pairs_by_descendant Descendant nested nested (range 0 3) ≡ pair 0 1 ∷ pair 0 2 ∷ pair 1 2 ∷ []
nested-descendants = refl

nested-children : pairs_by_descendant Child nested nested (range 0 3) ≡ pair 0 1 ∷ pair 1 2 ∷ []
nested-children = refl

nested-steps : most_steps nested nested [] 0 (range 0 3) ≡ 24
nested-steps = refl

no_descendants : pairs_by_descendant Descendant nested [] (range 0 0) ≡ []
no_descendants = refl

no_descendants-steps : most_steps nested [] [] 0 (range 0 0) ≡ 0
no_descendants-steps = refl

-- the second element alone, with the first as its seed
second-descendants : pairs_by_descendant Descendant nested nested (range 1 2) ≡ pair 0 1 ∷ []
second-descendants = refl

second-seed : open_places nested 1 3 ≡ 0 ∷ []
second-seed = refl

second-turns : turns nested nested 0 (range 1 2) ≡ 1
second-turns = refl

-- the third one alone: two are open where it starts
third-seed : open_places nested 2 4 ≡ 0 ∷ 1 ∷ []
third-seed = refl

third-descendants : pairs_by_descendant Descendant nested nested (range 2 3) ≡ pair 0 2 ∷ pair 1 2 ∷ []
third-descendants = refl

third-children : pairs_by_descendant Child nested nested (range 2 3) ≡ pair 1 2 ∷ []
third-children = refl

third-steps : most_steps nested nested (0 ∷ 1 ∷ []) 2 (range 2 3) ≡ 16
third-steps = refl

-- the same by ancestor
nested-by_ancestor : pairs_by_ancestor Descendant nested nested (range 0 3) ≡ pair 0 1 ∷ pair 0 2 ∷ pair 1 2 ∷ []
nested-by_ancestor = refl

nested-kids : pairs_by_ancestor Child nested nested (range 0 3) ≡ pair 0 1 ∷ pair 1 2 ∷ []
nested-kids = refl

no_descendants-by_ancestor : pairs_by_ancestor Descendant nested [] (range 0 0) ≡ []
no_descendants-by_ancestor = refl

-- an element with two kids, of which the first has one
abbrev tree : List Item
tree = item 2 9 1 1 ∷ item 3 6 2 2 ∷ item 4 5 3 3 ∷ item 7 8 2 4 ∷ []

tree-by_descendant : pairs_by_descendant Descendant tree tree (range 0 4) ≡ pair 0 1 ∷ pair 0 2 ∷ pair 1 2 ∷ pair 0 3 ∷ []
tree-by_descendant = refl

tree-by_ancestor : pairs_by_ancestor Descendant tree tree (range 0 4) ≡ pair 0 1 ∷ pair 0 2 ∷ pair 0 3 ∷ pair 1 2 ∷ []
tree-by_ancestor = refl

tree-part : pairs_by_ancestor Descendant tree tree (range 2 4) ≡ pair 0 2 ∷ pair 0 3 ∷ pair 1 2 ∷ []
tree-part = refl

tree-own : of_ancestor 0 (pairs_by_ancestor Descendant tree tree (range 0 4)) ≡ pair 0 1 ∷ pair 0 2 ∷ pair 0 3 ∷ []
tree-own = refl
