-- Where a node stands: its place, and document order.
use Rattle.std.specs.Prelude.{◌≡◌, ℕ, ◌+◌, List, [], ◌∷◌, ◌++◌}
use Rattle.std.specs.Ordering.{nat_cmp}
use Rattle.std.specs.Cmp.Lexicographic.{slice_cmp}
use Rattle.std.specs.declared.cmp.Ordering.TheVariants.{Less}
use Rattle.tb_tree.specs.Plain.{Plain, elem, attr, text, Plains, no_kids, kid}

-- A place is the list of kid numbers, from 0, that leads from the document node to a node. The
-- document node has the empty place, and the root, its one kid, the place 0.
-- One node is an ancestor of another where its place is a proper prefix of the other's place.
abbrev pub IsAncestor : List ℕ → List ℕ → Type 0
IsAncestor u v = (k : ℕ) × (rest : List ℕ) × (v ≡ u ++ k ∷ rest)

-- Document order compares places number by number, a prefix first.
abbrev pub Precedes : List ℕ → List ℕ → Type 0
Precedes u v = slice_cmp nat_cmp u v ≡ Less

-- a node with its place
pub record Placed : Type 0 where
  pub place : List ℕ
  pub node : Plain

-- all nodes below the place, from its k-th kid on: each node, then what is below it, then what follows
abbrev pub placed_below : List ℕ → ℕ → Plains → List Placed
placed_below at k no_kids = []
placed_below at k (kid (elem name kids) rest) =
    record { place = at ++ k ∷ []; node = elem name kids }
    ∷ (placed_below (at ++ k ∷ []) 0 kids ++ placed_below at (k + 1) rest)
placed_below at k (kid (attr name value) rest) =
    record { place = at ++ k ∷ []; node = attr name value } ∷ placed_below at (k + 1) rest
placed_below at k (kid (text value) rest) =
    record { place = at ++ k ∷ []; node = text value } ∷ placed_below at (k + 1) rest

-- the nodes of a document
abbrev pub placed_in : Plain → List Placed
placed_in root = placed_below [] 0 (kid root no_kids)
