-- The nodes of a document with their labels: the rows that a store keeps.
use Rattle.std.specs.Prelude.{◌≡◌, ◌↔◌, ℕ, Bool, ◌+◌, ◌*◌, ◌<◌, List, [], ◌∷◌, ◌++◌, map, filter, length}
use Rattle.tb_span.specs.Span.{Span, Encloses, IsParent, IsAbove, IsBefore}
use Rattle.tb_span.specs.Lists.{is_related}
use Rattle.tb_span.specs.declared.item.Axis.{Axis}
use Rattle.tb_span.specs.declared.item.Axis.TheVariants.{Child, Descendant}
use Rattle.tb_span.specs.declared.item.Item.{Item}
use Rattle.tb_tree.specs.Plain.{Plain, elem, attr, text, Plains, no_kids, kid, one}
use Rattle.tb_tree.specs.Numbers.{counts, count, Numbered, kids_numbered, all_numbered}
use Rattle.tb_tree.specs.Places.{IsAncestor, Placed}
use Rattle.tb_tree.specs.Meets.{meets}
use Rattle.tb_tree.specs.declared.node_test.Test.{Test}

-- One counter goes through the document in document order. The document node takes 1; each other node
-- takes a number where it is entered and a number where it is left. Its level is the length of its place.
pub record Row : Type 0 where
  -- where it stands
  pub place : List ℕ
  -- its number in document order, its parent's number, and which kid of its parent it is, from 0
  pub number : ℕ
  pub parent : ℕ
  pub turn : ℕ
  pub label : Span
  pub node : Plain

-- a node without nodes below it is left at once
abbrev pub leaf_row : ℕ → ℕ → ℕ → List ℕ → ℕ → Plain → Row
leaf_row clock number parent at k node = record {
  place = at ++ k ∷ [];
  number = number;
  parent = parent;
  turn = k;
  label = record { start = clock; end = clock + 1; level = length at + 1 };
  node = node;
}

abbrev pub elem_row : ℕ → ℕ → ℕ → List ℕ → ℕ → List ℕ → Plains → Row
elem_row clock number parent at k name kids = record {
  place = at ++ k ∷ [];
  number = number;
  parent = parent;
  turn = k;
  label = record { start = clock; end = clock + 2 * counts kids + 1; level = length at + 1 };
  node = elem name kids;
}

-- the nodes below a place, from its k-th kid on, where the counter stands so
abbrev pub rows : ℕ → ℕ → ℕ → List ℕ → ℕ → Plains → List Row
rows clock number parent at k no_kids = []
rows clock number parent at k (kid (elem name kids) rest) =
    elem_row clock number parent at k name kids
    ∷ (rows (clock + 1) (number + 1) number (at ++ k ∷ []) 0 kids
    ++ rows (clock + 2 * counts kids + 2) (number + 1 + counts kids) parent at (k + 1) rest)
rows clock number parent at k (kid (attr name value) rest) =
    leaf_row clock number parent at k (attr name value) ∷ rows (clock + 2) (number + 1) parent at (k + 1) rest
rows clock number parent at k (kid (text value) rest) =
    leaf_row clock number parent at k (text value) ∷ rows (clock + 2) (number + 1) parent at (k + 1) rest

-- a document's rows, in document order
abbrev pub rows_of : Plain → List Row
rows_of root = rows 2 1 0 [] 0 (kid root no_kids)

-- the label of the document node
abbrev pub document_label : Plain → Span
document_label root = record { start = 1; end = 2 * count root + 2; level = 0 }

-- The document node's row: it stands above all others, like an element whose one kid is the root.
abbrev pub document_row : Plain → Row
document_row root = record {
  place = [];
  number = 0;
  parent = 0;
  turn = 0;
  label = document_label root;
  node = elem [] (one root);
}

-- the document node's row and all others
abbrev pub table : Plain → List Row
table root = document_row root ∷ rows_of root

-- the second row is on the axis of the first, by their labels
abbrev pub is_on : Axis → Row → Row → Bool
is_on axis r s = is_related axis r.label s.label

-- the nodes on the axis of a node with these kids, the first of which has the number n
abbrev pub numbered_on : Axis → ℕ → Plains → List Numbered
numbered_on Child n kids = kids_numbered n kids
numbered_on Descendant n kids = all_numbered n kids

-- the row without its label: a node with its place, and a node with its number
abbrev pub placed_of : Row → Placed
placed_of r = record { place = r.place; node = r.node }

abbrev pub numbered_of : Row → Numbered
numbered_of r = record { number = r.number; node = r.node }

abbrev pub item_of : Row → Item
item_of r = record { label = r.label; node = r.number }

-- the nodes that meet the test, by start
abbrev pub listed : Test → Plain → List Item
listed test root = map item_of (filter (λ r. meets test r.node) (rows_of root))

-- One place stands left of another where they part at a kid with a smaller number.
abbrev pub IsLeftOf : List ℕ → List ℕ → Type 0
IsLeftOf u v =
    (prefix : List ℕ) × (j : ℕ) × (k : ℕ) × (a : List ℕ) × (b : List ℕ) × (u ≡ prefix ++ j ∷ a) × (v ≡ prefix ++ k ∷ b) × (j < k)

-- A place is the parent of another where it is its prefix with all kid numbers but the last.
abbrev pub IsParentOf : List ℕ → List ℕ → Type 0
IsParentOf u v = (k : ℕ) × (v ≡ u ++ k ∷ [])

-- Labels tell how two places stand: one label encloses another exactly where the places are ancestor and
-- descendant, is its parent's exactly where they are parent and kid, and ends before it starts exactly where its
-- place stands left.
pub record Agree (x y : Row) : Type 0 where
  pub encloses : Encloses x.label y.label ↔ IsAncestor x.place y.place
  pub parent : IsParent x.label y.label ↔ IsParentOf x.place y.place
  pub before : IsBefore x.label y.label ↔ IsLeftOf x.place y.place

-- Labels and places in document order: a row that follows another is below it and inside its label, or right of it and
-- behind its label.
pub data Follows (x y : Row) : Type 0 where
  inside : IsAncestor x.place y.place → IsAbove x.label y.label → Follows x y
  beside : IsLeftOf x.place y.place → IsBefore x.label y.label → Follows x y
