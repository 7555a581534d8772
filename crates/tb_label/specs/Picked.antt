-- The items of a test, from the extents of a document alone.
use Rattle.std.specs.Prelude.{ℕ, ◌+◌, ◌-◌, ◌*◌, ◌<◌, ◌^◌, Bool, true, false, List, [], ◌∷◌, ◌++◌, length, slice_index_or}
use Rattle.std.specs.Str.{bytes_eq}
use Rattle.tb_span.specs.declared.item.Item.{Item}
use Rattle.tb_tree.specs.Extents.{Extent}
use Rattle.tb_tree.specs.declared.extent.Extent as code
use Rattle.tb_tree.specs.declared.extent.Kind.{Kind}
use Rattle.tb_tree.specs.declared.extent.Kind.TheVariants as kind
use Rattle.tb_tree.specs.declared.node_test.Test.{Test}
use Rattle.tb_tree.specs.declared.node_test.Test.TheVariants.{Name, AnyElement, AttrName, AnyAttr, AnyText}
use Rattle.tb_label.specs.Lists.{one_if}

-- a node of that kind and name meets the test
abbrev pub is_wanted : Test → Kind → List ℕ → Bool
is_wanted (Name q) kind.Element name = bytes_eq q name
is_wanted AnyElement kind.Element name = true
is_wanted (AttrName q) kind.Attribute name = bytes_eq q name
is_wanted AnyAttr kind.Attribute name = true
is_wanted AnyText kind.Text name = true
is_wanted _ _ _ = false

-- The item of the n-th node, whose last descendant has the number `last`. The counter of labels has taken
-- one number for each node that has begun before, two but for those that are still open, and the document
-- node's.
abbrev pub item_at : ℕ → ℕ → ℕ → Item
item_at n last level = record {
  label = record { start = 2 * n + 1 - level; end = 2 * n + 1 - level + 2 * (last - n) + 1; level = level };
  node = n;
}

-- the items of the nodes that meet the test, the first of which has the number n
abbrev pub picked : Test → ℕ → List Extent → List Item
picked test n [] = []
picked test n (e ∷ es) = one_if (is_wanted test e.kind e.name) (item_at n e.last e.level) ++ picked test (n + 1) es

-- the number of a name is one of so many
abbrev pub IsKnown : ℕ → ℕ → Kind → ℕ → Type 0
IsKnown elements attributes kind.Element name = name < elements
IsKnown elements attributes kind.Attribute name = name < attributes
IsKnown elements attributes kind.Text name = Unit {0}

-- an extent with such a name, whose last descendant isn't too far
pub record IsFit (elements attributes : ℕ) (e : code.Extent) : Type 0 where
  pub known : IsKnown elements attributes e.kind e.name
  pub last_fits : e.last < 2 ^ 30

abbrev pub AreFit : ℕ → ℕ → List code.Extent → Type 0
AreFit elements attributes es = (i : ℕ) (d : code.Extent) → i < length es → IsFit elements attributes (slice_index_or es i d)
