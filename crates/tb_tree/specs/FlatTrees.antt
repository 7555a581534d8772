-- A document as its printed lines and an extent for each node.
use Rattle.std.specs.Prelude.{◌≡◌, ℕ, ◌+◌, ◌-◌, ◌≤◌, nat_lt, ◌==◌, if◌then◌else◌, IsTrue, false, List, [], ◌∷◌, ◌++◌, map, length, take, drop, Option, Some, None}
use Rattle.tb_tree.specs.Plain.{Plain, elem, attr, text, Plains, no_kids, kid, one, is_element}
use Rattle.tb_tree.specs.Sound.{IsSound}
use Rattle.tb_tree.specs.Levels.{levels}
use Rattle.tb_tree.specs.Printed.{printed_node, attribute_lines, content_lines}
use Rattle.tb_tree.specs.Escapes.{unescaped}
use Rattle.tb_tree.specs.Extents.{Extent, extents, named, extents_of}
use Rattle.tb_tree.specs.NameTables.{AreApart}
use Rattle.tb_tree.specs.declared.extent.Extent as code
use Rattle.tb_tree.specs.declared.extent.Kind.{Kind}
use Rattle.tb_tree.specs.declared.extent.Kind.TheVariants as kind
use Rattle.tb_tree.specs.declared.node.Node.{Node, Elem, Attr, Text}

-- what bytes with escapes give, or no byte where these are wrong
abbrev pub given : Option (List ℕ) → List ℕ
given None = []
given (Some bytes) = bytes

-- what stands in a line, which has these bytes of all, behind so many and before its end
abbrev pub raw_behind : List ℕ → ℕ → ℕ → ℕ → List ℕ
raw_behind bytes before from to = take (to - from - (before + 1)) (drop (from + before) bytes)

-- the value in the line of an extent, behind its first bytes
abbrev pub value_behind : List ℕ → ℕ → Extent → List ℕ
value_behind bytes before e = given (unescaped (raw_behind bytes before e.from e.to))

-- the node of an extent, which has these kids
abbrev pub node_by : List ℕ → Extent → Plains → Kind → Plain
node_by bytes e kids kind.Element = elem e.name kids
node_by bytes e kids kind.Attribute = attr e.name (value_behind bytes (8 + length e.name) e)
node_by bytes e kids kind.Text = text (value_behind bytes 1 e)

-- The nodes of the level that stand first, with all that is below them: deeper ones belong to the last of
-- them, and one that is less deep ends them.
abbrev pub kids_at : List ℕ → ℕ → List Extent → Plains
kids_at bytes level [] = no_kids
kids_at bytes level (e ∷ es) =
    if nat_lt e.level level then no_kids
    else (if e.level == level then kid (node_by bytes e (kids_at bytes (level + 1) es) e.kind) (kids_at bytes level es)
    else kids_at bytes level es)

abbrev pub first_of : Plains → Plain
first_of no_kids = text []
first_of (kid node rest) = node

-- the root that the lines and the extents tell
unfoldable pub root_read : List ℕ → List code.Extent → List (List ℕ) → List (List ℕ) → Plain
root_read bytes es elements attributes = first_of (kids_at bytes 1 (map (named elements attributes) es))

abbrev mutual
  -- a plain tree as a node of the program
  pub node_of : Plain → Node
  node_of (elem name kids) = Elem name (nodes_from kids)
  node_of (attr name value) = Attr name value
  node_of (text value) = Text value

  pub nodes_from : Plains → List Node
  nodes_from no_kids = []
  nodes_from (kid node rest) = node_of node ∷ nodes_from rest

-- The lines are those of a sound root, an element, and the extents those of its nodes; more names change
-- nothing.
pub record IsDocument (bytes : List ℕ) (es : List code.Extent) (elements attributes : List (List ℕ)) (root : Plain) : Type 0 where
  pub element : IsTrue (is_element root)
  pub sound : IsSound root
  pub low : levels (one root) ≤ 512
  pub text_is : bytes ≡ printed_node root
  pub extents_are :
      (more others : List (List ℕ))
      → map (named (elements ++ more) (attributes ++ others)) es ≡ extents_of root
  pub elements_apart : AreApart elements
  pub attributes_apart : AreApart attributes

-- what is known of a document's extents and names
pub record IsPlaced (root : Plain) (es : List code.Extent) (elements attributes : List (List ℕ)) : Type 0 where
  pub extents_are :
      (more others : List (List ℕ))
      → map (named (elements ++ more) (attributes ++ others)) es ≡ extents_of root
  pub elements_apart : AreApart elements
  pub attributes_apart : AreApart attributes

-- the part stands in the bytes at that place
abbrev pub Stands : List ℕ → ℕ → List ℕ → Type 0
Stands bytes at part = take (length part) (drop at bytes) ≡ part

-- The extents are those of these nodes, whose lines stand in the bytes.
pub record AreNodes (bytes : List ℕ) (es : List Extent) (number level : ℕ) (nodes : Plains) : Type 0 where
  pub attributes_at : ℕ
  pub content_at : ℕ
  pub extents_are : es ≡ extents attributes_at content_at number level nodes
  pub attributes_stand : Stands bytes attributes_at (attribute_lines nodes)
  pub content_stands : Stands bytes content_at (content_lines nodes)

-- The extents are those of one node and of all below it.
abbrev pub IsOneNode : List ℕ → List code.Extent → List (List ℕ) → List (List ℕ) → ℕ → Type 0
IsOneNode bytes es elements attributes number =
    (level : ℕ) × (node : Plain) × AreNodes bytes (map (named elements attributes) es) number level (one node)

-- an extent where none stands
abbrev pub no_extent : code.Extent
no_extent = record { from = 0; to = 0; last = 0; name = 0; level = 0; kind = kind.Text; escaped = false }
