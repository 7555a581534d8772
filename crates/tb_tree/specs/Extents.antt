-- Where the nodes of a document lie in its printed lines.
use Rattle.std.specs.Prelude.{ℕ, ◌+◌, ◌-◌, Bool, false, List, [], ◌∷◌, ◌++◌, length, take, drop, slice_index_or}
use Rattle.tb_tree.specs.Plain.{Plain, elem, attr, text, Plains, no_kids, kid, one}
use Rattle.tb_tree.specs.Numbers.{counts}
use Rattle.tb_tree.specs.Printed.{printed_node, attribute_lines, start_line, attribute_line, data_line}
use Rattle.tb_tree.specs.Written.{has_escape}
use Rattle.tb_tree.specs.declared.extent.Kind.{Kind}
use Rattle.tb_tree.specs.declared.extent.Kind.TheVariants as kind
use Rattle.tb_tree.specs.declared.extent.Extent as code

-- an extent with its name in place of the name's number: a text has none
pub record Extent : Type 0 where
  pub from : ℕ
  pub to : ℕ
  pub last : ℕ
  pub name : List ℕ
  pub level : ℕ
  pub kind : Kind
  pub escaped : Bool

-- which kind a node is of
abbrev pub kind_of : Plain → Kind
kind_of (elem name kids) = kind.Element
kind_of (attr name value) = kind.Attribute
kind_of (text value) = kind.Text

-- the name of an element or an attribute; a text has none
abbrev pub name_of : Plain → List ℕ
name_of (elem name kids) = name
name_of (attr name value) = name
name_of (text value) = []

-- a byte of the value of an attribute or of a text is escaped
abbrev pub is_escaped : Plain → Bool
is_escaped (elem name kids) = false
is_escaped (attr name value) = has_escape value
is_escaped (text value) = has_escape value

abbrev pub element_extent : ℕ → ℕ → ℕ → List ℕ → ℕ → Extent
element_extent from to last name level = record {
  from = from;
  to = to;
  last = last;
  name = name;
  level = level;
  kind = kind.Element;
  escaped = false;
}

abbrev pub attribute_extent : ℕ → ℕ → List ℕ → List ℕ → ℕ → Extent
attribute_extent from last name value level = record {
  from = from;
  to = from + length (attribute_line name value);
  last = last;
  name = name;
  level = level;
  kind = kind.Attribute;
  escaped = has_escape value;
}

abbrev pub text_extent : ℕ → ℕ → List ℕ → ℕ → Extent
text_extent from last value level = record {
  from = from;
  to = from + length (data_line value);
  last = last;
  name = [];
  level = level;
  kind = kind.Text;
  escaped = has_escape value;
}

-- The extents of the nodes and of all that is below them, in document order. The next attribute's line
-- stands at a, and the next other node's lines at c; the first node has the number n.
abbrev pub extents : ℕ → ℕ → ℕ → ℕ → Plains → List Extent
extents a c n level no_kids = []
extents a c n level (kid (elem name kids) rest) =
    element_extent c (c + length (printed_node (elem name kids))) (n + counts kids) name level
    ∷ (extents c (c + length (attribute_lines kids ++ start_line name)) (n + 1) (level + 1) kids
    ++ extents a (c + length (printed_node (elem name kids))) (n + 1 + counts kids) level rest)
extents a c n level (kid (attr name value) rest) =
    attribute_extent a n name value level
    ∷ extents (a + length (attribute_line name value)) c (n + 1) level rest
extents a c n level (kid (text value) rest) =
    text_extent c n value level ∷ extents a (c + length (data_line value)) (n + 1) level rest

-- the extents of a document, whose root has the number 1 and the level 1
abbrev pub extents_of : Plain → List Extent
extents_of root = extents 0 0 1 1 (one root)

-- the bytes of an extent
abbrev pub slice_of : List ℕ → Extent → List ℕ
slice_of bytes e = take (e.to - e.from) (drop e.from bytes)

-- the name of that number
abbrev pub name_in : List (List ℕ) → List (List ℕ) → Kind → ℕ → List ℕ
name_in elements attributes kind.Element number = slice_index_or elements number []
name_in elements attributes kind.Attribute number = slice_index_or attributes number []
name_in elements attributes kind.Text number = []

-- an extent of the program, whose name is one of these
abbrev pub named : List (List ℕ) → List (List ℕ) → code.Extent → Extent
named elements attributes e = record {
  from = e.from;
  to = e.to;
  last = e.last;
  name = name_in elements attributes e.kind e.name;
  level = e.level;
  kind = e.kind;
  escaped = e.escaped;
}
