-- The ESIS lines that a node prints.
use Rattle.std.specs.Prelude.{ℕ, ◌+◌, ◌/◌, ◌%◌, ◌||◌, if◌then◌else◌, nat_lt, ◌==◌, List, [], ◌∷◌, ◌++◌, codes}
use Rattle.std.specs.List.{flat_map}
use Rattle.tb_tree.specs.Plain.{Plain, elem, attr, text, Plains, no_kids, kid}
use Rattle.tb_tree.specs.Sound.{is_attribute}

-- a backslash and three octal digits
abbrev pub octal : ℕ → List ℕ
octal b = 92 ∷ (48 + b / 64) ∷ (48 + b / 8 % 8) ∷ (48 + b % 8) ∷ []

-- a byte in a value or in data: the backslash, the line end and other control bytes are escaped
abbrev pub escaped_byte : ℕ → List ℕ
escaped_byte b =
    if b == 92 then 92 ∷ 92 ∷ []
    else (if b == 10 then 92 ∷ 110 ∷ [] else (if nat_lt b 32 || b == 127 then octal b else b ∷ []))

-- a value or data, byte by byte
abbrev pub escaped : List ℕ → List ℕ
escaped = flat_map escaped_byte

-- `(name`
abbrev pub start_line : List ℕ → List ℕ
start_line name = 40 ∷ (name ++ 10 ∷ [])

-- `)name`
abbrev pub end_line : List ℕ → List ℕ
end_line name = 41 ∷ (name ++ 10 ∷ [])

-- `Aname CDATA value`
abbrev pub attribute_line : List ℕ → List ℕ → List ℕ
attribute_line name value = 65 ∷ (name ++ codes " CDATA " ++ escaped value ++ 10 ∷ [])

-- `-data`
abbrev pub data_line : List ℕ → List ℕ
data_line value = 45 ∷ (escaped value ++ 10 ∷ [])

-- the lines of the attributes among the kids, in order
abbrev pub attribute_lines : Plains → List ℕ
attribute_lines no_kids = []
attribute_lines (kid (elem name kids) rest) = attribute_lines rest
attribute_lines (kid (attr name value) rest) = attribute_line name value ++ attribute_lines rest
attribute_lines (kid (text value) rest) = attribute_lines rest

abbrev mutual
  -- an element: its attributes, its start, its other kids and its end
  pub printed_node : Plain → List ℕ
  printed_node (elem name kids) =
      attribute_lines kids ++ start_line name ++ content_lines kids ++ end_line name
  printed_node (attr name value) = attribute_line name value
  printed_node (text value) = data_line value

  -- the kids but for the attributes
  pub content_lines : Plains → List ℕ
  content_lines no_kids = []
  content_lines (kid k rest) = (if is_attribute k then [] else printed_node k) ++ content_lines rest

-- the lines of nodes, one node after the other
abbrev pub printed : Plains → List ℕ
printed no_kids = []
printed (kid node rest) = printed_node node ++ printed rest
