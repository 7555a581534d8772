-- Sound nodes: what a document may hold.
use Rattle.std.specs.Prelude.{ℕ, Bool, true, false, ◌&&◌, not, if◌then◌else◌, IsTrue, List, [], ◌∷◌}
use Rattle.std.specs.List.{list_any}
use Rattle.std.specs.Str.{bytes_eq}
use Rattle.tb_tree.specs.Plain.{Plain, elem, attr, text, Plains, no_kids, kid}
use Rattle.tb_tree.specs.Names.{is_name}

-- which kind a node is of
abbrev pub is_attribute : Plain → Bool
is_attribute (elem name kids) = false
is_attribute (attr name value) = true
is_attribute (text value) = false

abbrev pub is_text : Plain → Bool
is_text (elem name kids) = false
is_text (attr name value) = false
is_text (text value) = true

-- no byte
abbrev pub is_empty_list : List ℕ → Bool
is_empty_list [] = true
is_empty_list (b ∷ bs) = false

-- the names of the attributes among the kids, in order
abbrev pub attribute_names : Plains → List (List ℕ)
attribute_names no_kids = []
attribute_names (kid (elem name kids) rest) = attribute_names rest
attribute_names (kid (attr name value) rest) = name ∷ attribute_names rest
attribute_names (kid (text value) rest) = attribute_names rest

-- no name stands twice
abbrev pub are_different : List (List ℕ) → Bool
are_different [] = true
are_different (name ∷ names) = not (list_any (bytes_eq name) names) && are_different names

-- no attribute among the nodes
abbrev pub has_no_attribute : Plains → Bool
has_no_attribute no_kids = true
has_no_attribute (kid k rest) = not (is_attribute k) && has_no_attribute rest

-- no attribute stands behind an element or a text
abbrev pub attributes_first : Plains → Bool
attributes_first no_kids = true
attributes_first (kid k rest) = if is_attribute k then attributes_first rest else has_no_attribute rest

-- the first of the nodes is a text
abbrev pub begins_with_text : Plains → Bool
begins_with_text no_kids = false
begins_with_text (kid k rest) = is_text k

-- no two texts stand side by side
abbrev pub texts_apart : Plains → Bool
texts_apart no_kids = true
texts_apart (kid k rest) = not (is_text k && begins_with_text rest) && texts_apart rest

abbrev mutual
  -- names are names, attributes stand first and differ in name, texts aren't empty and stand apart
  pub is_sound : Plain → Bool
  is_sound (elem name kids) =
      is_name name && attributes_first kids && are_different (attribute_names kids) && texts_apart kids
      && are_sound kids
  is_sound (attr name value) = is_name name
  is_sound (text value) = not (is_empty_list value)

  pub are_sound : Plains → Bool
  are_sound no_kids = true
  are_sound (kid k rest) = is_sound k && are_sound rest

-- a node is sound
abbrev pub IsSound : Plain → Type 0
IsSound node = IsTrue (is_sound node)
