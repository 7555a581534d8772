-- What the extents of a node and of all below it say of texts and attributes.
use Rattle.std.specs.Prelude.{◌≡◌, ℕ, Bool, true, false, ◌&&◌, ◌==◌, if◌then◌else◌, List, [], ◌∷◌, Option, Some, None, map, filter}
use Rattle.tb_tree.specs.Printed.{escaped}
use Rattle.tb_tree.specs.Written.{has_escape}
use Rattle.tb_tree.specs.FlatTrees.{raw_behind}
use Rattle.tb_tree.specs.declared.extent.Extent as code
use Rattle.tb_tree.specs.declared.extent.Kind.{Kind}
use Rattle.tb_tree.specs.declared.extent.Kind.TheVariants as kind

-- an extent of this kind is that of a text
abbrev pub is_text_kind : Kind → Bool
is_text_kind kind.Element = false
is_text_kind kind.Attribute = false
is_text_kind kind.Text = true

-- an extent of this kind is that of an attribute
abbrev pub is_attribute_kind : Kind → Bool
is_attribute_kind kind.Element = false
is_attribute_kind kind.Attribute = true
is_attribute_kind kind.Text = false

-- the extents of texts
abbrev pub text_extents : List code.Extent → List code.Extent
text_extents = filter (λ e. is_text_kind e.kind)

-- the first extent of a text and the extents behind it, or none where there is none
abbrev pub NextText : List code.Extent → Option (code.Extent × List code.Extent) → Type 0
NextText es (Some found) = text_extents es ≡ found.0 ∷ text_extents found.1
NextText es None = text_extents es ≡ []

-- a value as it prints, and whether a byte of it is escaped
abbrev pub told_piece : List ℕ → List ℕ × Bool
told_piece value = (escaped value, has_escape value)

-- the text of an extent as it stands in its line, and whether a byte of it is escaped
abbrev pub told_text : List ℕ → code.Extent → List ℕ × Bool
told_text bytes e = (raw_behind bytes 1 e.from e.to, e.escaped)

-- the texts among the extents
abbrev pub told_texts : List ℕ → List code.Extent → List (List ℕ × Bool)
told_texts bytes es = map (told_text bytes) (text_extents es)

-- where the lines of the attributes end that stand first, and the first of which begins there
abbrev pub attributes_end : ℕ → List code.Extent → ℕ
attributes_end at [] = at
attributes_end at (e ∷ es) = if is_attribute_kind e.kind then attributes_end e.to es else at

-- the extent is that of a text of the level
abbrev pub is_text_at : ℕ → code.Extent → Bool
is_text_at level e = is_text_kind e.kind && e.level == level

-- lines that begin with a text's
abbrev pub begins_with_data : List ℕ → Bool
begins_with_data [] = false
begins_with_data (b ∷ bytes) = b == 45
