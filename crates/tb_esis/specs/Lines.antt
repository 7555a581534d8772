-- The lines of ESIS: what each kind of line says.
use Rattle.std.specs.Prelude.{ℕ, Bool, true, false, ◌&&◌, not, ◌==◌, if◌then◌else◌, List, [], ◌∷◌, map, codes}
use Rattle.std.specs.Str.{bytes_eq}
use Rattle.tb_tree.specs.TextLines.{lines_in}
use Rattle.tb_tree.specs.Names.{is_name}

pub data Line : Type 0 where
  -- `(name`
  opens : List ℕ → Line
  -- `)name`
  closes : List ℕ → Line
  -- `Aname type value`, the value with its escapes as they stand
  attribute : List ℕ → List ℕ → List ℕ → Line
  -- `-data`, with its escapes as they stand
  characters : List ℕ → Line
  -- `C`
  conforms : Line
  -- an empty line, or one of another kind
  passed_over : Line

-- what stands before the first space, or all where there is none
abbrev pub before_space : List ℕ → List ℕ
before_space [] = []
before_space (b ∷ bs) = if b == 32 then [] else b ∷ before_space bs

-- what stands behind the first space
abbrev pub behind_space : List ℕ → List ℕ
behind_space [] = []
behind_space (b ∷ bs) = if b == 32 then bs else behind_space bs

-- name, type and value of an attribute, each but the value up to a space
abbrev pub attribute_of : List ℕ → Line
attribute_of bytes =
    attribute (before_space bytes) (before_space (behind_space bytes))
    (behind_space (behind_space bytes))

-- a line is taken by its first byte
abbrev pub line_of : List ℕ → Line
line_of [] = passed_over
line_of (b ∷ rest) =
    if b == 40 then opens rest
    else (if b == 41 then closes rest
    else (if b == 65 then attribute_of rest
    else (if b == 45 then characters rest
    else (if b == 67 then conforms else passed_over))))

-- the type of an attribute that has no value
abbrev pub is_implied : List ℕ → Bool
is_implied type = bytes_eq type (codes "IMPLIED")

-- The line says something of the tree: it isn't passed over, and is no attribute without a value.
abbrev pub is_kept : Line → Bool
is_kept passed_over = false
is_kept (attribute name type value) = not (is_implied type && is_name name)
is_kept _ = true

-- the lines of a document
abbrev pub document_lines : List ℕ → List Line
document_lines bytes = map line_of (lines_in bytes)
