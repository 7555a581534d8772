-- Lines and the tree that they are read as.
use Rattle.std.specs.Prelude.{◌≡◌, ℕ, ◌-◌, ◌<◌, false, IsTrue, List, [], ◌∷◌, ◌++◌, Some, filter}
use Rattle.std.specs.List.{list_any}
use Rattle.std.specs.Str.{bytes_eq}
use Rattle.tb_tree.specs.Plain.{Plain, elem, attr, text, Plains, no_kids, kid, one, is_element}
use Rattle.tb_tree.specs.Names.{is_name}
use Rattle.tb_tree.specs.Sound.{is_empty_list}
use Rattle.tb_tree.specs.Escapes.{unescaped}
use Rattle.tb_esis.specs.Lines.{Line, opens, closes, attribute, characters, conforms, is_implied, is_kept, document_lines}

-- a text before the nodes, or none where it has no byte
abbrev pub with_text : List ℕ → Plains → Plains
with_text [] kids = kids
with_text (b ∷ bs) kids = kid (text (b ∷ bs)) kids

-- The lines up to the rest spell the attributes with which the kids begin. Their names differ from
-- each other and from those of the attributes before them; behind them stand the other kids.
pub data Attributes : List (List ℕ) → Plains → Plains → List Line → List Line → Type 0 where
  no_more :
      {before : List (List ℕ)} {kids : Plains} {rest : List Line}
      → Attributes before kids kids rest rest
  next :
      {before : List (List ℕ)} {name type value raw : List ℕ} {all kids others : Plains}
      {lines rest : List Line}
      → IsTrue (is_name name) → is_empty_list type ≡ false → is_implied type ≡ false
      → list_any (bytes_eq name) before ≡ false → unescaped raw ≡ Some value
      → all ≡ kid (attr name value) kids
      → Attributes (before ++ name ∷ []) kids others lines rest
      → Attributes before all others (attribute name type raw ∷ lines) rest

-- The lines up to the rest spell the kids, of which a first text has begun with the given bytes. At
-- most `room` elements are inside each other.
pub data Kids : ℕ → List ℕ → Plains → List Line → List Line → Type 0 where
  -- no line
  over :
      {room : ℕ} {given : List ℕ} {kids : Plains} {rest : List Line}
      → kids ≡ with_text given no_kids
      → Kids room given kids rest rest
  -- a line of data: the text goes on
  goes_on :
      {room : ℕ} {given raw more : List ℕ} {kids : Plains} {lines rest : List Line}
      → unescaped raw ≡ Some more → Kids room (given ++ more) kids lines rest
      → Kids room given kids (characters raw ∷ lines) rest
  -- the lines of an element: attributes, start, other kids, end
  child :
      {room : ℕ} {given name : List ℕ} {all kids inner others : Plains}
      {lines inside behind rest : List Line}
      → 0 < room → IsTrue (is_name name) → all ≡ with_text given (kid (elem name kids) others)
      → Attributes [] kids inner lines (opens name ∷ inside)
      → Kids (room - 1) [] inner inside (closes name ∷ behind)
      → Kids room [] others behind rest
      → Kids room given all lines rest

-- the lines behind the root: `C` and data that gives no byte
pub data Ends : List Line → Type 0 where
  ended : Ends []
  conforming : {lines : List Line} → Ends lines → Ends (conforms ∷ lines)
  no_bytes :
      {raw : List ℕ} {lines : List Line}
      → unescaped raw ≡ Some [] → Ends lines → Ends (characters raw ∷ lines)

-- the lines, of which none is passed over, spell an element as the one kid of the document
pub record Spell (lines : List Line) (tree : Plain) : Type 0 where
  pub behind : List Line
  pub element : IsTrue (is_element tree)
  pub spelled : Kids 512 [] (one tree) lines behind
  pub end : Ends behind

-- the bytes are read as the tree
abbrev pub IsReadAs : List ℕ → Plain → Type 0
IsReadAs bytes tree = Spell (filter is_kept (document_lines bytes)) tree
