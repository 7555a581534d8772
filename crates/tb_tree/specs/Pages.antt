-- A page: lines as they are written, one behind the other. A text's line has no end until something
-- else follows, so a text behind it goes on in the same line.
use Rattle.std.specs.Prelude.{ℕ, ◌-◌, Bool, true, false, List, [], ◌∷◌, ◌++◌, length, take, drop}
use Rattle.tb_tree.specs.Plain.{Plain, elem, attr, text, Plains, no_kids, kid}
use Rattle.tb_tree.specs.Printed.{escaped, printed_node}

-- the bytes so far, and whether the last line is a text's that goes on
pub record Page : Type 0 where
  pub bytes : List ℕ
  pub is_going : Bool

abbrev pub page : List ℕ → Bool → Page
page bytes is_going = record { bytes = bytes; is_going = is_going }

-- the end of a text's line that goes on
abbrev pub line_end : Bool → List ℕ
line_end false = []
line_end true = 10 ∷ []

-- the start of a text's line, where none goes on
abbrev pub text_start : Bool → List ℕ
text_start false = 45 ∷ []
text_start true = []

-- the lines of the page, each with its end
abbrev pub whole_lines : Page → List ℕ
whole_lines p = p.bytes ++ line_end p.is_going

-- no text goes on
abbrev pub ended : Page → Page
ended p = page (whole_lines p) false

-- whole lines more
abbrev pub with_lines : Page → List ℕ → Page
with_lines p lines = page (whole_lines p ++ lines) false

-- a text more: no line where it has no byte, and no new one where a text goes on
abbrev pub with_text : Page → List ℕ → Page
with_text p [] = p
with_text p (b ∷ bs) = page (p.bytes ++ (text_start p.is_going ++ escaped (b ∷ bs))) true

-- a node more: an attribute, whose line stands before its element's start, just ends a text
abbrev pub with_node : Page → Plain → Page
with_node p (elem name kids) = with_lines p (printed_node (elem name kids))
with_node p (attr name value) = ended p
with_node p (text value) = with_text p value

-- nodes more, one after the other
abbrev pub with_nodes : Page → Plains → Page
with_nodes p no_kids = p
with_nodes p (kid node rest) = with_nodes (with_node p node) rest

-- Lines of a document more, as they print: a text that stands first goes on where one goes on.
abbrev pub joined : Page → Bool → List ℕ → Page
joined p false lines = with_lines p lines
joined p true lines = page (p.bytes ++ (text_start p.is_going ++ drop 1 lines)) false

-- a text that stands last goes on
abbrev pub going_on : Page → Bool → Page
going_on p false = p
going_on p true = page (take (length p.bytes - 1) p.bytes) true
