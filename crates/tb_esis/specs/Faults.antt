-- The fault of lines: that of the first line that has one, and at a line the first in this table.
use Rattle.std.specs.Prelude.{ℕ, ◌+◌, Bool, true, false, ◌&&◌, not, ◌==◌, if◌then◌else◌, List, [], ◌∷◌, ◌++◌, length, drop, Option, Some, None}
use Rattle.std.specs.List.{list_any}
use Rattle.std.specs.Str.{bytes_eq}
use Rattle.tb_tree.specs.Names.{is_name}
use Rattle.tb_tree.specs.Sound.{is_empty_list}
use Rattle.tb_tree.specs.Escapes.{unescaped}
use Rattle.tb_esis.specs.Lines.{Line, opens, closes, attribute, characters, conforms, passed_over, is_implied, document_lines}
use Rattle.tb_esis.specs.declared.fault.EsisFault.{EsisFault}
use Rattle.tb_esis.specs.declared.fault.EsisFault.TheVariants.{BadEscape, BadName, BadAttribute, NoElement, WrongEnd, NotEnded, SecondRoot, TextOutside, TooDeep}

-- what the lines so far leave open
pub record Open : Type 0 where
  -- the names of the elements that are open, the innermost first
  pub elements : List (List ℕ)
  -- the names of the attributes that wait for an element, in order
  pub waiting : List (List ℕ)
  -- an element has begun
  pub begun : Bool

abbrev pub at_start : Open
at_start = record { elements = []; waiting = []; begun = false }

-- no name
abbrev pub is_none_of : List (List ℕ) → Bool
is_none_of [] = true
is_none_of (name ∷ names) = false

-- the innermost open element has that name
abbrev pub is_innermost : List ℕ → List (List ℕ) → Bool
is_innermost name [] = false
is_innermost name (n ∷ names) = bytes_eq n name

-- data: a backslash that begins no escape, an attribute that waits, or bytes outside the root
abbrev pub fault_of_data : Open → Option (List ℕ) → Option (ℕ → EsisFault)
fault_of_data o None = Some BadEscape
fault_of_data o (Some given) =
    if not (is_none_of o.waiting) then Some BadAttribute
    else (if is_none_of o.elements && not (is_empty_list given) then Some TextOutside else None)

-- a value
abbrev pub fault_of_value : Option (List ℕ) → Option (ℕ → EsisFault)
fault_of_value None = Some BadEscape
fault_of_value (Some given) = None

-- what is wrong with a line, behind lines that leave this open
abbrev pub fault_at : Open → Line → Option (ℕ → EsisFault)
fault_at o (opens name) =
    if not (is_name name) then Some BadName
    else (if o.begun && is_none_of o.elements then Some SecondRoot
    else (if length o.elements == 512 then Some TooDeep else None))
fault_at o (closes name) =
    if not (is_none_of o.waiting) then Some BadAttribute
    else (if is_innermost name o.elements then None else Some WrongEnd)
fault_at o (attribute name type value) =
    if not (is_name name) then Some BadName
    else (if is_empty_list type then Some BadAttribute
    else (if is_implied type then None
    else (if list_any (bytes_eq name) o.waiting then Some BadAttribute
    else fault_of_value (unescaped value))))
fault_at o (characters raw) = fault_of_data o (unescaped raw)
fault_at o conforms =
    if not (is_none_of o.waiting) then Some BadAttribute
    else (if not o.begun then Some NoElement
    else (if is_none_of o.elements then None else Some NotEnded))
fault_at o passed_over = None

-- what is open behind a line without a fault
abbrev pub after_line : Open → Line → Open
after_line o (opens name) = record { elements = name ∷ o.elements; waiting = []; begun = true }
after_line o (closes name) =
    record { elements = drop 1 o.elements; waiting = o.waiting; begun = o.begun }
after_line o (attribute name type value) =
    if is_implied type then o
    else record { elements = o.elements; waiting = o.waiting ++ name ∷ []; begun = o.begun }
after_line o _ = o

-- the fault of a line that has the number, or what comes after it
abbrev pub fault_or : Option (ℕ → EsisFault) → ℕ → Option EsisFault → Option EsisFault
fault_or (Some fault) number later = Some (fault number)
fault_or None number later = later

-- The first fault of the lines, the first of which has the number. Behind the last line the tests of
-- `C` are made once more.
abbrev pub first_fault : ℕ → Open → List Line → Option EsisFault
first_fault number o [] = fault_or (fault_at o conforms) number None
first_fault number o (line ∷ lines) =
    fault_or (fault_at o line) number (first_fault (number + 1) (after_line o line) lines)

-- the fault of the bytes, whose lines count from 1
abbrev pub fault_of : List ℕ → Option EsisFault
fault_of bytes = first_fault 1 at_start (document_lines bytes)
