-- What the reader's values stand for, and what its calls answer: words of private clauses.
use Rattle.std.specs.Borrow.{Bor}
use Rattle.std.specs.Prelude.{◌≡◌, ℕ, ◌+◌, ◌*◌, if◌then◌else◌, Bool, true, ◌&&◌, List, [], ◌∷◌, length, Option, Some, None, Result, Ok, Err}
use Rattle.tb_tree.specs.Names.{is_name}
use Rattle.tb_tree.specs.TextLines.{CutsLine}
use Rattle.tb_tree.specs.Sound.{is_empty_list}
use Rattle.tb_tree.specs.Printed.{start_line, end_line}
use Rattle.tb_tree.specs.Making.{Frame, Made, innermost_name, with_more_text}
use Rattle.tb_tree.specs.Drafts.{Shows}
use Rattle.tb_esis.specs.Lines.{Line, opens, closes, attribute, characters, conforms, passed_over, line_of}
use Rattle.tb_esis.specs.Faults.{fault_at, fault_of_data, fault_or}
use Rattle.tb_esis.specs.Calls.{UnlessMemory}
use Rattle.tb_esis.specs.Machine.{made_behind, open_of}
use Rattle.tb_esis.specs.declared.line.Line as code
use Rattle.tb_esis.specs.declared.line.Line.TheVariants as kind
use Rattle.tb_esis.specs.declared.reader.Reader.{Reader}
use Rattle.tb_esis.specs.declared.fault.EsisFault.{EsisFault}

-- the line that was cut
abbrev pub said_by : code.Line → Line
said_by (kind.Opens name) = opens name.now
said_by (kind.Closes name) = closes name.now
said_by (kind.Attribute name type raw) = attribute name.now type.now raw.now
said_by (kind.Characters raw) = characters raw.now
said_by kind.Conforms = conforms
said_by kind.PassedOver = passed_over

-- how many bytes a line prints at most, where it has no fault
abbrev pub weight : Line → ℕ
weight (opens name) = length (start_line name)
weight (closes name) = length (end_line name)
weight (attribute name type raw) = if is_empty_list type then 0 else 9 + length name + 4 * length raw
weight (characters raw) = 2 + 4 * length raw
weight conforms = 0
weight passed_over = 0

-- the reader's draft shows what has been made
abbrev pub IsReading : Reader → Made → Type 0
IsReading r m = Shows r.draft m

-- the names of the open elements are names
abbrev pub are_named : List Frame → Bool
are_named [] = true
are_named (f ∷ fs) = is_name f.name && are_named fs

-- the innermost element has the name and may end
pub record MayClose (m : Made) (name : List ℕ) : Type 0 where
  pub none_wait : m.waiting ≡ []
  pub innermost : innermost_name m.frames ≡ Some name

-- the line is read
pub record IsRead (line : Line) (m : Made) (r : Reader) : Type 0 where
  pub no_fault : fault_at (open_of m) line ≡ None
  pub reading : IsReading r (made_behind m line)

-- the line is read, or has the fault at its number
abbrev pub ReadsLine : {A : Type 0} → Line → ℕ → Made → Reader → Result A EsisFault → Type 0
ReadsLine line number m r (Ok done) = IsRead line m r
ReadsLine line number m r (Err fault) =
    UnlessMemory fault (fault_or (fault_at (open_of m) line) number None ≡ Some fault)

-- the first line has the fault
pub record HasFault (lines : List ℕ) (number : ℕ) (m : Made) (fault : EsisFault) : Type 0 where
  pub line : List ℕ
  pub behind : List ℕ
  pub cut : CutsLine lines line behind
  pub told : fault_or (fault_at (open_of m) (line_of line)) number None ≡ Some fault

-- the first line is read, up to the bytes behind it
pub record IsTaken (lines behind : List ℕ) (m : Made) (r : Reader) : Type 0 where
  pub line : List ℕ
  pub cut : CutsLine lines line behind
  pub read : IsRead (line_of line) m r

-- the first line is read, or has the fault at its number, or there is no line
abbrev pub TakesLine : List ℕ → ℕ → Made → Reader → Result (Option (Bor (List ℕ))) EsisFault → Type 0
TakesLine lines number m r (Ok None) = (lines ≡ []) × IsReading r m
TakesLine lines number m r (Ok (Some behind)) = IsTaken lines behind.now m r
TakesLine lines number m r (Err fault) = UnlessMemory fault (HasFault lines number m fault)

-- the bytes that data gave are taken up, or they may not stand there
abbrev pub TakesData : {A : Type 0} → List ℕ → ℕ → Made → Reader → Result A EsisFault → Type 0
TakesData value number m r (Ok done) =
    (fault_of_data (open_of m) (Some value) ≡ None) × IsReading r (with_more_text m value)
TakesData value number m r (Err fault) =
    UnlessMemory fault (fault_or (fault_of_data (open_of m) (Some value)) number None ≡ Some fault)
