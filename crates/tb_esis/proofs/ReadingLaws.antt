-- What the reader makes of all lines is the document that they are read as.
use Rattle.std.proofs.Common.{◌≡◌, ◌≢◌, ℕ, ◌+◌, ◌≤◌, List, [], ◌∷◌, Option, Some, None, Ok, Err, Result, IsErrAnd, IsTrue, map, refl, sym, ap, ◌∙◌, subst, length, arith, length-take, length-drop, Bool, true, false}
use Rattle.tb_tree.specs.Plain.{Plain, one, is_element}
use Rattle.tb_tree.specs.Sound.{IsSound}
use Rattle.tb_tree.specs.Levels.{levels}
use Rattle.tb_tree.specs.Printed.{printed_node}
use Rattle.tb_tree.specs.TextLines.{CutsLine}
use Rattle.tb_tree.specs.View.{plain_of}
use Rattle.tb_tree.specs.declared.node.Node.{Node}
use Rattle.tb_tree.proofs.lists.Options.{some-none}
use Rattle.tb_tree.proofs.PutLaws.{length-put}
use Rattle.tb_esis.specs.Lines.{Line, opens, closes, attribute, characters, conforms, passed_over, is_implied, line_of, document_lines}
use Rattle.tb_esis.specs.Reading.{IsReadAs}
use Rattle.tb_esis.specs.Faults.{fault_at, fault_or, first_fault, fault_of, after_line}
use Rattle.tb_tree.specs.Making.{Frame, Made, nothing_made, put, text_of, with_text_ended, with_frames_ended}
use Rattle.tb_tree.specs.Drafts.{IsDone}
use Rattle.tb_esis.specs.Machine.{made_behind, made_of, open_of}
use Rattle.tb_esis.specs.Calls.{UnlessMemory, Reads}
use Rattle.tb_esis.specs.Readers.{HasFault}
use Rattle.tb_esis.specs.declared.fault.EsisFault.{EsisFault}
use Rattle.tb_esis.specs.declared.fault.EsisFault.TheVariants.{BadEscape, BadName, BadAttribute, NoElement, WrongEnd, NotEnded, SecondRoot, TextOutside, TooDeep, NoMemory}
use Rattle.tb_esis.proofs.OpenLaws.{open-behind}
use Rattle.tb_esis.proofs.CompleteLaws.{read-clean, read-unique}
use Rattle.tb_esis.proofs.PrintedLaws.{printed-read, printed-clean}
use Rattle.tb_esis.proofs.SoundLaws.{clean-read, no_start_fault}
use Rattle.tb_esis.proofs.ReadLaws.{read-sound, read-levels}
use Rattle.std.proofs.lemmas.Bool.{eqb-false}
use Rattle.std.proofs.lemmas.List.{length-map}

-- The first line, and those behind it.
pub lines-cut : (bytes line rest : List ℕ) → CutsLine bytes line rest → document_lines bytes ≡ line_of line ∷ document_lines rest
lines-cut bytes line rest cut = ap (map line_of) cut.lines

pub faults-cut : (bytes line rest : List ℕ) (number : ℕ) (before : Made) (whole : Option EsisFault) → CutsLine bytes line rest → fault_at (open_of before) (line_of line) ≡ None
    → first_fault number (open_of before) (document_lines bytes) ≡ whole → first_fault (number + 1) (open_of (made_behind before (line_of line))) (document_lines rest) ≡ whole
faults-cut bytes line rest number before whole cut none e =
    ap (λ o. first_fault (number + 1) o (document_lines rest)) (sym (open-behind before (line_of line)))
    ∙ ap (λ f. fault_or f number (first_fault (number + 1) (after_line (open_of before) (line_of line)) (document_lines rest))) (sym none)
    ∙ ap (first_fault number (open_of before)) (sym (lines-cut bytes line rest cut)) ∙ e

pub made-cut : (bytes line rest : List ℕ) (before whole : Made) → CutsLine bytes line rest
    → made_of before (document_lines bytes) ≡ whole → made_of (made_behind before (line_of line)) (document_lines rest) ≡ whole
made-cut bytes line rest before whole cut e = ap (made_of before) (sym (lines-cut bytes line rest cut)) ∙ e

-- a fault but want of memory, under what it leads to
pub unless-memory : (f : EsisFault) (P Q : Type 0) → (P → Q) → UnlessMemory f P → UnlessMemory f Q
unless-memory (BadEscape n) P Q g p = g p
unless-memory (BadName n) P Q g p = g p
unless-memory (BadAttribute n) P Q g p = g p
unless-memory (NoElement n) P Q g p = g p
unless-memory (WrongEnd n) P Q g p = g p
unless-memory (NotEnded n) P Q g p = g p
unless-memory (SecondRoot n) P Q g p = g p
unless-memory (TextOutside n) P Q g p = g p
unless-memory (TooDeep n) P Q g p = g p
unless-memory NoMemory P Q g p = tt

pub not-memory : (f : EsisFault) (P : Type 0) → f ≢ NoMemory → UnlessMemory f P → P
not-memory (BadEscape n) P other p = p
not-memory (BadName n) P other p = p
not-memory (BadAttribute n) P other p = p
not-memory (NoElement n) P other p = p
not-memory (WrongEnd n) P other p = p
not-memory (NotEnded n) P other p = p
not-memory (SecondRoot n) P other p = p
not-memory (TextOutside n) P other p = p
not-memory (TooDeep n) P other p = p
not-memory NoMemory P other p = absurd (other refl)

fault-first : (f : Option (ℕ → EsisFault)) (number : ℕ) (later : Option EsisFault) (fault : EsisFault) → fault_or f number None ≡ Some fault → fault_or f number later ≡ Some fault
fault-first None number later fault e = absurd (let d : ◌≡◌ {A = Option EsisFault} None (Some fault) = e in cc)
fault-first (Some f) number later fault e = e

-- The fault at a line is that of all lines, where those before it have none.
pub fault-cut : (bytes line rest : List ℕ) (number : ℕ) (before : Made) (whole : Option EsisFault) (fault : EsisFault) → CutsLine bytes line rest
    → first_fault number (open_of before) (document_lines bytes) ≡ whole → fault_or (fault_at (open_of before) (line_of line)) number None ≡ Some fault → whole ≡ Some fault
fault-cut bytes line rest number before whole fault cut e here =
    sym e ∙ ap (first_fault number (open_of before)) (lines-cut bytes line rest cut) ∙ fault-first (fault_at (open_of before) (line_of line)) number _ fault here

pub fault-taken : (lines : List ℕ) (number : ℕ) (before : Made) (whole : Option EsisFault) (fault : EsisFault)
    → first_fault number (open_of before) (document_lines lines) ≡ whole → HasFault lines number before fault → whole ≡ Some fault
fault-taken lines number before whole fault e h = fault-cut lines h.line h.behind number before whole fault h.cut e h.told

pub left-by : (bytes : List ℕ) (fault : EsisFault) (r : Result Node EsisFault) → IsErrAnd r (λ f. f ≡ fault) → UnlessMemory fault (fault_of bytes ≡ Some fault) → Reads bytes r
left-by bytes fault (Ok tree) e reads = absurd e
left-by bytes fault (Err f) e reads = subst (λ g. UnlessMemory g (fault_of bytes ≡ Some g)) (sym e) reads

-- Behind the last line the root is the tree.
pub root-read : (bytes rest : List ℕ) (number : ℕ) (made : Made) (root : Plain) → rest ≡ [] → first_fault number (open_of made) (document_lines rest) ≡ fault_of bytes
    → made_of made (document_lines rest) ≡ made_of nothing_made (document_lines bytes) → fault_at (open_of made) conforms ≡ None → made.root ≡ Some root → IsReadAs bytes root
root-read bytes rest number made root empty faults all clean root_is =
    let none : fault_of bytes ≡ None = sym faults ∙ ap (λ l. first_fault number (open_of made) (document_lines l)) empty ∙ ap (λ f. fault_or f number None) clean in
    let found = clean-read bytes none in
    let made_all : made ≡ made_of nothing_made (document_lines bytes) = ap (λ l. made_of made (document_lines l)) (sym empty) ∙ all in
    let same : ◌≡◌ {A = Option Plain} (Some found.0) (Some root) = sym (read-clean bytes found.0 found.1).1 ∙ ap (λ (m : Made). m.root) (sym made_all) ∙ root_is in
    let tree : found.0 ≡ root = cc in
    subst (IsReadAs bytes) tree found.1

-- what has ended
pub record HasEnded (m : Made) : Type 0 where
  pub root : Plain
  pub none_open : m.frames ≡ []
  pub none_wait : m.waiting ≡ []
  pub root_is : m.root ≡ Some root

ended_case : (m : Made) (frames : List Frame) (waiting : List Plain) (root : Option Plain) → m.frames ≡ frames → m.waiting ≡ waiting → m.root ≡ root → fault_at (open_of m) conforms ≡ None → HasEnded m
ended_case m frames (w ∷ ws) root are wait is none = absurd (some-none _ (rw wait at none))
ended_case m [] [] None are wait is none = absurd (some-none _ (rw (wait, are, is) at none))
ended_case m (f ∷ fs) [] root are wait is none = absurd (some-none _ (rw (wait, are) at none))
ended_case m [] [] (Some root) are wait is none = record { root = root; none_open = are; none_wait = wait; root_is = is }

pub has-ended : (m : Made) → fault_at (open_of m) conforms ≡ None → HasEnded m
has-ended m none = ended_case m m.frames m.waiting m.root refl refl refl none

-- Behind the last line the reader's document is done.
pub record IsRoot (bytes : List ℕ) (m : Made) : Type 0 where
  pub root : Plain
  pub read : IsReadAs bytes root
  pub done : IsDone m root

pub read-done : (bytes rest : List ℕ) (number : ℕ) (m : Made) → rest ≡ [] → first_fault number (open_of m) (document_lines rest) ≡ fault_of bytes
    → made_of m (document_lines rest) ≡ made_of nothing_made (document_lines bytes) → fault_at (open_of m) conforms ≡ None → IsRoot bytes m
read-done bytes rest number m empty faults all clean =
    let end = has-ended m clean in
    let read = root-read bytes rest number m end.root empty faults all clean end.root_is in
    record {
      root = end.root;
      read = read;
      done = record {
        none_open = end.none_open;
        none_wait = end.none_wait;
        root_is = end.root_is;
        element = read.element;
        sound = read-sound bytes end.root read;
        low = read-levels bytes end.root read;
      };
    }

-- no line leaves more elements open than there may be
ended_frames : (m : Made) (frames : List Frame) → length (with_frames_ended m frames).frames ≤ length frames
ended_frames m [] = omega arith
ended_frames m (f ∷ []) = omega arith
ended_frames m (f ∷ g ∷ fs) = omega arith

attribute_frames : (m : Made) (name type raw : List ℕ) (implied : Bool) → is_implied type ≡ implied → length (made_behind m (attribute name type raw)).frames ≤ length m.frames
attribute_frames m name type raw true e = rw e (omega arith)
attribute_frames m name type raw false e = rw e (omega arith)

pub frames-deep : (m : Made) (line : Line) → fault_at (open_of m) line ≡ None → length m.frames ≤ 512 → length (made_behind m line).frames ≤ 512
frames-deep m (opens name) none deep =
    omega (arith, deep, length-put (text_of m.running) m.frames, length-map m.frames (λ (f : Frame). f.name), eqb-false _ _ (no_start_fault (open_of m) name none).2)
frames-deep m (closes name) none deep = omega (arith, deep, ended_frames (with_text_ended m) (put (text_of m.running) m.frames), length-put (text_of m.running) m.frames)
frames-deep m (attribute name type raw) none deep = omega (arith, deep, attribute_frames m name type raw (is_implied type) refl)
frames-deep m (characters raw) none deep = deep
frames-deep m conforms none deep = deep
frames-deep m passed_over none deep = deep

-- A line and what follows it are no longer than the whole.
pub cut-lengths : (bytes line rest : List ℕ) → CutsLine bytes line rest → length line + length rest ≤ length bytes
cut-lengths bytes line rest cut = omega (arith, ap length cut.line_is, length-take cut.kept bytes, ap length cut.rest_is, length-drop cut.taken bytes, cut.fits, cut.within)

-- A line takes a byte or more.
pub rest-shorter : (bytes line rest : List ℕ) → CutsLine bytes line rest → length rest + 1 ≤ length bytes
rest-shorter bytes line rest cut = omega (arith, ap length cut.rest_is, length-drop cut.taken bytes, cut.some, cut.within)

no_fault : (bytes : List ℕ) (f : EsisFault) → fault_of bytes ≡ None → fault_of bytes ≡ Some f → ⊥
no_fault bytes f none told = let d : ◌≡◌ {A = Option EsisFault} None (Some f) = sym none ∙ told in cc

-- a tree, or want of memory
abbrev pub IsTreeOrMemory : Plain → Result Node EsisFault → Type 0
IsTreeOrMemory tree (Ok back) = plain_of back ≡ tree
IsTreeOrMemory tree (Err fault) = fault ≡ NoMemory

-- Of bytes without a fault a fault is told only for want of memory.
pub only-memory : (bytes : List ℕ) (f : EsisFault) → fault_of bytes ≡ None → UnlessMemory f (fault_of bytes ≡ Some f) → f ≡ NoMemory
only-memory bytes (BadEscape n) none told = absurd (no_fault bytes (BadEscape n) none told)
only-memory bytes (BadName n) none told = absurd (no_fault bytes (BadName n) none told)
only-memory bytes (BadAttribute n) none told = absurd (no_fault bytes (BadAttribute n) none told)
only-memory bytes (NoElement n) none told = absurd (no_fault bytes (NoElement n) none told)
only-memory bytes (WrongEnd n) none told = absurd (no_fault bytes (WrongEnd n) none told)
only-memory bytes (NotEnded n) none told = absurd (no_fault bytes (NotEnded n) none told)
only-memory bytes (SecondRoot n) none told = absurd (no_fault bytes (SecondRoot n) none told)
only-memory bytes (TextOutside n) none told = absurd (no_fault bytes (TextOutside n) none told)
only-memory bytes (TooDeep n) none told = absurd (no_fault bytes (TooDeep n) none told)
only-memory bytes NoMemory none told = refl

-- What is read of a printed document is that document, and nothing but want of memory keeps it from being read.
pub printed-back : (tree : Plain) (read : Result Node EsisFault) → IsSound tree → IsTrue (is_element tree) → levels (one tree) ≤ 512 → Reads (printed_node tree) read → IsTreeOrMemory tree read
printed-back tree (Ok back) sound element low reads = read-unique (printed_node tree) (plain_of back) tree reads (printed-read tree sound element low)
printed-back tree (Err fault) sound element low reads = only-memory (printed_node tree) fault (printed-clean tree sound element low) reads
