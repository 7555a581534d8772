-- What the reader counts, beside the definition's tally.
use Rattle.std.specs.Prelude.{◌≡◌, ◌⊎◌, ℕ, ◌<◌, List, Option, Some, None, Result, Ok, Err, length}
use Rattle.std.proofs.Common.{Vec, Global}
use Rattle.std.specs.BTreeMap.{get_by}
use Rattle.std.specs.Cmp.Lexicographic.{slice_cmp}
use Rattle.std.specs.Ordering.{nat_cmp}
use Rattle.tb_script.specs.Entries.{entries_of}
use Rattle.tb_tree.specs.NameTables.{place_of}
use Rattle.tb_script.specs.Faults.{Counts, at_start, first_fault}
use Rattle.tb_script.specs.Sessions.{marks_of}
use Rattle.tb_script.specs.declared.entry.Entry.{Entry}
use Rattle.tb_script.specs.declared.fault.ScriptFault.{ScriptFault}
use Rattle.tb_script.specs.declared.fault.ScriptFault.TheVariants.{NoMemory}
use Rattle.tb_script.specs.declared.tally.Tally.{Tally}
use Rattle.tb_script.specs.declared.marks.Marks.{Marks}

-- the number that the map has for a name
abbrev pub get_at : Marks → List ℕ → Option ℕ
get_at marks q = get_by (λ k. slice_cmp nat_cmp q k.items) marks.numbers

-- these names are told, in this order
pub record Tells (marks : Marks) (names : List (List ℕ)) : Type 0 where
  pub count : marks.count ≡ length names
  pub numbers : (q : List ℕ) → get_at marks q ≡ place_of q names

-- the definition's tally, where these names are told
abbrev pub tally_of : Tally → List (List ℕ) → Counts
tally_of t names =
    record { sessions = t.sessions; commands = t.commands; loads = t.loads; told = names }

-- the names are told, and the tally is this one
pub record Counted (t : Tally) (names : List (List ℕ)) (counts : Counts) : Type 0 where
  pub told : Tells t.marks names
  pub counts_are : tally_of t names ≡ counts

-- no count has reached n
pub record IsBelow (n : ℕ) (t : Tally) : Type 0 where
  pub sessions : t.sessions < n
  pub commands : t.commands < n
  pub loads : t.loads < n
  pub marks : t.marks.count < n

-- the entries with their marks, none of which has a fault at its line, or the first such fault
pub record AreRead (bytes : List ℕ) (es : List Entry) (marks : Marks) : Type 0 where
  pub entries_are : es ≡ entries_of bytes
  pub sound : first_fault at_start es ≡ None
  pub told : Tells marks (marks_of es)

abbrev pub ReadsEntries : List ℕ → Result (Vec Entry Global × Marks) ScriptFault → Type 0
ReadsEntries bytes (Ok read) = AreRead bytes read.0.items read.1
ReadsEntries bytes (Err f) = (f ≡ NoMemory) ⊎ (first_fault at_start (entries_of bytes) ≡ Some f)
