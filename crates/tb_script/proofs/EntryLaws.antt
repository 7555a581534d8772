-- Entries with one more.
use Rattle.std.proofs.Common.{◌≡◌, ℕ, ◌≤◌, List, [], ◌∷◌, ◌++◌, None, sym, ap, ◌∙◌, arith, append_assoc, append-nil}
use Rattle.tb_script.specs.Faults.{Counts, fault_of, and_then, first_fault, or_else}
use Rattle.tb_script.specs.Sessions.{marks_of, told_by}
use Rattle.tb_script.specs.Tallies.{IsBelow}
use Rattle.tb_script.specs.declared.entry.Entry.{Entry}
use Rattle.tb_script.specs.declared.tally.Tally.{Tally}

pub marks_of-push : (es : List Entry) (e : Entry) → marks_of (es ++ e ∷ []) ≡ marks_of es ++ told_by e.said
marks_of-push [] e = append-nil (told_by e.said)
marks_of-push (d ∷ es) e = ap (λ ms. told_by d.said ++ ms) (marks_of-push es e) ∙ sym (append_assoc (told_by d.said) (marks_of es) (told_by e.said))

-- a line without a fault leaves the first fault to the lines behind it
pub first-next : (t : Counts) (e : Entry) (es : List Entry) → fault_of t e.line e.said ≡ None → first_fault t (e ∷ es) ≡ first_fault (and_then t e.said) es
first-next t e es none = ap (λ o. or_else o (first_fault (and_then t e.said) es)) none

pub below-later : (n m : ℕ) (t : Tally) → IsBelow n t → n ≤ m → IsBelow m t
below-later n m t b later = record {
  sessions = omega (arith, b.sessions, later);
  commands = omega (arith, b.commands, later);
  loads = omega (arith, b.loads, later);
  marks = omega (arith, b.marks, later);
}
