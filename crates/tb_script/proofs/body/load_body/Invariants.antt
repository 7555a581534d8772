use Rattle.std.proofs.Common.{◌≡◌, ℕ, ◌+◌, ◌-◌, ◌≤◌, List, [], ◌++◌, length, take}
use Rattle.tb_script.specs.Lines.{whole_lines}
use Rattle.tb_script.specs.Entries.{load_body, entries}
use Rattle.tb_script.proofs.body.load_body.Given as goal

-- with the lines passed in the body the entries are the same
abbrev pub invariant-lines : goal.invariant-lines
invariant-lines l = record {
  joined : l.bytes ≡ take (length l.bytes - length l.rest) l.bytes ++ l.rest;
  numbers : l.line + length l.rest ≤ l.number + length l.bytes;
  later : l.number ≤ l.line;
  same : (at : ℕ) (name : List ℕ) → entries (load_body at name []) l.number (whole_lines l.bytes)
      ≡ entries (load_body at name (take (length l.bytes - length l.rest) l.bytes)) l.line (whole_lines l.rest);
}

abbrev pub decreases-lines : goal.decreases-lines
decreases-lines l = length l.rest
