use Rattle.std.proofs.Common.{◌≡◌, ℕ, ◌+◌, ◌≤◌, [], length}
use Rattle.tb_script.specs.Lines.{whole_lines}
use Rattle.tb_script.specs.Entries.{query_text, entries}
use Rattle.tb_script.proofs.body.query_text.Given as goal

-- with the lines passed in the text the entries are the same
abbrev pub invariant-lines : goal.invariant-lines
invariant-lines l = record {
  numbers : l.line + length l.rest ≤ l.number + length l.bytes;
  later : l.number ≤ l.line;
  same : (at : ℕ) → entries (query_text at []) l.number (whole_lines l.bytes)
      ≡ entries (query_text at l.kept.items) l.line (whole_lines l.rest);
}

abbrev pub decreases-lines : goal.decreases-lines
decreases-lines l = length l.rest
