use Rattle.std.proofs.Common.{◌≡◌, ◌+◌, ◌≤◌, length}
use Rattle.tb_script.specs.Lines.{whole_lines}
use Rattle.tb_script.specs.Entries.{no_body, entries}
use Rattle.tb_script.proofs.entry.next_entry.Given as goal

-- the lines passed have no entry
abbrev pub invariant-lines : goal.invariant-lines
invariant-lines l = record {
  numbers : l.line + length l.rest ≤ l.number + length l.bytes;
  later : l.number ≤ l.line;
  same : entries no_body l.number (whole_lines l.bytes) ≡ entries no_body l.line (whole_lines l.rest);
}

abbrev pub decreases-lines : goal.decreases-lines
decreases-lines l = length l.rest
