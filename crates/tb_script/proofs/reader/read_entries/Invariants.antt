use Rattle.std.proofs.Common.{◌≡◌, ◌+◌, ◌≤◌, ◌++◌, length}
use Rattle.tb_script.specs.Lines.{whole_lines}
use Rattle.tb_script.specs.Entries.{no_body, entries, entries_of}
use Rattle.tb_script.specs.Faults.{at_start, first_fault}
use Rattle.tb_script.specs.Sessions.{marks_of}
use Rattle.tb_script.specs.Tallies.{Tells, tally_of, IsBelow}
use Rattle.tb_script.proofs.reader.read_entries.Given as goal

-- the entries read, with those of what is left, are all, and the first fault is among those
abbrev pub invariant-entries : goal.invariant-entries
invariant-entries l = record {
  all : l.entries.items ++ entries no_body l.line (whole_lines l.rest) ≡ entries_of l.bytes;
  told : Tells l.tally.marks (marks_of l.entries.items);
  first : first_fault (tally_of l.tally (marks_of l.entries.items)) (entries no_body l.line (whole_lines l.rest))
      ≡ first_fault at_start (entries_of l.bytes);
  numbers : l.line + length l.rest ≤ 1 + length l.bytes;
  below : IsBelow l.line l.tally;
}

abbrev pub decreases-entries : goal.decreases-entries
decreases-entries l = length l.rest
