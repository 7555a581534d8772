use Rattle.std.proofs.Common.{◌≡◌, true, ◌+◌, ◌*◌, ◌≤◌, length}
use Rattle.tb_tree.specs.Drafts.{size_of}
use Rattle.tb_tree.specs.Making.{Made, nothing_made}
use Rattle.tb_esis.specs.Lines.{document_lines}
use Rattle.tb_esis.specs.Faults.{first_fault, fault_of}
use Rattle.tb_esis.specs.Machine.{made_of, open_of}
use Rattle.tb_esis.specs.Readers.{are_named, IsReading}
use Rattle.tb_esis.proofs.reading.read_tree.Given as goal

abbrev pub decreases-lines : goal.decreases-lines
decreases-lines l = length l.rest

-- The lines that are left have the fault of all, and make of what has been made what all make. What has been
-- printed is at most four times as long as what has been read.
abbrev pub invariant-lines : goal.invariant-lines
invariant-lines l =
    (m : Made) × IsReading l.reader m
    × (first_fault l.number (open_of m) (document_lines l.rest) ≡ fault_of l.lines)
    × (made_of m (document_lines l.rest) ≡ made_of nothing_made (document_lines l.lines))
    × (l.number + length l.rest ≤ 1 + length l.lines)
    × (length m.frames ≤ 512)
    × (are_named m.frames ≡ true)
    × (size_of l.reader.draft + 4 * length l.rest ≤ 4 * length l.lines)
