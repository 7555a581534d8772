-- What was read so far, and that no read failed.
use Rattle.std.proofs.Common.{◌≡◌, ◌+◌, ◌-◌, ◌≤◌, vec_len}
use Rattle.std.specs.Io.KnownBytes.{Consumes}
use Rattle.std.specs.declared.option.Option.{Option}
use Rattle.std.proofs.Common.{ℕ, List, length}
use Rattle.tb_edge.proofs.reading.read_up_to.Given as goal

-- what the reads did so far to the bytes left and to the count of faults
pub record ReadSoFar (most len : ℕ) (old new : Option (List ℕ)) (bytes : List ℕ) (before after : ℕ) : Type 0 where
  pub taken : Consumes old new bytes
  pub bound : length bytes ≤ most + 1
  pub room : len ≡ 65536
  pub same : after ≡ before

abbrev pub invariant-reads : goal.invariant-reads
invariant-reads g l =
    ReadSoFar l.most (vec_len l.buffer) (g.S.Source.left l.initial.source) (g.S.Source.left l.source) l.bytes.items
    (g.S.Source.faults l.initial.source) (g.S.Source.faults l.source)

abbrev pub decreases-reads : goal.decreases-reads
decreases-reads g l = l.most + 1 - vec_len l.bytes
