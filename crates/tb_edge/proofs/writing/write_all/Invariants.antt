-- What was written so far, and that no write failed.
use Rattle.std.proofs.Common.{◌≡◌, ◌-◌, ◌≤◌, ℕ, List, length, take}
use Rattle.std.specs.Io.KnownBytes.{Appends}
use Rattle.std.specs.declared.option.Option.{Option}
use Rattle.tb_edge.proofs.writing.write_all.Given as goal

-- what the writes did so far to the bytes held and to the count of faults
pub record WroteSoFar (at : ℕ) (bytes : List ℕ) (old new : Option (List ℕ)) (before after : ℕ) : Type 0 where
  pub within : at ≤ length bytes
  pub grew : Appends old new (take at bytes)
  pub same : after ≡ before

abbrev pub invariant-writes : goal.invariant-writes
invariant-writes g l =
    WroteSoFar l.at l.bytes (g.K.Sink.held l.initial.sink) (g.K.Sink.held l.sink) (g.K.Sink.faults l.initial.sink) (g.K.Sink.faults l.sink)
    × (length l.bytes ≡ 0 → l.sink ≡ l.initial.sink)

abbrev pub decreases-writes : goal.decreases-writes
decreases-writes g l = length l.bytes - l.at
