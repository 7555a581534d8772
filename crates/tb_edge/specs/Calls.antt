-- What the calls over a whole text promise.
use Rattle.std.specs.Prelude.{◌≡◌, ℕ, ◌<◌, ◌≤◌, List, length, take, Result, Ok, Err}
use Rattle.std.specs.Io.KnownBytes.{Appends, Consumes}
use Rattle.std.specs.declared.option.Option.{Option}
use Rattle.tb_edge.specs.Faults.{HasRisen}
use Rattle.tb_edge.specs.declared.reading.ReadFault.{ReadFault}
use Rattle.tb_edge.specs.declared.reading.ReadFault.TheVariants.{Failed, NoMemory}

-- a source lost some of its bytes, at most so many
abbrev pub LostAtMost : ℕ → Option (List ℕ) → Option (List ℕ) → Type 0
LostAtMost most old new = (bytes : List ℕ) × (length bytes ≤ most) × Consumes old new bytes

-- the source's count of faults rose where the read failed there, and only there
abbrev pub ReadCauses : {T : Type 0} → ℕ → ℕ → Result T ReadFault → Type 0
ReadCauses before after (Ok bytes) = after ≡ before
ReadCauses before after (Err Failed) = (before ≤ after) × HasRisen before after
ReadCauses before after (Err NoMemory) = after ≡ before

-- a sink took a first part of these bytes, not all of them
abbrev pub GrewByPart : Option (List ℕ) → Option (List ℕ) → List ℕ → Type 0
GrewByPart old new bytes = (n : ℕ) × (n < length bytes) × Appends old new (take n bytes)
