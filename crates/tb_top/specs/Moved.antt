-- What a call did to its source and its sink.
use Rattle.std.specs.Prelude.{◌≡◌, ℕ, ◌≤◌, ◌⊎◌, List, length, Option}
use Rattle.std.specs.Io.KnownBytes.{Keeps, Appends, Consumes, IsAtEnd}
use Rattle.tb_edge.specs.Faults.{HasRisen}
use Rattle.tb_edge.specs.Calls.{LostAtMost, GrewByPart}
use Rattle.tb_top.specs.declared.status.Status.{Status}
use Rattle.tb_top.specs.declared.status.Status.TheVariants as status

-- what a call did to its source: the bytes left, where they are told, and the count of faults,
-- before the call and after it
pub record SourceMoved : Type 0 where
  pub left : Option (List ℕ)
  pub left_after : Option (List ℕ)
  pub faults : ℕ
  pub faults_after : ℕ

-- what it did to its sink: the bytes held, where they are told, and the count of faults
pub record SinkMoved : Type 0 where
  pub held : Option (List ℕ)
  pub held_after : Option (List ℕ)
  pub faults : ℕ
  pub faults_after : ℕ

-- a count of faults rose
pub record HasFailed (faults faults_after : ℕ) : Type 0 where
  pub never_falls : faults ≤ faults_after
  pub risen : HasRisen faults faults_after

-- nothing was read
pub record ReadNothing (source : SourceMoved) : Type 0 where
  pub kept : Keeps source.left source.left_after
  pub faultless : source.faults_after ≡ source.faults

-- the source was read to its end: these bytes, 67,108,864 at most
pub record ReadAll (source : SourceMoved) (bytes : List ℕ) : Type 0 where
  pub taken : Consumes source.left source.left_after bytes
  pub ended : IsAtEnd source.left_after
  pub within : length bytes ≤ 67108864
  pub faultless : source.faults_after ≡ source.faults

-- byte 67,108,865 was read, and none after it
pub record ReadTooMuch (source : SourceMoved) (bytes : List ℕ) : Type 0 where
  pub taken : Consumes source.left source.left_after bytes
  pub past : length bytes ≡ 67108865
  pub faultless : source.faults_after ≡ source.faults

-- the source failed, and lost no byte past 67,108,865
pub record ReadFailed (source : SourceMoved) : Type 0 where
  pub lost : LostAtMost 67108865 source.left source.left_after
  pub failed : HasFailed source.faults source.faults_after

-- the source didn't fail, and lost no byte past 67,108,865
pub record ReadSome (source : SourceMoved) : Type 0 where
  pub lost : LostAtMost 67108865 source.left source.left_after
  pub faultless : source.faults_after ≡ source.faults

-- the sink grew by the text
pub record Wrote (sink : SinkMoved) (text : List ℕ) : Type 0 where
  pub all : Appends sink.held sink.held_after text
  pub faultless : sink.faults_after ≡ sink.faults

-- the sink failed, and grew by a first part of the text
pub record WrotePart (sink : SinkMoved) (text : List ℕ) : Type 0 where
  pub part : GrewByPart sink.held sink.held_after text
  pub failed : HasFailed sink.faults sink.faults_after

-- A line that goes with a status. Where the sink fails, the status stays as it is.
abbrev pub Tells : SinkMoved → List ℕ → Type 0
Tells sink line = Wrote sink line ⊎ WrotePart sink line

-- a result is written, or the sink failed
abbrev pub Published : SinkMoved → List ℕ → Status → Type 0
Published sink text status.Ok = Wrote sink text
Published sink text status.WriteFault = WrotePart sink text
Published sink text _ = ⊥
