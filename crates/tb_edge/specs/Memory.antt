-- What contracts see of a source and of a sink in memory, and what one call leaves of them. Their counts of
-- calls and of faults stop at the last number of 64 bits.
use Rattle.std.specs.Prelude.{◌≡◌, ℕ, ◌-◌, ◌≤◌, ◌⊎◌, List, [], ◌++◌, length, take, drop, min, Contains, Result, Ok, Err}
use Rattle.tb_edge.specs.Faults.{next_count}

-- a source in memory
pub record Supply : Type 0 where
  -- the bytes left
  pub left : List ℕ
  -- the most bytes that a call gives
  pub step : ℕ
  -- the numbers of the calls that fail, from 1
  pub failing : List ℕ
  -- how many calls there were
  pub calls : ℕ
  -- how many of them failed
  pub faults : ℕ

-- a source that gives these bytes, before its first call
abbrev pub fresh_supply : List ℕ → ℕ → List ℕ → Supply
fresh_supply bytes step failing =
    record { left = bytes; step = step; failing = failing; calls = 0; faults = 0 }

-- the next call fails
abbrev pub ReadFails : Supply → Type 0
ReadFails s = Contains s.failing (next_count s.calls)

-- how many bytes the next call gives into this room, unless it fails
abbrev pub readable : Supply → ℕ → ℕ
readable s room = min s.step (min room (length s.left))

-- the source after a call with this result
abbrev pub after_read : {E : Type 0} → Supply → Result ℕ E → Supply
after_read s (Ok n) = record s { left = drop n s.left; calls = next_count s.calls }
after_read s (Err e) = record s { calls = next_count s.calls; faults = next_count s.faults }

-- a sink in memory
pub record Intake : Type 0 where
  -- the bytes held
  pub held : List ℕ
  -- how many bytes there was memory for from the start, those held now among them
  pub room : ℕ
  -- the most bytes that a call takes
  pub step : ℕ
  -- the numbers of the calls that fail, from 1
  pub failing : List ℕ
  -- how many calls there were
  pub calls : ℕ
  -- how many of them failed
  pub faults : ℕ

-- there is memory for the whole room, and the bytes held lie within it
pub record IsReserved (len room capacity : ℕ) : Type 0 where
  pub within : len ≤ room
  pub reserved : room ≤ capacity

-- a sink with this room, before its first call
abbrev pub fresh_intake : ℕ → ℕ → List ℕ → Intake
fresh_intake room step failing =
    record { held = []; room = room; step = step; failing = failing; calls = 0; faults = 0 }

-- how many bytes still have room
abbrev pub free_room : Intake → ℕ
free_room s = s.room - length s.held

-- the next call fails
abbrev pub WriteFails : Intake → Type 0
WriteFails s = Contains s.failing (next_count s.calls) ⊎ (free_room s ≡ 0)

-- how many bytes the next call takes of so many, unless it fails
abbrev pub writable : Intake → ℕ → ℕ
writable s offered = min s.step (min offered (free_room s))

-- the sink after a call over this piece with this result
abbrev pub after_write : {E : Type 0} → Intake → List ℕ → Result ℕ E → Intake
after_write s piece (Ok n) = record s { held = s.held ++ take n piece; calls = next_count s.calls }
after_write s piece (Err e) = record s { calls = next_count s.calls; faults = next_count s.faults }
