-- Counts of faults: an object fails only where its count rises, so the counts tell who failed.
use Rattle.std.specs.Prelude.{◌≡◌, ℕ, ◌+◌, ◌-◌, ◌^◌, ◌≤◌, min, Result, OnOk, OnErr}

-- one more, or the last number of 64 bits where the count stands there
abbrev pub next_count : ℕ → ℕ
next_count count = min (count + 1) (2 ^ 64 - 1)

-- The count rose. One that stands at the last number of 64 bits can't rise, and permits a fault too.
abbrev pub HasRisen : ℕ → ℕ → Type 0
HasRisen before after = next_count before ≤ after

-- a call with this result left the count so: it rose on `Err`, and stayed on `Ok`
pub record Causes {T E : Type 0} (before after : ℕ) (result : Result T E) : Type 0 where
  pub never_falls : before ≤ after
  pub risen : OnErr result (HasRisen before after)
  pub same : OnOk result (after ≡ before)
