-- Sets of sessions.
use Rattle.std.specs.Prelude.{◌≡◌, ℕ, zero, suc, ◌+◌, ◌<◌, ◌==◌, ◌&&◌, not, if◌then◌else◌, Bool, true, false, Option, Some, None}
use Rattle.std.specs.Int.{bit_at}
use Rattle.tb_script.specs.declared.session_set.SessionSet.{SessionSet}

-- whether a set has a session
abbrev pub holds : SessionSet → ℕ → Bool
holds set at = bit_at set.bits at == 1

-- the lowest of a set is taken, or the set is empty
abbrev pub TakesFirst : SessionSet → SessionSet → Option ℕ → Type 0
TakesFirst old new (Some at) =
    (at < 64) × (holds old at ≡ true) × ((n : ℕ) → n < at → holds old n ≡ false)
    × ((n : ℕ) → holds new n ≡ (holds old n && not (at == n)))
TakesFirst old new None = ((n : ℕ) → holds old n ≡ false) × (new ≡ old)

-- how many sessions below a number a set has
abbrev pub size_below : ℕ → SessionSet → ℕ
size_below zero set = 0
size_below (suc n) set = (if holds set n then 1 else 0) + size_below n set

-- how many sessions a set has
unfoldable pub size : SessionSet → ℕ
size set = size_below 64 set
