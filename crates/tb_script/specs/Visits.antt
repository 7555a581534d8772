-- A session is chosen and looked at: it goes on, or tells a mark and goes on, or waits.
use Rattle.std.specs.Prelude.{◌≡◌, ℕ, ◌+◌, ◌<◌, ◌≤◌, ◌==◌, ◌&&◌, ◌||◌, nat_lt, true, List, [], ◌∷◌, ◌++◌, Option, Some, None, IfSome, length}
use Rattle.std.proofs.Common.{set}
use Rattle.tb_script.specs.Rounds.{numbered}
use Rattle.tb_script.specs.Schedule.{schedule_of}
use Rattle.tb_script.specs.Sets.{holds}
use Rattle.tb_script.specs.Stands.{Stand, row_at, waiters_of, Fits, weight, Follows}
use Rattle.tb_script.specs.declared.command.Command.{Command}

-- the next command of a session, where it has one, with its number and those behind it
abbrev pub IsNextAt : Stand → ℕ → Option (ℕ × Command × List Command) → Type 0
IsNextAt st at (Some next) =
    (row_at st at ≡ record { line = next.0; command = next.1 } ∷ numbered (next.0 + 1) next.2)
    × (at < length st.left)
IsNextAt st at None = row_at st at ≡ []

-- a session is past its next command
pub record Goes (at number : ℕ) (rest : List Command) (old new : Stand) : Type 0 where
  pub later : (n : ℕ) → holds new.later n ≡ ((at == n) || holds old.later n)
  pub same : new ≡ record {
    left = set old.left at (numbered (number + 1) rest);
    told = old.told;
    waiters = old.waiters;
    awake = old.awake;
    later = new.later;
    steps = old.steps ++ record { session = at; command = number } ∷ [];
  }

-- A session tells a mark. Of those that wait for it the ones of higher numbers go on in this round.
pub record Tells (at mark : ℕ) (old new : Stand) : Type 0 where
  pub awake : (n : ℕ) → holds new.awake n
      ≡ (holds old.awake n || (nat_lt at n && holds (waiters_of old.waiters mark) n))
  pub later : (n : ℕ) → holds new.later n
      ≡ (holds old.later n || holds (waiters_of old.waiters mark) n)
  pub same : new ≡ record {
    left = old.left;
    told = set old.told mark true;
    waiters = old.waiters;
    awake = new.awake;
    later = new.later;
    steps = old.steps;
  }

-- a session waits for a mark
pub record Stays (at mark : ℕ) (old new : Stand) : Type 0 where
  pub waiters : (m n : ℕ) → holds (waiters_of new.waiters m) n
      ≡ (((mark == m) && (at == n)) || holds (waiters_of old.waiters m) n)
  pub places : length new.waiters ≡ length old.waiters
  pub same : new ≡ record {
    left = old.left;
    told = old.told;
    waiters = new.waiters;
    awake = old.awake;
    later = old.later;
    steps = old.steps;
  }

-- a session was looked at
pub record Visits (at : ℕ) (old new : Stand) : Type 0 where
  pub fits : Fits new
  pub follows : (css : List (List Command)) → Follows css at (at + 1) old
      → Follows css (at + 1) (at + 1) new
  pub lighter : weight new ≤ weight old

-- a session of this round is chosen, or all steps are done
abbrev pub IfChosen : List (List Command) → Stand → Option ℕ → Type 0
IfChosen css st (Some at) = Follows css at (at + 1) st
IfChosen css st None = st.steps ≡ schedule_of css

-- The next session is chosen, in this round or the next; where there is none, all steps are done.
pub record Chooses (old : Stand) (chosen : Option ℕ) (new : Stand) : Type 0 where
  pub follows : (css : List (List Command)) (from : ℕ) → Follows css from from old
      → IfChosen css new chosen
  pub lighter : IfSome chosen (λ at. (at < 64) × (weight new < weight old))
  pub same : new ≡ record {
    left = old.left;
    told = old.told;
    waiters = old.waiters;
    awake = new.awake;
    later = new.later;
    steps = old.steps;
  }
