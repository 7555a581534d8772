-- Doing commands in any order: what a walk over the sessions has left, and what it keeps.
use Rattle.std.specs.Prelude.{◌≡◌, ◌⊎◌, ℕ, ◌+◌, ◌*◌, ◌<◌, ◌≤◌, ◌==◌, Bool, true, false, List, [], ◌∷◌, ◌++◌, Option, Some, None, map, length}
use Rattle.std.specs.List.{AllByRecursion}
use Rattle.std.proofs.Common.{get_or, set}
use Rattle.tb_script.specs.Rounds.{is_among, total}
use Rattle.tb_script.specs.Runnable.{HasMarkBelow}
use Rattle.tb_script.specs.Runs.{Runs}
use Rattle.tb_script.specs.declared.command.Command.{Command}
use Rattle.tb_script.specs.declared.command.Command.TheVariants.{Tell, Hear}
use Rattle.tb_script.specs.declared.lined_command.LinedCommand.{LinedCommand}
use Rattle.tb_script.specs.declared.walk.Walk.{Walk}

-- What is left of each session, which marks are told, which sessions wait for each mark, and which
-- sessions are to be looked at.
pub record WalkState : Type 0 where
  pub left : List (List LinedCommand)
  pub told : List Bool
  pub waiters : List (List ℕ)
  pub ready : List ℕ

abbrev pub state_of : Walk → WalkState
state_of w = record {
  left = map (λ r. r.now) w.rests.items;
  told = w.told.items;
  waiters = map (λ v. v.items) w.waiters.items;
  ready = w.ready.items;
}

abbrev pub is_told : WalkState → ℕ → Bool
is_told st mark = get_or st.told mark false

abbrev pub waiters_of : WalkState → ℕ → List ℕ
waiters_of st mark = get_or st.waiters mark []

-- what is left of a session, which is nothing where there is no such session
abbrev pub row_of : WalkState → ℕ → List LinedCommand
row_of st at = get_or st.left at []

-- all marks of these commands have smaller numbers
abbrev pub HaveMarksBelow : ℕ → List (List LinedCommand) → Type 0
HaveMarksBelow n ss = AllByRecursion (AllByRecursion (λ t. HasMarkBelow n t.command)) ss

-- there is a place for each mark
pub record Fits (st : WalkState) : Type 0 where
  pub same : length st.waiters ≡ length st.told
  pub below : HaveMarksBelow (length st.told) st.left

-- the commands done can be done in turn
pub record Walks (ss : List (List LinedCommand)) (st : WalkState) : Type 0 where
  pub told : List ℕ
  pub run : Runs [] ss told st.left
  pub agrees : (m : ℕ) → is_among m told ≡ is_told st m

-- no session waits for a mark that is told, but perhaps for this one
abbrev pub IdlesBut : List ℕ → WalkState → Type 0
IdlesBut marks st = (m : ℕ) → is_among m marks ≡ false → is_told st m ≡ true → waiters_of st m ≡ []

abbrev pub WaitsAt : WalkState → ℕ → Command → Type 0
WaitsAt st at (Hear mark name) = is_among at (waiters_of st mark) ≡ true
WaitsAt st at _ = ⊥

-- nothing is left of the session, or it waits
abbrev pub Waits : WalkState → ℕ → List LinedCommand → Type 0
Waits st at [] = Unit {0}
Waits st at (t ∷ ts) = WaitsAt st at t.command

-- each session is to be looked at, or has nothing left, or waits, but perhaps these
abbrev pub CoveredBut : List ℕ → WalkState → Type 0
CoveredBut places st =
    (at : ℕ) → is_among at places ≡ false
    → (is_among at st.ready ≡ true) ⊎ Waits st at (row_of st at)

-- what falls with each command that is done and each session that is looked at
abbrev pub weight : WalkState → ℕ
weight st = 2 * total st.left + length st.ready

-- what stays as commands are done
pub record Keeps (old new : WalkState) : Type 0 where
  pub fits : Fits new
  pub walks : (ss : List (List LinedCommand)) → Walks ss old → Walks ss new
  pub lighter : weight new ≤ weight old

-- a session was looked at
pub record Visits (at : ℕ) (old new : WalkState) : Type 0 where
  pub keeps : Keeps old new
  pub idles : IdlesBut [] old → IdlesBut [] new
  pub covers : CoveredBut (at ∷ []) old → CoveredBut [] new

-- the sessions that wait for a mark were looked at
pub record Wakes (mark : ℕ) (old new : WalkState) : Type 0 where
  pub keeps : Keeps old new
  pub idles : IdlesBut (mark ∷ []) old → IdlesBut [] new
  pub covers : CoveredBut [] old → CoveredBut [] new

-- the next command of a session with those behind it, or none where nothing is left
abbrev pub IsNext : WalkState → ℕ → Option (LinedCommand × List LinedCommand) → Type 0
IsNext st at (Some next) = (row_of st at ≡ next.0 ∷ next.1) × (at < length st.left)
IsNext st at None = row_of st at ≡ []

-- the marks that are told once the command is done
abbrev pub told_with : List Bool → Command → List Bool
told_with told (Tell mark name) = set told mark true
told_with told _ = told

-- whether the command can be done
abbrev pub goes : WalkState → Command → Bool
goes st (Hear mark name) = is_told st mark
goes st _ = true

-- a session is past its next command
abbrev pub past : WalkState → ℕ → List LinedCommand → WalkState
past st at rest =
    record { left = set st.left at rest; told = st.told; waiters = st.waiters; ready = st.ready ++ at ∷ [] }

abbrev pub done : WalkState → ℕ → Command → List LinedCommand → WalkState
done st at command rest =
    record { left = set st.left at rest; told = told_with st.told command; waiters = st.waiters; ready = st.ready ++ at ∷ [] }

abbrev pub telling : WalkState → ℕ → WalkState
telling st mark = record { left = st.left; told = set st.told mark true; waiters = st.waiters; ready = st.ready }

abbrev pub with_waiters : WalkState → ℕ → List ℕ → WalkState
with_waiters st mark list =
    record { left = st.left; told = st.told; waiters = set st.waiters mark list; ready = st.ready }

abbrev pub waiting : WalkState → ℕ → ℕ → WalkState
waiting st mark at = with_waiters st mark (waiters_of st mark ++ at ∷ [])

abbrev pub with_ready : WalkState → List ℕ → WalkState
with_ready st list = record { left = st.left; told = st.told; waiters = st.waiters; ready = list }

-- the last of a list is taken, or the list is empty
abbrev pub Pops : List ℕ → List ℕ → Option ℕ → Type 0
Pops old new (Some at) = old ≡ new ++ at ∷ []
Pops old new None = (old ≡ []) × (new ≡ [])

-- no command can be done any more
pub record Ends (old new : WalkState) : Type 0 where
  pub walks : (ss : List (List LinedCommand)) → Walks ss old → Walks ss new
  pub idles : IdlesBut [] new
  pub covers : CoveredBut [] new
  pub none : new.ready ≡ []

-- whether the command hears the mark
abbrev pub hears : Command → ℕ → Bool
hears (Hear m name) mark = mark == m
hears _ mark = false

abbrev pub HearsNot : ℕ → List LinedCommand → Type 0
HearsNot mark [] = Unit {0}
HearsNot mark (t ∷ ts) = hears t.command mark ≡ false

-- a session that hears the mark is past that command, and any other is as it was
abbrev pub Hears : ℕ → ℕ → WalkState → WalkState → Type 0
Hears mark at old new =
    ((t : LinedCommand) × (ts : List LinedCommand) × ((row_of old at ≡ t ∷ ts) × (at < length old.left))
    × (hears t.command mark ≡ true) × (new ≡ past old at ts))
    ⊎ ((new ≡ old) × HearsNot mark (row_of old at))

-- so far the waiters of a mark that is told go on
pub record Woken (mark : ℕ) (old new : WalkState) : Type 0 where
  pub keeps : Keeps old new
  pub told : is_told new mark ≡ true
  pub idles : IdlesBut (mark ∷ []) old → IdlesBut (mark ∷ []) new
  pub covers : CoveredBut [] old → CoveredBut [] new

-- nothing is done, and each session is to be looked at
pub record Starts (ss : List (List LinedCommand)) (st : WalkState) : Type 0 where
  pub fits : Fits st
  pub walks : Walks ss st
  pub idles : IdlesBut [] st
  pub covers : CoveredBut [] st
