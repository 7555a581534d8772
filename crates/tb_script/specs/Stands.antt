-- Rounds in which only sessions are looked at that may go on: those of this round, and those of the
-- next.
use Rattle.std.specs.Prelude.{◌≡◌, ◌⊎◌, ℕ, ◌+◌, ◌*◌, ◌<◌, ◌≤◌, Bool, true, false, List, ◌++◌, [], ◌∷◌, map, length, take, drop}
use Rattle.std.specs.List.{AllByRecursion}
use Rattle.std.proofs.Common.{get_or}
use Rattle.tb_script.specs.Rounds.{is_among, total, told_in_round, left_in_round, numbered}
use Rattle.tb_script.specs.Runnable.{HasMarkBelow}
use Rattle.tb_script.specs.Schedule.{steps_in_round, steps_by_rounds, schedule_of}
use Rattle.tb_script.specs.Sets.{holds, size}
use Rattle.tb_script.specs.declared.command.Command.{Command}
use Rattle.tb_script.specs.declared.command.Command.TheVariants.{Hear}
use Rattle.tb_script.specs.declared.lined_command.LinedCommand.{LinedCommand}
use Rattle.tb_script.specs.declared.turnstep.Turnstep.{Turnstep}
use Rattle.tb_script.specs.declared.session_set.SessionSet.{SessionSet}
use Rattle.tb_script.specs.declared.round.Rest.{Rest}
use Rattle.tb_script.specs.declared.round.Round.{Round}

-- What is left of each session, which marks are told, which sessions wait for each mark, which are to
-- be looked at in this round and in the next, and the steps so far.
pub record Stand : Type 0 where
  pub left : List (List LinedCommand)
  pub told : List Bool
  pub waiters : List SessionSet
  pub awake : SessionSet
  pub later : SessionSet
  pub steps : List Turnstep

-- what is left of a session, with its numbers
abbrev pub row_of : Rest → List LinedCommand
row_of r = numbered r.number r.commands.now

abbrev pub stand_of : Round → Stand
stand_of r = record {
  left = map row_of r.rests.items;
  told = r.told.items;
  waiters = r.waiters.items;
  awake = r.awake;
  later = r.later;
  steps = r.steps.items;
}

-- what is left of a session, which is nothing where there is no such session
abbrev pub row_at : Stand → ℕ → List LinedCommand
row_at st at = get_or st.left at []

-- the sessions that wait for a mark
abbrev pub waiters_of : List SessionSet → ℕ → SessionSet
waiters_of waiters mark = get_or waiters mark (record { bits = 0 })

-- a command's mark has a place, and its number is small
pub record FitsAt (marks : ℕ) (t : LinedCommand) : Type 0 where
  pub mark : HasMarkBelow marks t.command
  pub number : t.line < 10000

-- there is a place for each mark, and numbers are small
pub record Fits (st : Stand) : Type 0 where
  pub same : length st.waiters ≡ length st.told
  pub rows : AllByRecursion (AllByRecursion (FitsAt (length st.told))) st.left

-- what falls with each command that is done, each round, and each session that is looked at
abbrev pub weight : Stand → ℕ
weight st = 5000 * total st.left + 65 * size st.later + size st.awake

-- The steps from here on: in this round those of the sessions from a number on, then those of so
-- many rounds.
abbrev pub to_come : ℕ → ℕ → List ℕ → List (List LinedCommand) → List Turnstep
to_come k from told ss =
    steps_in_round from told (drop from ss)
    ++ steps_by_rounds k (told_in_round told (drop from ss))
    (take from ss ++ left_in_round told (drop from ss))

-- the command hears a mark that isn't told yet, and the session is among those that wait for it
abbrev pub WaitsAt : List Bool → List SessionSet → ℕ → Command → Type 0
WaitsAt told waiters at (Hear mark name) =
    (get_or told mark false ≡ false) × (holds (waiters_of waiters mark) at ≡ true)
WaitsAt told waiters at _ = ⊥

-- nothing is left of a session, or it waits for a mark that isn't told yet
abbrev pub Waits : List Bool → List SessionSet → ℕ → List LinedCommand → Type 0
Waits told waiters at [] = Unit {0}
Waits told waiters at (t ∷ ts) = WaitsAt told waiters at t.command

abbrev pub WaitsIn : Stand → ℕ → Type 0
WaitsIn st at = Waits st.told st.waiters at (row_at st at)

-- The steps so far with those to come are the order of the rounds. In this round the sessions below
-- `from` have had their turn, and those below `late` needn't be looked at any more.
pub record Follows (css : List (List Command)) (from late : ℕ) (st : Stand) : Type 0 where
  pub told : List ℕ
  pub agrees : (m : ℕ) → is_among m told ≡ get_or st.told m false
  pub steps : (k : ℕ) → total st.left ≤ k
      → st.steps ++ to_come k from told st.left ≡ schedule_of css
  pub ahead : (n : ℕ) → n < late → holds st.awake n ≡ false
  pub here : (n : ℕ) → late ≤ n → (holds st.awake n ≡ true) ⊎ WaitsIn st n
  pub behind : (n : ℕ) → n < from → (holds st.later n ≡ true) ⊎ WaitsIn st n

-- nothing is done yet
pub record Begins (css : List (List Command)) (st : Stand) : Type 0 where
  pub fits : Fits st
  pub follows : Follows css 0 0 st
