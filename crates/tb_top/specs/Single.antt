-- What `single` does with a script.
use Rattle.std.specs.Prelude.{◌≡◌, ℕ, List, map, length, Some, Ok}
use Rattle.std.specs.List.{AllByRecursion}
use Rattle.tb_script.specs.Runnable.{commands_in, loads_in}
use Rattle.tb_script.specs.Schedule.{schedule_of, command_at}
use Rattle.tb_script.specs.declared.command.Command.{Command}
use Rattle.tb_script.specs.declared.command.Command.TheVariants as command
use Rattle.tb_script.specs.declared.command.Workload.{Workload}
use Rattle.tb_script.specs.declared.turnstep.Turnstep.{Turnstep}
use Rattle.tb_core.specs.World.{State, start, run}
use Rattle.tb_flwor.specs.Calls.{Reads}
use Rattle.tb_query.specs.declared.query.Flwor as flwor
use Rattle.tb_query.specs.declared.query.Query.TheVariants.{Flwor}
use Rattle.tb_top.specs.Deeds.{Deed, IsResult, events_of, history_of}
use Rattle.tb_top.specs.Transcript.{transcript_of}

-- the session and the number of a command
abbrev pub step_of : Deed → Turnstep
step_of d = record { session = d.session; command = d.place }

-- the world of a script before its first command
abbrev pub world_of : Workload → State
world_of w = start (length w.sessions.items) w.marks (loads_in (commands_in w))

-- All commands are done, in the order of the rounds. Each event is answered its number by the world
-- of fronts, and each command comes to what it may over the whole history.
pub record IsRun (w : Workload) (ds : List Deed) : Type 0 where
  pub order : map step_of ds ≡ schedule_of (commands_in w)
  pub commands : AllByRecursion (λ d. command_at (commands_in w) (step_of d) ≡ Some d.command) ds
  pub numbers : run (world_of w) (map (λ x. x.event) (events_of ds)) ≡ map (λ x. Some x.number) (events_of ds)
  pub results : AllByRecursion (λ d. IsResult (history_of ds) d.command d.result) ds

-- a query, if the command is one, isn't a query of clauses
abbrev pub IsBuilt : Command → Type 0
IsBuilt (command.Query text) = (q : flwor.Flwor) → Reads text (Ok (Flwor q)) → ⊥
IsBuilt _ = Unit {0}

abbrev pub AreBuilt : Workload → Type 0
AreBuilt w = AllByRecursion (AllByRecursion IsBuilt) (commands_in w)

-- the text of a script's transcript
abbrev pub IsTranscript : Workload → List ℕ → Type 0
IsTranscript w text =
    (ds : List Deed) × IsRun w ds × (text ≡ transcript_of (length w.sessions.items) ds)
