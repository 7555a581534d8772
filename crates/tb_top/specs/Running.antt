-- What the commands that are done leave: words of private clauses.
use Rattle.std.specs.Prelude.{◌≡◌, ℕ, ◌+◌, ◌<◌, ◌≤◌, Bool, true, false, List, [], ◌++◌, map, length, get_or, set, Some, IsSome, None, codes, decimal, ⊤}
use Rattle.std.specs.List.{flat_map, range_with_len}
use Rattle.tb_script.specs.declared.command.Command.{Command}
use Rattle.tb_script.specs.declared.command.Command.TheVariants as command
use Rattle.tb_script.specs.declared.command.Workload.{Workload}
use Rattle.tb_script.specs.declared.turnstep.Turnstep.{Turnstep}
use Rattle.tb_core.specs.World.{State, run, after_all, told_at}
use Rattle.tb_top.specs.History.{Change}
use Rattle.tb_top.specs.Kept.{changes_in}
use Rattle.tb_top.specs.Deeds.{Record, event_of, change_by, IsResult}
use Rattle.tb_top.specs.Single.{IsBuilt, world_of}
use Rattle.tb_top.specs.Transcript.{block_of, history_part}
use Rattle.tb_top.specs.declared.running.Running as running_code

-- the world of fronts, the changes so far, of how many sessions, and each session's part so far
pub record Progress : Type 0 where
  pub world : State
  pub changes : List Change
  pub sessions : ℕ
  pub parts : List (List ℕ)

abbrev pub progress_of : running_code.Running → Progress
progress_of r = record {
  world = r.world;
  changes = changes_in r.history;
  sessions = r.history.sessions;
  parts = map (λ part. part.items) r.parts.items;
}

-- what is left once a command came to this
abbrev pub behind : Progress → Turnstep → Command → Record → Progress
behind p step command result = record {
  world = after_all p.world (map (λ x. x.event) (event_of step.session command result));
  changes = p.changes ++ change_by p.changes step.session command result;
  sessions = p.sessions;
  parts = set p.parts step.session (get_or p.parts step.session [] ++ block_of (step.command + 1) command result);
}

-- a command that is built is done: the world answers its number, and it comes to what it may
pub record Does (step : Turnstep) (command : Command) (old new : Progress) : Type 0 where
  pub built : IsBuilt command
  pub result : Record
  pub numbers : run old.world (map (λ x. x.event) (event_of step.session command result)) ≡ map (λ x. Some x.number) (event_of step.session command result)
  pub may : IsResult old.changes command result
  pub left : new ≡ behind old step command result

-- a command is done, or it isn't built
abbrev pub Ends : Bool → Turnstep → Command → Progress → Progress → Type 0
Ends true step command old new = Does step command old new
Ends false step command old new = IsBuilt command → ⊥

-- the session is there, the world has its sessions and its changes, and room for 65,536 at most
pub record Stands (p : Progress) (step : Turnstep) : Type 0 where
  pub session : step.session < p.sessions
  pub seen : length p.world.seen ≡ p.sessions
  pub parts : length p.parts ≡ p.sessions
  pub changes : length p.world.history ≡ length p.changes
  pub room : p.world.room ≤ 65536

-- a load fits and has room, a mark is told once and before it is heard
abbrev pub IsReadyFor : State → Command → Type 0
IsReadyFor w (command.Load name lines) = (length lines ≤ 67108864) × (length w.history < w.room)
IsReadyFor w (command.Query text) = ⊤
IsReadyFor w (command.Tell mark name) = (mark < length w.told) × (told_at w mark ≡ None)
IsReadyFor w (command.Hear mark name) = (mark < length w.told) × IsSome (told_at w mark)

-- the part of a session, from 0, before its first block
abbrev pub begun : ℕ → List ℕ
begun session = codes "session " ++ decimal (session + 1) ++ codes "\n"

-- nothing is done
abbrev pub at_start : Workload → Progress
at_start w = record {
  world = world_of w;
  changes = [];
  sessions = length w.sessions.items;
  parts = map begun (range_with_len 0 (length w.sessions.items));
}

-- the parts with their ends, and the history
abbrev pub ended : Progress → List ℕ
ended p = flat_map (λ part. part ++ codes "end\n") p.parts ++ history_part p.changes

-- a line that ends with a number of changes: the command's number, a verb, a name, a word, that
-- number
abbrev pub named_line : ℕ → List ℕ → List ℕ → List ℕ → ℕ → List ℕ
named_line number verb name word front =
    decimal number ++ verb ++ name ++ word ++ decimal front ++ codes "\n"
