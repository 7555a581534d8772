-- The order in which the rounds do the commands, and what that order keeps.
use Rattle.std.specs.Prelude.{get_or, ◌≡◌, ℕ, zero, suc, ◌+◌, true, false, ◌==◌, if◌then◌else◌, List, [], ◌∷◌, ◌++◌, Option, map}
use Rattle.std.specs.List.{slice_get}
use Rattle.std.specs.Option.{option_to_list}
use Rattle.tb_script.specs.Rounds.{is_among, can_go, once_done, told_behind, told_in_round, left_in_round, total, numbered}
use Rattle.tb_script.specs.declared.command.Command.{Command}
use Rattle.tb_script.specs.declared.command.Command.TheVariants.{Tell, Hear}
use Rattle.tb_script.specs.declared.lined_command.LinedCommand.{LinedCommand}
use Rattle.tb_script.specs.declared.turnstep.Turnstep.{Turnstep}

-- The step of a session's turn, or none where its next command can't be done. What stands as a line here
-- is the command's number, from 0 (`numbered`).
abbrev pub steps_behind : ℕ → List ℕ → List LinedCommand → List Turnstep
steps_behind session told [] = []
steps_behind session told (t ∷ ts) =
    if can_go told t.command then record { session = session; command = t.line } ∷ [] else []

-- the steps of one round, from session to session, the first of which has this number
abbrev pub steps_in_round : ℕ → List ℕ → List (List LinedCommand) → List Turnstep
steps_in_round session told [] = []
steps_in_round session told (s ∷ ss) =
    steps_behind session told s ++ steps_in_round (session + 1) (told_behind told s) ss

-- the steps of so many rounds
abbrev pub steps_by_rounds : ℕ → List ℕ → List (List LinedCommand) → List Turnstep
steps_by_rounds zero told ss = []
steps_by_rounds (suc k) told ss =
    steps_in_round 0 told ss ++ steps_by_rounds k (told_in_round told ss) (left_in_round told ss)

-- The steps of all rounds: there are no more rounds in which something is done than commands.
abbrev pub schedule_of : List (List Command) → List Turnstep
schedule_of css = steps_by_rounds (total (map (numbered 0) css)) [] (map (numbered 0) css)

-- the command of a step, or none where there is none of these numbers
abbrev pub command_at : List (List Command) → Turnstep → Option Command
command_at css step = slice_get (get_or css step.session []) step.command

-- the commands of some steps
abbrev pub commands_of_steps : List (List Command) → List Turnstep → List Command
commands_of_steps css [] = []
commands_of_steps css (step ∷ steps) =
    option_to_list (command_at css step) ++ commands_of_steps css steps

-- the numbers of a session's commands, in the order of the steps
abbrev pub numbers_of : ℕ → List Turnstep → List ℕ
numbers_of session [] = []
numbers_of session (step ∷ steps) =
    if step.session == session then step.command ∷ numbers_of session steps
    else numbers_of session steps

-- where these marks are told, that of a `hear` is, and that of a `tell` isn't yet
abbrev pub MayGo : List ℕ → Command → Type 0
MayGo told (Hear mark name) = is_among mark told ≡ true
MayGo told (Tell mark name) = is_among mark told ≡ false
MayGo told _ = Unit {0}

-- each of the commands may go once those before it are done
abbrev pub GoOn : List ℕ → List Command → Type 0
GoOn told [] = Unit {0}
GoOn told (c ∷ cs) = MayGo told c × GoOn (once_done told c) cs
