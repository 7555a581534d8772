-- The rounds of commands. In a round each session, in order, does its next command, unless that is a
-- `hear` of a mark that isn't told yet; then it does nothing in this round.
use Rattle.std.specs.Prelude.{ℕ, zero, suc, ◌+◌, min, Bool, true, ◌==◌, if◌then◌else◌, List, [], ◌∷◌, Option, Some, None, length}
use Rattle.std.specs.List.{list_any}
use Rattle.tb_script.specs.declared.command.Command.{Command}
use Rattle.tb_script.specs.declared.command.Command.TheVariants.{Tell, Hear}
use Rattle.tb_script.specs.declared.lined_command.LinedCommand.{LinedCommand}

abbrev pub is_among : ℕ → List ℕ → Bool
is_among mark told = list_any (λ m. m == mark) told

-- whether a command can be done once these marks are told
abbrev pub can_go : List ℕ → Command → Bool
can_go told (Hear mark name) = is_among mark told
can_go told _ = true

-- the marks that are told once the command is done
abbrev pub once_done : List ℕ → Command → List ℕ
once_done told (Tell mark name) = mark ∷ told
once_done told _ = told

-- the marks that are told behind a session's turn
abbrev pub told_behind : List ℕ → List LinedCommand → List ℕ
told_behind told [] = told
told_behind told (t ∷ ts) = if can_go told t.command then once_done told t.command else told

-- the commands that a session's turn leaves
abbrev pub left_behind : List ℕ → List LinedCommand → List LinedCommand
left_behind told [] = []
left_behind told (t ∷ ts) = if can_go told t.command then ts else t ∷ ts

-- one round, from session to session
abbrev pub told_in_round : List ℕ → List (List LinedCommand) → List ℕ
told_in_round told [] = told
told_in_round told (s ∷ ss) = told_in_round (told_behind told s) ss

abbrev pub left_in_round : List ℕ → List (List LinedCommand) → List (List LinedCommand)
left_in_round told [] = []
left_in_round told (s ∷ ss) = left_behind told s ∷ left_in_round (told_behind told s) ss

-- how many commands there are
abbrev pub total : List (List LinedCommand) → ℕ
total [] = 0
total (s ∷ ss) = length s + total ss

-- what so many rounds leave of the sessions, where these marks are told
abbrev pub left_by_rounds : ℕ → List ℕ → List (List LinedCommand) → List (List LinedCommand)
left_by_rounds zero told ss = ss
left_by_rounds (suc k) told ss = left_by_rounds k (told_in_round told ss) (left_in_round told ss)

-- What all rounds leave. A round in which something is done does a command at least, so there are no
-- more such rounds than commands.
abbrev pub left_at_end : List (List LinedCommand) → List (List LinedCommand)
left_at_end ss = left_by_rounds (total ss) [] ss

-- commands with their numbers, the first of which is n
abbrev pub numbered : ℕ → List Command → List LinedCommand
numbered n [] = []
numbered n (c ∷ cs) = record { line = n; command = c } ∷ numbered (n + 1) cs

-- the lesser of a line and another, where there is another
abbrev pub lesser : ℕ → Option ℕ → Option ℕ
lesser n None = Some n
lesser n (Some m) = Some (min n m)

-- the least line at which a session stands that has commands left
abbrev pub least_line : List (List LinedCommand) → Option ℕ
least_line [] = None
least_line ([] ∷ ss) = least_line ss
least_line ((t ∷ ts) ∷ ss) = lesser t.line (least_line ss)

-- the line of a script whose sessions wait for each other
abbrev pub stuck_line : List (List LinedCommand) → Option ℕ
stuck_line ss = least_line (left_at_end ss)
