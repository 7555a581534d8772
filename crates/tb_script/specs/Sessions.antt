-- The sessions of a script: each `session` line begins one, whose commands stand up to the next.
use Rattle.std.specs.Prelude.{ℕ, Bool, true, false, if◌then◌else◌, List, [], ◌∷◌, ◌++◌, Option, Some, None}
use Rattle.std.specs.Option.{option_map_or}
use Rattle.tb_tree.specs.NameTables.{place_of}
use Rattle.tb_script.specs.Faults.{or_else}
use Rattle.tb_script.specs.declared.entry.Said.{Said}
use Rattle.tb_script.specs.declared.entry.Said.TheVariants.{Session, Load, Query, Tell, Hear}
use Rattle.tb_script.specs.declared.entry.Entry.{Entry}
use Rattle.tb_script.specs.declared.lined_command.LinedCommand.{LinedCommand}
use Rattle.tb_script.specs.declared.command.Command.TheVariants as command
use Rattle.tb_script.specs.declared.fault.ScriptFault.{ScriptFault}
use Rattle.tb_script.specs.declared.fault.ScriptFault.TheVariants.{MarkUnknown}

-- the name that a line tells
abbrev pub told_by : Said → List (List ℕ)
told_by (Tell name) = name ∷ []
told_by _ = []

-- the names of the marks, in the order of their `tell` lines
abbrev pub marks_of : List Entry → List (List ℕ)
marks_of [] = []
marks_of (e ∷ es) = told_by e.said ++ marks_of es

-- the number of a mark: how far its name stands in that list
abbrev pub number_of : List (List ℕ) → List ℕ → ℕ
number_of marks name = option_map_or (λ n. n) (place_of name marks) 0

-- the command of a line, with the line's number
abbrev pub lined_of : List (List ℕ) → ℕ → Said → List LinedCommand
lined_of marks n (Load name lines closed) =
    record { line = n; command = command.Load name lines } ∷ []
lined_of marks n (Query text closed) =
    record { line = n; command = command.Query text } ∷ []
lined_of marks n (Tell name) =
    record { line = n; command = command.Tell (number_of marks name) name } ∷ []
lined_of marks n (Hear name) =
    record { line = n; command = command.Hear (number_of marks name) name } ∷ []
lined_of marks n _ = []

abbrev pub is_session : Said → Bool
is_session Session = true
is_session _ = false

-- the commands up to the next `session` line
abbrev pub prefix_turns : List (List ℕ) → List Entry → List LinedCommand
prefix_turns marks [] = []
prefix_turns marks (e ∷ es) =
    if is_session e.said then [] else lined_of marks e.line e.said ++ prefix_turns marks es

-- the sessions with their commands
abbrev pub sessions_in : List (List ℕ) → List Entry → List (List LinedCommand)
sessions_in marks [] = []
sessions_in marks (e ∷ es) =
    if is_session e.said then prefix_turns marks es ∷ sessions_in marks es else sessions_in marks es

-- the mark of a `hear` that no line tells
abbrev pub unknown_at : List (List ℕ) → ℕ → Said → Option ScriptFault
unknown_at marks n (Hear name) =
    option_map_or (λ k. None) (place_of name marks) (Some (MarkUnknown n))
unknown_at marks n _ = None

-- the first such line
abbrev pub unknown_mark : List (List ℕ) → List Entry → Option ScriptFault
unknown_mark marks [] = None
unknown_mark marks (e ∷ es) = or_else (unknown_at marks e.line e.said) (unknown_mark marks es)
