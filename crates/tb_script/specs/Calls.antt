-- What the call answers.
use Rattle.std.specs.Prelude.{◌≡◌, ◌⊎◌, ℕ, nat_lt, if◌then◌else◌, List, Option, Some, None, Result, Ok, Err, length, map}
use Rattle.std.specs.Option.{option_map}
use Rattle.tb_script.specs.Entries.{entries_of}
use Rattle.tb_script.specs.Faults.{at_start, first_fault, or_else}
use Rattle.tb_script.specs.Sessions.{marks_of, sessions_in, unknown_mark}
use Rattle.tb_script.specs.Runnable.{commands_in}
use Rattle.tb_script.specs.Rounds.{stuck_line}
use Rattle.tb_script.specs.declared.entry.Entry.{Entry}
use Rattle.tb_script.specs.declared.lined_command.LinedCommand.{LinedCommand}
use Rattle.tb_script.specs.declared.command.Workload.{Workload}
use Rattle.tb_script.specs.declared.fault.ScriptFault.{ScriptFault}
use Rattle.tb_script.specs.declared.fault.ScriptFault.TheVariants.{InputTooLong, MarkStuck, NoMemory}

-- the sessions of a script, each command with its line
abbrev pub sessions_of : List Entry → List (List LinedCommand)
sessions_of es = sessions_in (marks_of es) es

-- the first fault of the lines: that of a line, then a mark that no line tells, then sessions that
-- stand
abbrev pub fault_among : List Entry → Option ScriptFault
fault_among es =
    or_else (first_fault at_start es)
    (or_else (unknown_mark (marks_of es) es) (option_map MarkStuck (stuck_line (sessions_of es))))

-- the first fault of a script, or none where it is a workload
abbrev pub script_fault : List ℕ → Option ScriptFault
script_fault bytes =
    if nat_lt 67108864 (length bytes) then Some InputTooLong else fault_among (entries_of bytes)

-- the workload that the bytes are read as
pub record IsReadAs (bytes : List ℕ) (w : Workload) : Type 0 where
  pub sound : script_fault bytes ≡ None
  pub commands : commands_in w ≡ map (map (λ t. t.command)) (sessions_of (entries_of bytes))
  pub marks : w.marks ≡ length (marks_of (entries_of bytes))

-- the workload, or the first fault; memory may be wanting at any time
abbrev pub Reads : List ℕ → Result Workload ScriptFault → Type 0
Reads bytes (Ok w) = IsReadAs bytes w
Reads bytes (Err f) = (f ≡ NoMemory) ⊎ (script_fault bytes ≡ Some f)
