-- The fault at a line, and the first one.
use Rattle.std.specs.Prelude.{ℕ, ◌+◌, not, nat_le, ◌==◌, if◌then◌else◌, List, [], ◌∷◌, ◌++◌, Option, Some, None}
use Rattle.std.specs.Option.{is_some}
use Rattle.tb_tree.specs.NameTables.{place_of}
use Rattle.tb_script.specs.Forms.{is_label}
use Rattle.tb_script.specs.declared.entry.Said.{Said}
use Rattle.tb_script.specs.declared.entry.Said.TheVariants.{Unknown, Session, Load, Query, Tell, Hear}
use Rattle.tb_script.specs.declared.entry.Entry.{Entry}
use Rattle.tb_script.specs.declared.fault.ScriptFault.{ScriptFault}
use Rattle.tb_script.specs.declared.fault.ScriptFault.TheVariants as fault

-- What the earlier lines leave: how many sessions, how many commands of the last one, how many
-- loads, and the marks that are told, in order.
pub record Counts : Type 0 where
  pub sessions : ℕ
  pub commands : ℕ
  pub loads : ℕ
  pub told : List (List ℕ)

abbrev pub at_start : Counts
at_start = record { sessions = 0; commands = 0; loads = 0; told = [] }

-- the tests at line n, in their order
abbrev pub fault_of : Counts → ℕ → Said → Option ScriptFault
fault_of t n Unknown = Some (fault.UnknownLine n)
fault_of t n Session = if nat_le 64 t.sessions then Some (fault.TooManySessions n) else None
fault_of t n (Load name lines closed) =
    if t.sessions == 0 then Some (fault.NoSession n)
    else (if not (is_label name) then Some (fault.BadName n)
    else (if nat_le 10000 t.commands then Some (fault.TooManyCommands n)
    else (if nat_le 65536 t.loads then Some (fault.TooManyChanges n)
    else (if not closed then Some (fault.NotClosed n) else None))))
fault_of t n (Query text closed) =
    if t.sessions == 0 then Some (fault.NoSession n)
    else (if nat_le 10000 t.commands then Some (fault.TooManyCommands n)
    else (if not closed then Some (fault.NotClosed n) else None))
fault_of t n (Tell name) =
    if t.sessions == 0 then Some (fault.NoSession n)
    else (if not (is_label name) then Some (fault.BadName n)
    else (if is_some (place_of name t.told) then Some (fault.MarkTwice n)
    else (if nat_le 10000 t.commands then Some (fault.TooManyCommands n) else None)))
fault_of t n (Hear name) =
    if t.sessions == 0 then Some (fault.NoSession n)
    else (if not (is_label name) then Some (fault.BadName n)
    else (if nat_le 10000 t.commands then Some (fault.TooManyCommands n) else None))

-- what the lines leave with this one
abbrev pub and_then : Counts → Said → Counts
and_then t Unknown = t
and_then t Session =
    record { sessions = t.sessions + 1; commands = 0; loads = t.loads; told = t.told }
and_then t (Load name lines closed) =
    record { sessions = t.sessions; commands = t.commands + 1; loads = t.loads + 1; told = t.told }
and_then t (Query text closed) =
    record { sessions = t.sessions; commands = t.commands + 1; loads = t.loads; told = t.told }
and_then t (Tell name) =
    record {
      sessions = t.sessions;
      commands = t.commands + 1;
      loads = t.loads;
      told = t.told ++ name ∷ [];
    }
and_then t (Hear name) =
    record { sessions = t.sessions; commands = t.commands + 1; loads = t.loads; told = t.told }

-- the first option, and where it is none the second
abbrev pub or_else : {A : Type 0} → Option A → Option A → Option A
or_else None second = second
or_else (Some found) second = Some found

-- the fault of the first line that has one
abbrev pub first_fault : Counts → List Entry → Option ScriptFault
first_fault t [] = None
first_fault t (e ∷ es) = or_else (fault_of t e.line e.said) (first_fault (and_then t e.said) es)
