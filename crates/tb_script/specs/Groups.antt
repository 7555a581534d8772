-- Sessions as they are put together, command after command.
use Rattle.std.specs.Prelude.{◌≡◌, ◌⊎◌, ℕ, Bool, true, false, List, [], ◌∷◌, ◌++◌, Option, Some, None, Result, Ok, Err, map}
use Rattle.std.proofs.Common.{Vec, Global}
use Rattle.tb_script.specs.Sessions.{lined_of, prefix_turns, sessions_in, unknown_at, unknown_mark}
use Rattle.tb_script.specs.declared.entry.Entry.{Entry}
use Rattle.tb_script.specs.declared.lined_command.LinedCommand.{LinedCommand}
use Rattle.tb_script.specs.declared.fault.ScriptFault.{ScriptFault}
use Rattle.tb_script.specs.declared.fault.ScriptFault.TheVariants.{NoMemory}

-- the sessions that are done, and the one that is begun, where one is
abbrev pub ended : List (List LinedCommand) → Bool → List LinedCommand → List (List LinedCommand)
ended done true turns = done ++ turns ∷ []
ended done false turns = done

-- all sessions, where these entries follow
abbrev pub grouped : List (List ℕ) → List (List LinedCommand) → Bool → List LinedCommand → List Entry
    → List (List LinedCommand)
grouped names done begun turns es =
    ended done begun (turns ++ prefix_turns names es) ++ sessions_in names es

abbrev pub listed : List (Vec LinedCommand Global) → List (List LinedCommand)
listed sessions = map (λ s. s.items) sessions

-- the command of an entry, or none, or that it hears a mark that isn't told
abbrev pub TurnIs : List (List ℕ) → Entry → Result (Option LinedCommand) ScriptFault → Type 0
TurnIs names e (Ok (Some turn)) =
    (unknown_at names e.line e.said ≡ None) × (lined_of names e.line e.said ≡ turn ∷ [])
TurnIs names e (Ok None) =
    (unknown_at names e.line e.said ≡ None) × (lined_of names e.line e.said ≡ [])
TurnIs names e (Err f) = unknown_at names e.line e.said ≡ Some f

-- the sessions of the entries, or the first mark that isn't told
abbrev pub Groups : List (List ℕ) → List Entry
    → Result (Vec (Vec LinedCommand Global) Global) ScriptFault → Type 0
Groups names es (Ok sessions) =
    (unknown_mark names es ≡ None) × (listed sessions.items ≡ sessions_in names es)
Groups names es (Err f) = (f ≡ NoMemory) ⊎ (unknown_mark names es ≡ Some f)
