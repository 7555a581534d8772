-- Small scripts and their first faults, and the order of small sessions.
use Rattle.std.proofs.Common.{◌≡◌, ℕ, Some, None, List, [], ◌∷◌, refl, codes}
use Rattle.tb_script.specs.declared.fault.ScriptFault.TheVariants as fault
use Rattle.tb_script.specs.declared.command.Command.{Command}
use Rattle.tb_script.specs.declared.command.Command.TheVariants.{Load, Query, Tell, Hear}
use Rattle.tb_script.specs.declared.turnstep.Turnstep.{Turnstep}
use Rattle.tb_script.specs.Calls.{script_fault}
use Rattle.tb_script.specs.Schedule.{schedule_of}

stuck_pair : script_fault (codes "session\nhear b\ntell a\nsession\nhear a\ntell b\n") ≡ Some (fault.MarkStuck 2)
stuck_pair = refl

unknown_mark_first : script_fault (codes "session\nhear b\ntell a\nsession\nhear a\n") ≡ Some (fault.MarkUnknown 2)
unknown_mark_first = refl

load_without_session : script_fault (codes "load x\n") ≡ Some (fault.NoSession 1)
load_without_session = refl

bogus : script_fault (codes "bogus") ≡ Some (fault.UnknownLine 1)
bogus = refl

open_query : script_fault (codes "session\nquery\nFOR\n") ≡ Some (fault.NotClosed 2)
open_query = refl

slash : script_fault (codes "session\nload a/b\n") ≡ Some (fault.BadName 2)
slash = refl

told_twice : script_fault (codes "session\r\ntell m\r\n\r\n# x\ntell m\r\n") ≡ Some (fault.MarkTwice 5)
told_twice = refl

no_fault : script_fault (codes "session\nhear a\n#\nsession\nload x\nsession\n.x\n#\n.\r\ntell a\nquery\n.") ≡ None
no_fault = refl

abbrev step : ℕ → ℕ → Turnstep
step session command = record { session = session; command = command }

-- the first session loads and tells, the second hears and queries
abbrev first_tells : List (List Command)
first_tells =
    (Load (codes "a") [] ∷ Tell 0 (codes "m") ∷ [])
    ∷ (Hear 0 (codes "m") ∷ Query (codes "q") ∷ []) ∷ []

-- In the second round the second session hears what the first tells in it.
heard_at_once : schedule_of first_tells ≡ step 0 0 ∷ step 0 1 ∷ step 1 0 ∷ step 1 1 ∷ []
heard_at_once = refl

-- the same sessions the other way round
abbrev second_tells : List (List Command)
second_tells =
    (Hear 0 (codes "m") ∷ Query (codes "q") ∷ [])
    ∷ (Load (codes "a") [] ∷ Tell 0 (codes "m") ∷ []) ∷ []

-- In the second round the first session has had its turn when the second tells.
heard_next : schedule_of second_tells ≡ step 1 0 ∷ step 1 1 ∷ step 0 0 ∷ step 0 1 ∷ []
heard_next = refl

-- Sessions that don't wait take turns.
in_turn : schedule_of ((Query [] ∷ Query [] ∷ []) ∷ (Query [] ∷ []) ∷ []) ≡ step 0 0 ∷ step 1 0 ∷ step 0 1 ∷ []
in_turn = refl
