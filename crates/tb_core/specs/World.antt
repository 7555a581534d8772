-- The world of fronts as a state machine: what each event answers, and what it leaves.
use Rattle.std.specs.Prelude.{◌≡◌, ℕ, ◌+◌, ◌<◌, ◌≤◌, max, List, [], ◌∷◌, ◌++◌, length, get_or, set, replicate, Option, Some, None, option_map, ⊤}
use Rattle.tb_core.specs.declared.event.Event.{Event}
use Rattle.tb_core.specs.declared.event.Event.TheVariants.{Change, Look, Tell, Hear}

pub record State : Type 0 where
  -- the session of each change, the oldest first
  pub history : List ℕ
  -- for each session the number that it has seen
  pub seen : List ℕ
  -- for each mark the front that it was told, or none
  pub told : List (Option ℕ)
  -- how many changes there was memory for from the start, those made now among them
  pub room : ℕ

-- nothing has happened
abbrev pub start : ℕ → ℕ → ℕ → State
start sessions marks changes =
    record { history = []; seen = replicate sessions 0; told = replicate marks None; room = changes }

abbrev pub seen_by : State → ℕ → ℕ
seen_by w session = get_or w.seen session 0

abbrev pub told_at : State → ℕ → Option ℕ
told_at w mark = get_or w.told mark None

-- the number of an event; none where a mark is heard that nobody has told
abbrev pub answer : State → Event → Option ℕ
answer w (Change session) = Some (length w.history + 1)
answer w (Look session) = Some (length w.history)
answer w (Tell session mark) = Some (seen_by w session)
answer w (Hear session mark) = option_map (λ front. max (seen_by w session) front) (told_at w mark)

-- the session has then seen the number, where there is one
abbrev pub with_seen : State → ℕ → Option ℕ → State
with_seen w session None = w
with_seen w session (Some number) = record w { seen = set w.seen session number }

-- the state after an event
abbrev pub after : State → Event → State
after w (Change session) =
    with_seen (record w { history = w.history ++ session ∷ [] }) session (answer w (Change session))
after w (Look session) = with_seen w session (answer w (Look session))
after w (Tell session mark) = record w { told = set w.told mark (answer w (Tell session mark)) }
after w (Hear session mark) = with_seen w session (answer w (Hear session mark))

-- the event hears a mark that nobody has told
abbrev pub IsUnheard : State → Event → Type 0
IsUnheard w (Change session) = ⊥
IsUnheard w (Look session) = ⊥
IsUnheard w (Tell session mark) = ⊥
IsUnheard w (Hear session mark) = told_at w mark ≡ None

-- the answers of events, one after the other
abbrev pub run : State → List Event → List (Option ℕ)
run w [] = []
run w (e ∷ es) = answer w e ∷ run (after w e) es

-- the state after all of them
abbrev pub after_all : State → List Event → State
after_all w [] = w
after_all w (e ∷ es) = after_all (after w e) es

-- the session and the mark are below the counts
abbrev pub IsNamed : ℕ → ℕ → Event → Type 0
IsNamed sessions marks (Change session) = session < sessions
IsNamed sessions marks (Look session) = session < sessions
IsNamed sessions marks (Tell session mark) = (session < sessions) × (mark < marks)
IsNamed sessions marks (Hear session mark) = (session < sessions) × (mark < marks)

-- there is room for a change, and a mark is told once
abbrev pub IsFree : State → Event → Type 0
IsFree w (Change session) = length w.history < w.room
IsFree w (Look session) = ⊤
IsFree w (Tell session mark) = told_at w mark ≡ None
IsFree w (Hear session mark) = ⊤

-- the conditions of an event
abbrev pub IsAllowed : State → Event → Type 0
IsAllowed w e = IsNamed (length w.seen) (length w.told) e × IsFree w e

-- each event meets the conditions where it comes
abbrev pub AreAllowed : State → List Event → Type 0
AreAllowed w [] = ⊤
AreAllowed w (e ∷ es) = IsAllowed w e × AreAllowed (after w e) es

-- there is memory for the whole room, and the history lies within it
pub record IsReserved (len room capacity : ℕ) : Type 0 where
  pub within : len ≤ room
  pub reserved : room ≤ capacity
