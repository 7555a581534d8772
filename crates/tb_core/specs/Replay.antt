-- Events with numbers, and the number that the events before one say it has.
use Rattle.std.specs.Prelude.{◌≡◌, ℕ, ◌+◌, max, nat_eq, if◌then◌else◌, List, [], ◌∷◌, Option, Some, None, option_map, ⊤}
use Rattle.tb_core.specs.World.{IsNamed}
use Rattle.tb_core.specs.declared.event.Event.{Event}
use Rattle.tb_core.specs.declared.event.Event.TheVariants.{Change, Look, Tell, Hear}

-- an event with the number that it is said to have
pub record NumberedEvent : Type 0 where
  pub event : Event
  pub number : ℕ

abbrev pub session_of : Event → ℕ
session_of (Change session) = session
session_of (Look session) = session
session_of (Tell session mark) = session
session_of (Hear session mark) = session

-- one more where the event is a change
abbrev pub counted : Event → ℕ → ℕ
counted (Change session) n = n + 1
counted (Look session) n = n
counted (Tell session mark) n = n
counted (Hear session mark) n = n

-- the number where the event tells the mark
abbrev pub told_now : Event → ℕ → ℕ → Option ℕ → Option ℕ
told_now (Change session) number mark earlier = earlier
told_now (Look session) number mark earlier = earlier
told_now (Tell session told) number mark earlier = if nat_eq told mark then Some number else earlier
told_now (Hear session heard) number mark earlier = earlier

-- The next three ask of the events that have happened, the latest first.

-- how many of them are changes
abbrev pub changes : List NumberedEvent → ℕ
changes [] = 0
changes (x ∷ before) = counted x.event (changes before)

-- the last number of the session, or 0 where it has none
abbrev pub last_of : List NumberedEvent → ℕ → ℕ
last_of [] session = 0
last_of (x ∷ before) session =
    if nat_eq (session_of x.event) session then x.number else last_of before session

-- the front that the mark was told, or none
abbrev pub front_of : List NumberedEvent → ℕ → Option ℕ
front_of [] mark = None
front_of (x ∷ before) mark = told_now x.event x.number mark (front_of before mark)

-- the number of an event after these, or none where it hears a mark that nobody has told
abbrev pub number_after : List NumberedEvent → Event → Option ℕ
number_after before (Change session) = Some (changes before + 1)
number_after before (Look session) = Some (changes before)
number_after before (Tell session mark) = Some (last_of before session)
number_after before (Hear session mark) =
    option_map (λ front. max (last_of before session) front) (front_of before mark)

-- After the events `before`, the latest first, each event of a list, the oldest first, has the number
-- that those before it say; its session and its mark are below the counts.
abbrev pub AreTrue : ℕ → ℕ → List NumberedEvent → List NumberedEvent → Type 0
AreTrue sessions marks before [] = ⊤
AreTrue sessions marks before (x ∷ xs) =
    (number_after before x.event ≡ Some x.number) × IsNamed sessions marks x.event
    × AreTrue sessions marks (x ∷ before) xs
