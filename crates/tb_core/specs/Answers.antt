-- Which of the answers are those of changes, and which those of one session.
use Rattle.std.specs.Prelude.{ℕ, ◌+◌, ◌≤◌, nat_eq, if◌then◌else◌, List, [], ◌∷◌, Option, Some, None, IfSome, length, ⊤}
use Rattle.tb_core.specs.World.{State, seen_by, told_at}
use Rattle.tb_core.specs.Replay.{session_of}
use Rattle.tb_core.specs.declared.event.Event.{Event}
use Rattle.tb_core.specs.declared.event.Event.TheVariants.{Change, Look, Tell, Hear}

-- how many of the events are changes
abbrev pub change_count : List Event → ℕ
change_count [] = 0
change_count (Change session ∷ es) = change_count es + 1
change_count (Look session ∷ es) = change_count es
change_count (Tell session mark ∷ es) = change_count es
change_count (Hear session mark ∷ es) = change_count es

-- the answers of the changes, in order
abbrev pub of_changes : List Event → List (Option ℕ) → List (Option ℕ)
of_changes [] os = []
of_changes (e ∷ es) [] = []
of_changes (Change session ∷ es) (o ∷ os) = o ∷ of_changes es os
of_changes (Look session ∷ es) (o ∷ os) = of_changes es os
of_changes (Tell session mark ∷ es) (o ∷ os) = of_changes es os
of_changes (Hear session mark ∷ es) (o ∷ os) = of_changes es os

-- the number before the others, where there is one
abbrev pub with_number : Option ℕ → List ℕ → List ℕ
with_number None ns = ns
with_number (Some n) ns = n ∷ ns

-- the numbers that the session was answered, in order
abbrev pub of_session : ℕ → List Event → List (Option ℕ) → List ℕ
of_session session [] os = []
of_session session (e ∷ es) [] = []
of_session session (e ∷ es) (o ∷ os) =
    if nat_eq (session_of e) session then with_number o (of_session session es os)
    else of_session session es os

-- no number is below the one before it, nor the first below this one
abbrev pub NeverFalls : ℕ → List ℕ → Type 0
NeverFalls low [] = ⊤
NeverFalls low (n ∷ ns) = (low ≤ n) × NeverFalls n ns

-- no number that a session has seen or a mark was told passes the length of the history
pub record IsBounded (w : State) : Type 0 where
  pub seen : (session : ℕ) → seen_by w session ≤ length w.history
  pub told : (mark : ℕ) → IfSome (told_at w mark) (λ front. front ≤ length w.history)
