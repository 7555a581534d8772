-- Two sessions and one mark, computed.
use Rattle.std.proofs.Common.{◌≡◌, ℕ, List, [], ◌∷◌, map, refl, arith}
use Rattle.std.specs.Prelude.{Some, None}
use Rattle.tb_core.specs.World.{start, run, AreAllowed}
use Rattle.tb_core.specs.Replay.{NumberedEvent, AreTrue}
use Rattle.tb_core.specs.declared.event.Event.{Event}
use Rattle.tb_core.specs.declared.event.Event.TheVariants.{Change, Look, Tell, Hear}

abbrev numbered : Event → ℕ → NumberedEvent
numbered e n = record { event = e; number = n }

abbrev row : List NumberedEvent
row = numbered (Change 0) 1 ∷ numbered (Tell 0 0) 1 ∷ numbered (Hear 1 0) 1 ∷ numbered (Look 1) 1 ∷ []

row-true : AreTrue 2 1 [] row
row-true = (refl, omega arith, (refl, (omega arith, omega arith), (refl, (omega arith, omega arith), (refl, omega arith, tt))))

row-allowed : AreAllowed (start 2 1 1) (map (λ x. x.event) row)
row-allowed = ((omega arith, omega arith), (((omega arith, omega arith), refl), (((omega arith, omega arith), tt), ((omega arith, tt), tt))))

row-answers : run (start 2 1 1) (Hear 1 0 ∷ map (λ x. x.event) row) ≡ None ∷ Some 1 ∷ Some 1 ∷ Some 1 ∷ Some 1 ∷ []
row-answers = refl
