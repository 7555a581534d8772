-- The changes of a world answer 1, 2, 3 and on.
use Rattle.std.proofs.Common.{◌≡◌, ℕ, suc, ◌+◌, List, [], ◌∷◌, length, map, refl, ap, ap₂, ◌∙◌, arith}
use Rattle.std.specs.Prelude.{Option, Some, None}
use Rattle.std.specs.List.{range_with_len}
use Rattle.std.proofs.lemmas.List.{length-append}
use Rattle.tb_core.specs.World.{State, start, with_seen, answer, after, run}
use Rattle.tb_core.specs.Answers.{change_count, of_changes}
use Rattle.tb_core.specs.declared.event.Event.{Event}
use Rattle.tb_core.specs.declared.event.Event.TheVariants.{Change, Look, Tell, Hear}

pub history-with_seen : (w : State) (s : ℕ) (o : Option ℕ) → (with_seen w s o).history ≡ w.history
history-with_seen w s None = refl
history-with_seen w s (Some n) = refl

-- from a world with this many changes
count-from : (w : State) (es : List Event) (n : ℕ) → length w.history ≡ n → of_changes es (run w es) ≡ map (λ k. Some k) (range_with_len (n + 1) (change_count es))
count-from w [] n is = refl
count-from w (Change s ∷ es) n is =
    let one_more : change_count es + 1 ≡ suc (change_count es) = omega arith in
    rw (one_more) (ap₂ (λ o os. o ∷ os) (ap (λ k. Some (k + 1)) is) (count-from (after w (Change s)) es (n + 1) (length-append w.history (s ∷ []) ∙ ap (λ k. k + 1) is)))
count-from w (Look s ∷ es) n is = count-from (after w (Look s)) es n is
count-from w (Tell s m ∷ es) n is = count-from (after w (Tell s m)) es n is
count-from w (Hear s m ∷ es) n is = count-from (after w (Hear s m)) es n (ap length (history-with_seen w s (answer w (Hear s m))) ∙ is)

pub changes_count : (sessions marks room : ℕ) (es : List Event)
    → of_changes es (run (start sessions marks room) es) ≡ map (λ k. Some k) (range_with_len 1 (change_count es))
changes_count sessions marks room es = count-from (start sessions marks room) es 0 refl
