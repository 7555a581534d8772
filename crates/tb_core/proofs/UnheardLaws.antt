-- There is no answer exactly where a mark is heard that nobody has told, and then nothing changes.
use Rattle.std.proofs.Common.{◌≡◌, ℕ, ◌+◌, max, length, refl, ap, subst}
use Rattle.std.specs.Prelude.{Option, Some, None, MatchOption, option_map, ⊤}
use Rattle.tb_core.specs.World.{State, seen_by, told_at, with_seen, answer, after, IsUnheard}
use Rattle.tb_core.specs.declared.event.Event.{Event}
use Rattle.tb_core.specs.declared.event.Event.TheVariants.{Change, Look, Tell, Hear}

some_is_none : (n : ℕ) → ◌≡◌ {A = Option ℕ} (Some n) None → ⊥
some_is_none n e = subst (λ (o : Option ℕ). MatchOption o ⊥ (λ _. ⊤)) e tt

unmapped : (f : ℕ → ℕ) (o : Option ℕ) → option_map f o ≡ None → o ≡ None
unmapped f None e = refl
unmapped f (Some n) e = absurd (some_is_none (f n) e)

pub none-unheard : (w : State) (e : Event) → answer w e ≡ None → IsUnheard w e
none-unheard w (Change s) e = some_is_none (length w.history + 1) e
none-unheard w (Look s) e = some_is_none (length w.history) e
none-unheard w (Tell s m) e = some_is_none (seen_by w s) e
none-unheard w (Hear s m) e = unmapped (λ front. max (seen_by w s) front) (told_at w m) e

pub unheard-none : (w : State) (e : Event) → IsUnheard w e → answer w e ≡ None
unheard-none w (Change s) h = absurd h
unheard-none w (Look s) h = absurd h
unheard-none w (Tell s m) h = absurd h
unheard-none w (Hear s m) h = ap (λ o. option_map (λ front. max (seen_by w s) front) o) h

pub unheard-stays : (w : State) (e : Event) → IsUnheard w e → after w e ≡ w
unheard-stays w (Change s) h = absurd h
unheard-stays w (Look s) h = absurd h
unheard-stays w (Tell s m) h = absurd h
unheard-stays w (Hear s m) h = ap (λ o. with_seen w s o) (unheard-none w (Hear s m) h)
