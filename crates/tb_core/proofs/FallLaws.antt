-- A session's numbers never fall.
use Rattle.std.proofs.Common.{◌≡◌, ℕ, ◌≤◌, ◌⊎◌, inl, inr, max, nat_eq, List, [], ◌∷◌, length, refl, sym, subst, arith}
use Rattle.std.specs.Prelude.{Option, Some, None, MatchOption, option_map, if◌then◌else◌, ◌<◌, ◌+◌}
use Rattle.std.proofs.Math.Nat.{le-max_left}
use Rattle.std.proofs.lemmas.Bool.{cases_eq, eqb-true, eq-eqb, false_from_ne_true, cond-true, cond-false}
use Rattle.std.proofs.lemmas.List.{get_or-set_same, get_or-set_other}
use Rattle.tb_core.specs.World.{State, start, seen_by, told_at, with_seen, answer, after, run, IsNamed, AreAllowed}
use Rattle.tb_core.specs.Replay.{session_of}
use Rattle.tb_core.specs.Answers.{IsBounded, of_session, with_number, NeverFalls}
use Rattle.tb_core.specs.declared.event.Event.{Event}
use Rattle.tb_core.specs.declared.event.Event.TheVariants.{Change, Look, Tell, Hear}
use Rattle.tb_core.proofs.BoundLaws.{holds-replicate, bounded-start, bounded-after}

-- an answer is at least what was seen before, and is seen then; without one, what is seen stays
abbrev Rises : Option ℕ → ℕ → ℕ → Type 0
Rises o before now = MatchOption o (now ≡ before) (λ n. (before ≤ n) × (now ≡ n))

heard-rises : (w : State) (s : ℕ) (o : Option ℕ) → s < length w.seen
    → let n = option_map (λ front. max (seen_by w s) front) o in Rises n (seen_by w s) (seen_by (with_seen w s n) s)
heard-rises w s None less = refl
heard-rises w s (Some front) less = (le-max_left (seen_by w s) front, get_or-set_same w.seen s (max (seen_by w s) front) 0 less)

own-rises : (w : State) (e : Event) → IsBounded w → IsNamed (length w.seen) (length w.told) e
    → Rises (answer w e) (seen_by w (session_of e)) (seen_by (after w e) (session_of e))
own-rises w (Change s) h named = (omega (arith, h.seen s), get_or-set_same w.seen s (length w.history + 1) 0 named)
own-rises w (Look s) h named = (h.seen s, get_or-set_same w.seen s (length w.history) 0 named)
own-rises w (Tell s m) h named = (omega arith, refl)
own-rises w (Hear s m) h named = heard-rises w s (told_at w m) named.0

others-with_seen : (w : State) (s k : ℕ) (o : Option ℕ) → (s ≡ k → ⊥) → seen_by (with_seen w s o) k ≡ seen_by w k
others-with_seen w s k None other = refl
others-with_seen w s k (Some n) other = get_or-set_other w.seen s k n 0 (λ same. other (sym same))

others-stay : (w : State) (e : Event) (k : ℕ) → (session_of e ≡ k → ⊥) → seen_by (after w e) k ≡ seen_by w k
others-stay w (Change s) k other = get_or-set_other w.seen s k (length w.history + 1) 0 (λ same. other (sym same))
others-stay w (Look s) k other = get_or-set_other w.seen s k (length w.history) 0 (λ same. other (sym same))
others-stay w (Tell s m) k other = refl
others-stay w (Hear s m) k other = others-with_seen w s k (answer w (Hear s m)) other

falls-with_number : (o : Option ℕ) (before now : ℕ) (ns : List ℕ) → Rises o before now → NeverFalls now ns → NeverFalls before (with_number o ns)
falls-with_number None before now ns is rest = subst (λ k. NeverFalls k ns) is rest
falls-with_number (Some n) before now ns is rest = (is.0, subst (λ k. NeverFalls k ns) is.1 rest)

falls_more : (w : State) (e : Event) (s : ℕ) (ns : List ℕ) → IsBounded w → IsNamed (length w.seen) (length w.told) e → NeverFalls (seen_by (after w e) s) ns
    → NeverFalls (seen_by w s) (if nat_eq (session_of e) s then with_number (answer w e) ns else ns)
falls_more w e s ns h named rest = by (cases_eq (session_of e) s)
  where
    by : (session_of e ≡ s) ⊎ (session_of e ≡ s → ⊥) → NeverFalls (seen_by w s) (if nat_eq (session_of e) s then with_number (answer w e) ns else ns)
    by (inl same) =
        subst (λ ms. NeverFalls (seen_by w s) ms) (sym (cond-true (nat_eq (session_of e) s) (with_number (answer w e) ns) ns (eq-eqb (session_of e) s same)))
        (falls-with_number (answer w e) (seen_by w s) (seen_by (after w e) s) ns
        (subst (λ k. Rises (answer w e) (seen_by w k) (seen_by (after w e) k)) same (own-rises w e h named)) rest)
    by (inr other) =
        subst (λ ms. NeverFalls (seen_by w s) ms)
        (sym (cond-false (nat_eq (session_of e) s) (with_number (answer w e) ns) ns (false_from_ne_true (nat_eq (session_of e) s) (λ t. other (eqb-true (session_of e) s t)))))
        (subst (λ k. NeverFalls k ns) (others-stay w e s other) rest)

falls-from : (w : State) (es : List Event) (s : ℕ) → IsBounded w → AreAllowed w es → NeverFalls (seen_by w s) (of_session s es (run w es))
falls-from w [] s h allowed = tt
falls-from w (e ∷ es) s h allowed =
    falls_more w e s (of_session s es (run (after w e) es)) h allowed.0.0 (falls-from (after w e) es s (bounded-after w e h) allowed.1)

pub never_falls : (sessions marks room : ℕ) (es : List Event) (s : ℕ) → AreAllowed (start sessions marks room) es
    → NeverFalls 0 (of_session s es (run (start sessions marks room) es))
never_falls sessions marks room es s allowed =
    let w = start sessions marks room in
    subst (λ low. NeverFalls low (of_session s es (run w es))) (holds-replicate (λ n. n ≡ 0) sessions s 0 refl)
    (falls-from w es s (bounded-start sessions marks room) allowed)
