-- The world answers what the events before each event say.
use Rattle.std.proofs.Common.{◌≡◌, ℕ, ◌+◌, ◌<◌, ◌⊎◌, inl, inr, max, nat_eq, List, [], ◌∷◌, ◌++◌, length, get_or, set, map, refl, sym, ap, ap₂, ◌∙◌, subst, arith}
use Rattle.std.specs.Prelude.{Some, None, option_map, unwrap_or, if◌then◌else◌}
use Rattle.std.proofs.lemmas.Bool.{cases_eq, eqb-true, eq-eqb, false_from_ne_true, cond-true, cond-false}
use Rattle.std.proofs.lemmas.List.{length-set, length-append, length-replicate, get_or-replicate, get_or-set_same, get_or-set_other}
use Rattle.tb_core.specs.World.{State, start, seen_by, told_at, with_seen, answer, after, run, IsNamed}
use Rattle.tb_core.specs.Replay.{NumberedEvent, changes, last_of, front_of, number_after, AreTrue}
use Rattle.tb_core.specs.declared.event.Event.{Event}
use Rattle.tb_core.specs.declared.event.Event.TheVariants.{Change, Look, Tell, Hear}

-- the state is what the events so far say, the latest first
pub record Agrees (sessions marks : ℕ) (before : List NumberedEvent) (w : State) : Type 0 where
  pub sessions_are : length w.seen ≡ sessions
  pub marks_are : length w.told ≡ marks
  pub history : length w.history ≡ changes before
  pub seen : (s : ℕ) → s < sessions → seen_by w s ≡ last_of before s
  pub told : (m : ℕ) → m < marks → told_at w m ≡ front_of before m

agrees-start : (sessions marks room : ℕ) → Agrees sessions marks [] (start sessions marks room)
agrees-start sessions marks room = record {
  sessions_are = length-replicate sessions 0;
  marks_are = length-replicate marks None;
  history = refl;
  seen = λ s less. get_or-replicate sessions s 0 0 less;
  told = λ m less. get_or-replicate marks m None None less;
}

-- the answer is what the events before say
answer-is : (sessions marks : ℕ) (before : List NumberedEvent) (w : State) (e : Event) → Agrees sessions marks before w → IsNamed sessions marks e → answer w e ≡ number_after before e
answer-is sessions marks before w (Change s) h named = ap (λ n. Some (n + 1)) h.history
answer-is sessions marks before w (Look s) h named = ap Some h.history
answer-is sessions marks before w (Tell s m) h named = ap Some (h.seen s named.0)
answer-is sessions marks before w (Hear s m) h named = ap₂ (λ n o. option_map (λ front. max n front) o) (h.seen s named.0) (h.told m named.1)

-- a place that is written, and the others
written : {X : Type 0} (xs : List X) (n : ℕ) (at k : ℕ) (x d now : X) → length xs ≡ n → at < n → get_or xs k d ≡ now → get_or (set xs at x) k d ≡ (if nat_eq at k then x else now)
written xs n at k x d now len less is = by (cases_eq at k)
  where
    by : (at ≡ k) ⊎ (at ≡ k → ⊥) → get_or (set xs at x) k d ≡ (if nat_eq at k then x else now)
    by (inl same) = subst (λ j. get_or (set xs at x) j d ≡ x) same (get_or-set_same xs at x d (omega (arith, len, less))) ∙ sym (cond-true (nat_eq at k) x now (eq-eqb at k same))
    by (inr other) = get_or-set_other xs at k x d (λ e. other (sym e)) ∙ is ∙ sym (cond-false (nat_eq at k) x now (false_from_ne_true (nat_eq at k) (λ t. other (eqb-true at k t))))

now_seen : (before : List NumberedEvent) (w : State) (e : Event) (s n : ℕ) (sessions marks : ℕ) → Agrees sessions marks before w → s < sessions
    → (k : ℕ) → k < sessions → get_or (set w.seen s n) k 0 ≡ (if nat_eq s k then n else last_of before k)
now_seen before w e s n sessions marks h named k less = written w.seen sessions s k n 0 (last_of before k) h.sessions_are named (h.seen k less)

still_seen : (seen n s k earlier : ℕ) → (s ≡ k → seen ≡ n) → seen ≡ earlier → seen ≡ (if nat_eq s k then n else earlier)
still_seen seen n s k earlier mine is = by (cases_eq s k)
  where
    by : (s ≡ k) ⊎ (s ≡ k → ⊥) → seen ≡ (if nat_eq s k then n else earlier)
    by (inl same) = mine same ∙ sym (cond-true (nat_eq s k) n earlier (eq-eqb s k same))
    by (inr other) = is ∙ sym (cond-false (nat_eq s k) n earlier (false_from_ne_true (nat_eq s k) (λ t. other (eqb-true s k t))))

agrees-after : (sessions marks : ℕ) (before : List NumberedEvent) (w : State) (e : Event) (n : ℕ) → Agrees sessions marks before w → IsNamed sessions marks e → answer w e ≡ Some n
    → Agrees sessions marks (record { event = e; number = n } ∷ before) (after w e)
agrees-after sessions marks before w (Change s) n h named is =
    subst (λ o. Agrees sessions marks (record { event = Change s; number = n } ∷ before) (with_seen (record w { history = w.history ++ s ∷ [] }) s o)) (sym is) (record {
      sessions_are = length-set w.seen s n ∙ h.sessions_are;
      marks_are = h.marks_are;
      history = length-append w.history (s ∷ []) ∙ ap (λ k. k + 1) h.history;
      seen = now_seen before w (Change s) s n sessions marks h named;
      told = h.told;
    })
agrees-after sessions marks before w (Look s) n h named is =
    subst (λ o. Agrees sessions marks (record { event = Look s; number = n } ∷ before) (with_seen w s o)) (sym is) (record {
      sessions_are = length-set w.seen s n ∙ h.sessions_are;
      marks_are = h.marks_are;
      history = h.history;
      seen = now_seen before w (Look s) s n sessions marks h named;
      told = h.told;
    })
agrees-after sessions marks before w (Tell s m) n h named is =
    subst (λ o. Agrees sessions marks (record { event = Tell s m; number = n } ∷ before) (record w { told = set w.told m o })) (sym is) (record {
      sessions_are = h.sessions_are;
      marks_are = length-set w.told m (Some n) ∙ h.marks_are;
      history = h.history;
      seen = λ k less. still_seen (seen_by w k) n s k (last_of before k) (λ same. ap (λ j. seen_by w j) (sym same) ∙ ap (λ o. unwrap_or o 0) is) (h.seen k less);
      told = λ k less. written w.told marks m k (Some n) None (front_of before k) h.marks_are named.1 (h.told k less);
    })
agrees-after sessions marks before w (Hear s m) n h named is =
    subst (λ o. Agrees sessions marks (record { event = Hear s m; number = n } ∷ before) (with_seen w s o)) (sym is) (record {
      sessions_are = length-set w.seen s n ∙ h.sessions_are;
      marks_are = h.marks_are;
      history = h.history;
      seen = now_seen before w (Hear s m) s n sessions marks h named.0;
      told = h.told;
    })

run-agrees : (sessions marks : ℕ) (before : List NumberedEvent) (w : State) (xs : List NumberedEvent) → Agrees sessions marks before w → AreTrue sessions marks before xs
    → run w (map (λ x. x.event) xs) ≡ map (λ x. Some x.number) xs
run-agrees sessions marks before w [] h true_all = refl
run-agrees sessions marks before w (x ∷ xs) h true_all =
    let is : answer w x.event ≡ Some x.number = answer-is sessions marks before w x.event h true_all.1 ∙ true_all.0 in
    ap₂ (λ o os. o ∷ os) is (run-agrees sessions marks (x ∷ before) (after w x.event) xs (agrees-after sessions marks before w x.event x.number h true_all.1 is) true_all.2)

-- Where each number is what the events before say, the world answers each number.
pub replay : (sessions marks room : ℕ) (xs : List NumberedEvent) → AreTrue sessions marks [] xs
    → run (start sessions marks room) (map (λ x. x.event) xs) ≡ map (λ x. Some x.number) xs
replay sessions marks room xs true_all = run-agrees sessions marks [] (start sessions marks room) xs (agrees-start sessions marks room) true_all
