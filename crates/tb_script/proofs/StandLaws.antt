-- A session that is passed by can't go on, so the steps taken are those of the rounds.
use Rattle.std.proofs.Common.{◌≡◌, ◌⊎◌, inl, inr, ℕ, zero, suc, ◌+◌, ◌-◌, ◌<◌, ◌≤◌, ◌==◌, ◌&&◌, not, nat_lt, Bool, true, false, Option, Some, None, List, [], ◌∷◌, ◌++◌, length, get_or, set, refl, sym, ap, ◌∙◌, subst, arith, add-one, append_assoc, append-nil, eqb-true}
use Rattle.std.proofs.lemmas.Bool.{false≢true, ltb-true, ltb-false, eqb-false}
use Rattle.std.proofs.lemmas.List.{get_or-set_other}
use Rattle.tb_script.specs.Rounds.{is_among, can_go, once_done, total}
use Rattle.tb_script.specs.Schedule.{schedule_of}
use Rattle.tb_script.specs.Sets.{holds, TakesFirst}
use Rattle.tb_script.specs.Stands.{Stand, row_at, waiters_of, to_come, WaitsAt, Waits, WaitsIn, Follows}
use Rattle.tb_script.specs.Visits.{Chooses}
use Rattle.tb_script.specs.declared.command.Command.{Command}
use Rattle.tb_script.specs.declared.command.Command.TheVariants.{Load, Query, Tell, Hear}
use Rattle.tb_script.specs.declared.session_set.SessionSet.{SessionSet}
use Rattle.tb_script.specs.declared.lined_command.LinedCommand.{LinedCommand}
use Rattle.tb_script.specs.declared.turnstep.Turnstep.{Turnstep}
use Rattle.tb_script.proofs.SetLaws.{size-less, size-none}
use Rattle.tb_script.proofs.StepLaws.{row-within}
use Rattle.tb_script.proofs.WalkLaws.{apart, total-at, still-from}
use Rattle.tb_script.proofs.ComeLaws.{CantGo, come-enough, come-skip, come-next, come-round, come-none}

-- a session that waits can't go on
waits-cant : (told : List ℕ) (bits : List Bool) (waiters : List SessionSet) (n : ℕ) (s : List LinedCommand) → ((m : ℕ) → is_among m told ≡ get_or bits m false) → Waits bits waiters n s → CantGo told s
waits-cant told bits waiters n [] agrees w = tt
waits-cant told bits waiters n (t ∷ ts) agrees w = by t.command w
  where
    by : (c : Command) → WaitsAt bits waiters n c → can_go told c ≡ false
    by (Hear m name) w = agrees m ∙ w.0
    by (Tell m name) w = absurd w
    by (Load name lines) w = absurd w
    by (Query text) w = absurd w

-- some sessions in a row that can't go on are passed
come-skips : (d k from : ℕ) (told : List ℕ) (ss : List (List LinedCommand)) → ((n : ℕ) → from ≤ n → n < from + d → CantGo told (get_or ss n [])) → to_come k from told ss ≡ to_come k (from + d) told ss
come-skips zero k from told ss cant = let e : from ≡ from + zero = omega arith in ap (λ n. to_come k n told ss) e
come-skips (suc d) k from told ss cant =
    let e : suc from + d ≡ from + suc d = omega arith in
    come-skip k from told ss (cant from (omega arith) (omega arith))
    ∙ come-skips d k (suc from) told ss (λ n above below. cant n (omega (arith, above)) (omega (arith, below)))
    ∙ ap (λ n. to_come k n told ss) e

-- sessions that aren't to be looked at in this round are passed
follows-skip : (css : List (List Command)) (from at k : ℕ) (st : Stand) → (f : Follows css from from st) → from ≤ at → ((n : ℕ) → from ≤ n → n < at → holds st.awake n ≡ false)
    → to_come k from f.told st.left ≡ to_come k at f.told st.left
follows-skip css from at k st f above none =
    let e : from + (at - from) ≡ at = omega (arith, above) in
    come-skips (at - from) k from f.told st.left (λ n over under. cant n over (none n over (omega (arith, under, above))) (f.here n over))
    ∙ ap (λ n. to_come k n f.told st.left) e
  where
    cant : (n : ℕ) → from ≤ n → holds st.awake n ≡ false → (holds st.awake n ≡ true) ⊎ WaitsIn st n → CantGo f.told (row_at st n)
    cant n over not (inl e) = absurd (false≢true (sym not ∙ e))
    cant n over not (inr w) = waits-cant f.told st.told st.waiters n (row_at st n) f.agrees w

abbrev pub with_awake : Stand → SessionSet → SessionSet → Stand
with_awake st awake later =
    record { left = st.left; told = st.told; waiters = st.waiters; awake = awake; later = later; steps = st.steps }

-- The first of this round is chosen.
pub first-chosen : (css : List (List Command)) (from at : ℕ) (st : Stand) (rest : SessionSet) → TakesFirst st.awake rest (Some at) → Follows css from from st → Follows css at (at + 1) (with_awake st rest st.later)
first-chosen css from at st rest first f = record {
  told = f.told;
  agrees = f.agrees;
  steps = λ k few. ap (λ xs. st.steps ++ xs) (sym (follows-skip css from at k st f above (λ n over under. first.2 n under))) ∙ f.steps k few;
  ahead = λ n below. none n below (at == n) refl;
  here = λ n over. kept n over (f.here n (omega (arith, above, over)));
  behind = λ n below. past n below (nat_lt n from) refl;
}
  where
    above : from ≤ at
    above = by (nat_lt at from) refl
      where
        by : (b : Bool) → nat_lt at from ≡ b → from ≤ at
        by true e = absurd (false≢true (sym (f.ahead at (ltb-true at from e)) ∙ first.1))
        by false e = ltb-false at from e

    and-false : (b : Bool) → (b && false) ≡ false
    and-false true = refl
    and-false false = refl

    none : (n : ℕ) → n < at + 1 → (b : Bool) → (at == n) ≡ b → holds rest n ≡ false
    none n below true e = first.3 n ∙ rw e (and-false (holds st.awake n))
    none n below false e =
        let differ = eqb-false at n e in
        first.3 n ∙ ap (λ b. b && not (at == n)) (first.2 n (omega (arith, below, differ)))

    kept : (n : ℕ) → at + 1 ≤ n → (holds st.awake n ≡ true) ⊎ WaitsIn st n → (holds rest n ≡ true) ⊎ WaitsIn st n
    kept n over (inl e) = inl (first.3 n ∙ ap (λ b. b && not (at == n)) e ∙ by (at == n) refl)
      where
        by : (b : Bool) → (at == n) ≡ b → not b ≡ true
        by true g = absurd (omega (arith, over, eqb-true at n g))
        by false g = refl
    kept n over (inr w) = inr w

    past : (n : ℕ) → n < at → (b : Bool) → nat_lt n from ≡ b → (holds st.later n ≡ true) ⊎ WaitsIn st n
    past n below true e = f.behind n (ltb-true n from e)
    past n below false e = by (f.here n (ltb-false n from e))
      where
        by : (holds st.awake n ≡ true) ⊎ WaitsIn st n → (holds st.later n ≡ true) ⊎ WaitsIn st n
        by (inl g) = absurd (false≢true (sym (first.2 n below) ∙ g))
        by (inr w) = inr w

-- Where nobody of this round is left, the next begins.
pub next-round : (css : List (List Command)) (from : ℕ) (st : Stand) (none : SessionSet) → ((n : ℕ) → holds st.awake n ≡ false) → Follows css from from st → Follows css 0 0 (with_awake st st.later none)
next-round css from st none empty f = record {
  told = f.told;
  agrees = f.agrees;
  steps = λ k few.
      ap (λ xs. st.steps ++ xs)
      (sym (come-round k (from + length st.left) f.told st.left (omega arith))
      ∙ sym (follows-skip css from (from + length st.left) (suc k) st f (omega arith) (λ n over under. empty n)))
      ∙ f.steps (suc k) (omega (arith, few));
  ahead = λ n below. absurd (omega (arith, below));
  here = λ n over. by n (nat_lt n from) refl;
  behind = λ n below. absurd (omega (arith, below));
}
  where
    quiet : (n : ℕ) → (holds st.awake n ≡ true) ⊎ WaitsIn st n → (holds st.later n ≡ true) ⊎ WaitsIn st n
    quiet n (inl e) = absurd (false≢true (sym (empty n) ∙ e))
    quiet n (inr w) = inr w

    by : (n : ℕ) (b : Bool) → nat_lt n from ≡ b → (holds st.later n ≡ true) ⊎ WaitsIn st n
    by n true e = f.behind n (ltb-true n from e)
    by n false e = quiet n (f.here n (ltb-false n from e))

-- Where nobody is left of a round that begins, all steps are done.
pub all-done : (css : List (List Command)) (st : Stand) → ((n : ℕ) → holds st.awake n ≡ false) → Follows css 0 0 st → st.steps ≡ schedule_of css
all-done css st empty f =
    sym (append-nil st.steps)
    ∙ ap (λ xs. st.steps ++ xs) (sym (come-none (total st.left) f.told st.left (still-from f.told st.left (λ at t ts row. by at t ts row (f.here at (omega arith))))))
    ∙ f.steps (total st.left) (omega arith)
  where
    by : (at : ℕ) (t : LinedCommand) (ts : List LinedCommand) → get_or st.left at [] ≡ t ∷ ts → (holds st.awake at ≡ true) ⊎ WaitsIn st at → can_go f.told t.command ≡ false
    by at t ts row (inl e) = absurd (false≢true (sym (empty at) ∙ e))
    by at t ts row (inr w) = subst (CantGo f.told) row (waits-cant f.told st.told st.waiters at (row_at st at) f.agrees w)

-- a session's command is done
abbrev pub with_done : Stand → ℕ → LinedCommand → List LinedCommand → List Bool → SessionSet → SessionSet → Stand
with_done st at t ts told awake later =
    record {
      left = set st.left at ts;
      told = told;
      waiters = st.waiters;
      awake = awake;
      later = later;
      steps = st.steps ++ record { session = at; command = t.line } ∷ [];
    }

-- whom a command that is done lets go on: those of higher numbers in this round, all others in the next
pub record GoesOn (at : ℕ) (st : Stand) (c : Command) (bits : List Bool) (awake later : SessionSet) : Type 0 where
  pub can : (told : List ℕ) → ((m : ℕ) → is_among m told ≡ get_or st.told m false) → can_go told c ≡ true
  pub agrees : (told : List ℕ) → ((m : ℕ) → is_among m told ≡ get_or st.told m false) → (m : ℕ) → is_among m (once_done told c) ≡ get_or bits m false
  pub ahead : (n : ℕ) → n < at + 1 → holds st.awake n ≡ false → holds awake n ≡ false
  pub still : (n : ℕ) → holds st.awake n ≡ true → holds awake n ≡ true
  pub more : (n : ℕ) → holds st.later n ≡ true → holds later n ≡ true
  pub own : holds later at ≡ true
  pub wakes : (n : ℕ) (s : List LinedCommand) → Waits st.told st.waiters n s → Waits bits st.waiters n s ⊎ ((at < n → holds awake n ≡ true) × (holds later n ≡ true))

pub done-follows : (css : List (List Command)) (at : ℕ) (st : Stand) (t : LinedCommand) (ts : List LinedCommand) (bits : List Bool) (awake later : SessionSet) → row_at st at ≡ t ∷ ts → GoesOn at st t.command bits awake later
    → Follows css at (at + 1) st → Follows css (at + 1) (at + 1) (with_done st at t ts bits awake later)
done-follows css at st t ts bits awake later row g f = record {
  told = once_done f.told t.command;
  agrees = g.agrees f.told f.agrees;
  steps = λ k few. steps k few;
  ahead = λ n below. g.ahead n below (f.ahead n below);
  here = λ n over. here n over (f.here n over);
  behind = λ n below. behind n below (at == n) refl;
}
  where
    step : Turnstep
    step = record { session = at; command = t.line }

    more : List ℕ
    more = once_done f.told t.command

    rest : List (List LinedCommand)
    rest = set st.left at ts

    steps : (k : ℕ) → total rest ≤ k → (st.steps ++ step ∷ []) ++ to_come k (at + 1) more rest ≡ schedule_of css
    steps k few =
        append_assoc st.steps (step ∷ []) (to_come k (at + 1) more rest)
        ∙ ap (λ n. st.steps ++ step ∷ to_come k n more rest) (add-one at)
        ∙ ap (λ xs. st.steps ++ step ∷ xs) (sym (come-enough k (suc at) more rest few))
        ∙ ap (λ xs. st.steps ++ xs) (sym (come-next (suc k) at f.told st.left t ts row (g.can f.told f.agrees)))
        ∙ f.steps (suc k) (omega (arith, few, total-at st.left at t ts (row-within st.left at t ts row) row))

    same : (n : ℕ) → (at == n) ≡ false → row_at st n ≡ get_or rest n []
    same n e = sym (get_or-set_other st.left at n ts [] (apart at n e))

    waits : (n : ℕ) → (at == n) ≡ false → Waits bits st.waiters n (row_at st n) → Waits bits st.waiters n (get_or rest n [])
    waits n e w = subst (Waits bits st.waiters n) (same n e) w

    differs : (n : ℕ) → at + 1 ≤ n → (at == n) ≡ false
    differs n over = by (at == n) refl
      where
        by : (b : Bool) → (at == n) ≡ b → b ≡ false
        by true e = absurd (omega (arith, over, eqb-true at n e))
        by false e = refl

    here : (n : ℕ) → at + 1 ≤ n → (holds st.awake n ≡ true) ⊎ WaitsIn st n → (holds awake n ≡ true) ⊎ Waits bits st.waiters n (get_or rest n [])
    here n over (inl e) = inl (g.still n e)
    here n over (inr w) = by (g.wakes n (row_at st n) w)
      where
        by : Waits bits st.waiters n (row_at st n) ⊎ ((at < n → holds awake n ≡ true) × (holds later n ≡ true)) → (holds awake n ≡ true) ⊎ Waits bits st.waiters n (get_or rest n [])
        by (inl v) = inr (waits n (differs n over) v)
        by (inr v) = inl (v.0 (omega (arith, over)))

    behind : (n : ℕ) → n < at + 1 → (b : Bool) → (at == n) ≡ b → (holds later n ≡ true) ⊎ Waits bits st.waiters n (get_or rest n [])
    behind n below true e = inl (subst (λ k. holds later k ≡ true) (eqb-true at n e) g.own)
    behind n below false e = by (f.behind n (let differ = eqb-false at n e in omega (arith, below, differ)))
      where
        woken : Waits bits st.waiters n (row_at st n) ⊎ ((at < n → holds awake n ≡ true) × (holds later n ≡ true)) → (holds later n ≡ true) ⊎ Waits bits st.waiters n (get_or rest n [])
        woken (inl v) = inr (waits n e v)
        woken (inr v) = inl v.1

        by : (holds st.later n ≡ true) ⊎ WaitsIn st n → (holds later n ≡ true) ⊎ Waits bits st.waiters n (get_or rest n [])
        by (inl h) = inl (g.more n h)
        by (inr w) = woken (g.wakes n (row_at st n) w)

-- a session that waits has had its turn
pub waits-follows : (css : List (List Command)) (at : ℕ) (st : Stand) → WaitsIn st at → Follows css at (at + 1) st → Follows css (at + 1) (at + 1) st
waits-follows css at st w f = record {
  told = f.told;
  agrees = f.agrees;
  steps = λ k few. ap (λ xs. st.steps ++ xs) (ap (λ n. to_come k n f.told st.left) (add-one at) ∙ sym (come-skip k at f.told st.left (waits-cant f.told st.told st.waiters at (row_at st at) f.agrees w))) ∙ f.steps k few;
  ahead = f.ahead;
  here = f.here;
  behind = λ n below. by n below (at == n) refl;
}
  where
    by : (n : ℕ) → n < at + 1 → (b : Bool) → (at == n) ≡ b → (holds st.later n ≡ true) ⊎ WaitsIn st n
    by n below true e = inr (subst (λ k. WaitsIn st k) (eqb-true at n e) w)
    by n below false e = f.behind n (let differ = eqb-false at n e in omega (arith, below, differ))

-- a session of which nothing is left
pub nothing-follows : (css : List (List Command)) (at : ℕ) (st : Stand) → row_at st at ≡ [] → Follows css at (at + 1) st → Follows css (at + 1) (at + 1) st
nothing-follows css at st row f = waits-follows css at st (subst (Waits st.told st.waiters at) (sym row) tt) f

abbrev pub with_waiters : Stand → List SessionSet → Stand
with_waiters st waiters =
    record { left = st.left; told = st.told; waiters = waiters; awake = st.awake; later = st.later; steps = st.steps }

-- more sessions wait
pub waiters-follow : (css : List (List Command)) (from late : ℕ) (st : Stand) (waiters : List SessionSet) → ((m n : ℕ) → holds (waiters_of st.waiters m) n ≡ true → holds (waiters_of waiters m) n ≡ true)
    → Follows css from late st → Follows css from late (with_waiters st waiters)
waiters-follow css from late st waiters more f = record {
  told = f.told;
  agrees = f.agrees;
  steps = f.steps;
  ahead = f.ahead;
  here = λ n over. kept n (holds st.awake n) (f.here n over);
  behind = λ n below. kept n (holds st.later n) (f.behind n below);
}
  where
    wait : (n : ℕ) (s : List LinedCommand) → Waits st.told st.waiters n s → Waits st.told waiters n s
    wait n [] w = tt
    wait n (t ∷ ts) w = by t.command w
      where
        by : (c : Command) → WaitsAt st.told st.waiters n c → WaitsAt st.told waiters n c
        by (Hear m name) w = (w.0, more m n w.1)
        by (Tell m name) w = w
        by (Load name lines) w = w
        by (Query text) w = w

    kept : (n : ℕ) (b : Bool) → (b ≡ true) ⊎ WaitsIn st n → (b ≡ true) ⊎ WaitsIn (with_waiters st waiters) n
    kept n b (inl e) = inl e
    kept n b (inr w) = inr (wait n (row_at st n) w)

-- Where nobody of this round is left, the first of the next is chosen, or all steps are done.
pub round-chooses : (st : Stand) (rest none : SessionSet) (chosen : Option ℕ) → ((n : ℕ) → holds st.awake n ≡ false) → ((n : ℕ) → holds none n ≡ false) → TakesFirst st.later rest chosen → Chooses st chosen (with_awake st rest none)
round-chooses st rest none (Some at) empty free first = record {
  follows = λ css from f. first-chosen css 0 at (with_awake st st.later none) rest first (next-round css from st none empty f);
  lighter = (first.0, omega (arith, size-less st.later rest at first, size-none none free));
  same = refl;
}
round-chooses st rest none None empty free first = record {
  follows = λ css from f. all-done css (with_awake st st.later none) first.0 (next-round css from st none empty f);
  lighter = tt;
  same = refl;
}
