-- A session that is looked at: it goes on, or tells a mark and goes on, or waits.
use Rattle.std.proofs.Common.{◌≡◌, ◌⊎◌, inl, inr, ℕ, ◌+◌, ◌<◌, ◌≤◌, ◌==◌, ◌&&◌, ◌||◌, nat_lt, Bool, true, false, List, [], ◌∷◌, ◌++◌, length, get_or, set, refl, sym, ap, ◌∙◌, subst, arith, eqb-true, eq-eqb}
use Rattle.std.specs.List.{AllByRecursion}
use Rattle.std.proofs.lemmas.Bool.{ltb-true, ltb-false, or_left, or_right}
use Rattle.std.proofs.lemmas.List.{get_or-set_other, length-set}
use Rattle.tb_script.specs.Rounds.{is_among, can_go, once_done, numbered}
use Rattle.tb_script.specs.Sets.{holds}
use Rattle.tb_script.specs.Stands.{Stand, row_at, waiters_of, WaitsAt, Waits, WaitsIn, FitsAt, Fits, weight}
use Rattle.tb_script.specs.Visits.{Goes, Tells, Stays, Visits}
use Rattle.tb_script.specs.declared.command.Command.{Command}
use Rattle.tb_script.specs.declared.command.Command.TheVariants.{Load, Query, Tell, Hear}
use Rattle.tb_script.specs.declared.session_set.SessionSet.{SessionSet}
use Rattle.tb_script.specs.declared.lined_command.LinedCommand.{LinedCommand}
use Rattle.tb_script.proofs.SetLaws.{size-few}
use Rattle.tb_script.proofs.StepLaws.{row-within}
use Rattle.tb_script.proofs.WalkLaws.{all-set, all-at, apart, told-agrees, total-at}
use Rattle.tb_script.proofs.StandLaws.{with_done, GoesOn, done-follows, nothing-follows, waits-follows, with_waiters, waiters-follow}

-- a command that tells nothing and can be done
abbrev pub MayDo : List Bool → Command → Type 0
MayDo told (Hear mark name) = get_or told mark false ≡ true
MayDo told (Tell mark name) = ⊥
MayDo told _ = Unit {0}

plain-on : (at : ℕ) (st : Stand) (c : Command) (later : SessionSet) → ((n : ℕ) → holds later n ≡ ((at == n) || holds st.later n)) → MayDo st.told c → GoesOn at st c st.told st.awake later
plain-on at st c later has may = record {
  can = λ told agrees. can told agrees c may;
  agrees = λ told agrees m. tells told c may m ∙ agrees m;
  ahead = λ n below e. e;
  still = λ n e. e;
  more = λ n e. has n ∙ or_right (at == n) (holds st.later n) e;
  own = has at ∙ or_left (at == at) (holds st.later at) (eq-eqb at at refl);
  wakes = λ n s w. inl w;
}
  where
    can : (told : List ℕ) → ((m : ℕ) → is_among m told ≡ get_or st.told m false) → (c : Command) → MayDo st.told c → can_go told c ≡ true
    can told agrees (Hear mark name) may = agrees mark ∙ may
    can told agrees (Tell mark name) may = refl
    can told agrees (Load name lines) may = refl
    can told agrees (Query text) may = refl

    tells : (told : List ℕ) (c : Command) → MayDo st.told c → (m : ℕ) → is_among m (once_done told c) ≡ is_among m told
    tells told (Hear mark name) may m = refl
    tells told (Tell mark name) may m = absurd may
    tells told (Load name lines) may m = refl
    tells told (Query text) may m = refl

-- the sets behind a `tell` and the step that does it
record Wakes (at mark : ℕ) (st : Stand) (awake later : SessionSet) : Type 0 where
  pub awake_is : (n : ℕ) → holds awake n ≡ (holds st.awake n || (nat_lt at n && holds (waiters_of st.waiters mark) n))
  pub later_is : (n : ℕ) → holds later n ≡ ((at == n) || (holds st.later n || holds (waiters_of st.waiters mark) n))

tell-on : (at mark : ℕ) (name : List ℕ) (st : Stand) (awake later : SessionSet) → mark < length st.told → Wakes at mark st awake later → GoesOn at st (Tell mark name) (set st.told mark true) awake later
tell-on at mark name st awake later within w = record {
  can = λ told agrees. refl;
  agrees = λ told agrees. told-agrees told st.told (Tell mark name) within agrees;
  ahead = λ n below e. w.awake_is n ∙ ap (λ b. b || (nat_lt at n && holds (waiters_of st.waiters mark) n)) e ∙ before n below (nat_lt at n) refl;
  still = λ n e. w.awake_is n ∙ or_left (holds st.awake n) (nat_lt at n && holds (waiters_of st.waiters mark) n) e;
  more = λ n e. w.later_is n ∙ or_right (at == n) (holds st.later n || holds (waiters_of st.waiters mark) n) (or_left (holds st.later n) (holds (waiters_of st.waiters mark) n) e);
  own = w.later_is at ∙ or_left (at == at) (holds st.later at || holds (waiters_of st.waiters mark) at) (eq-eqb at at refl);
  wakes = λ n s v. wakes n s v;
}
  where
    before : (n : ℕ) → n < at + 1 → (b : Bool) → nat_lt at n ≡ b → (b && holds (waiters_of st.waiters mark) n) ≡ false
    before n below true e = absurd (omega (arith, below, ltb-true at n e))
    before n below false e = refl

    later-woken : (n : ℕ) → holds (waiters_of st.waiters mark) n ≡ true → holds later n ≡ true
    later-woken n e = w.later_is n ∙ or_right (at == n) (holds st.later n || holds (waiters_of st.waiters mark) n) (or_right (holds st.later n) (holds (waiters_of st.waiters mark) n) e)

    awake-woken : (n : ℕ) → holds (waiters_of st.waiters mark) n ≡ true → at < n → holds awake n ≡ true
    awake-woken n e over = w.awake_is n ∙ or_right (holds st.awake n) (nat_lt at n && holds (waiters_of st.waiters mark) n) (by (nat_lt at n) refl)
      where
        by : (b : Bool) → nat_lt at n ≡ b → (b && holds (waiters_of st.waiters mark) n) ≡ true
        by true f = e
        by false f = absurd (omega (arith, over, ltb-false at n f))

    wakes : (n : ℕ) (s : List LinedCommand) → Waits st.told st.waiters n s → Waits (set st.told mark true) st.waiters n s ⊎ ((at < n → holds awake n ≡ true) × (holds later n ≡ true))
    wakes n [] v = inl tt
    wakes n (t ∷ ts) v = by t.command v
      where
        heard : (m : ℕ) (b : Bool) → (mark == m) ≡ b → (get_or st.told m false ≡ false) × (holds (waiters_of st.waiters m) n ≡ true)
            → ((get_or (set st.told mark true) m false ≡ false) × (holds (waiters_of st.waiters m) n ≡ true)) ⊎ ((at < n → holds awake n ≡ true) × (holds later n ≡ true))
        heard m true e v =
            let waits = subst (λ k. holds (waiters_of st.waiters k) n ≡ true) (sym (eqb-true mark m e)) v.1 in
            inr (λ over. awake-woken n waits over, later-woken n waits)
        heard m false e v = inl (get_or-set_other st.told mark m true false (apart mark m e) ∙ v.0, v.1)

        by : (c : Command) → WaitsAt st.told st.waiters n c → WaitsAt (set st.told mark true) st.waiters n c ⊎ ((at < n → holds awake n ≡ true) × (holds later n ≡ true))
        by (Hear m label) v = heard m (mark == m) refl v
        by (Tell m label) v = absurd v
        by (Load label lines) v = absurd v
        by (Query text) v = absurd v

-- the next command of a session and those behind it fit
pub row-fits : (st : Stand) (at : ℕ) (t : LinedCommand) (ts : List LinedCommand) → Fits st → row_at st at ≡ t ∷ ts → FitsAt (length st.told) t × AllByRecursion (FitsAt (length st.told)) ts
row-fits st at t ts fits row =
    subst (AllByRecursion (FitsAt (length st.told))) row (all-at (AllByRecursion (FitsAt (length st.told))) st.left at [] fits.rows tt)

done-fits : (st : Stand) (at : ℕ) (t : LinedCommand) (ts : List LinedCommand) (bits : List Bool) (awake later : SessionSet) → length bits ≡ length st.told → Fits st → row_at st at ≡ t ∷ ts → Fits (with_done st at t ts bits awake later)
done-fits st at t ts bits awake later long fits row = record {
  same = fits.same ∙ sym long;
  rows = subst (λ n. AllByRecursion (AllByRecursion (FitsAt n)) (set st.left at ts)) (sym long)
      (all-set (AllByRecursion (FitsAt (length st.told))) st.left at ts fits.rows (row-fits st at t ts fits row).1);
}

done-lighter : (st : Stand) (at : ℕ) (t : LinedCommand) (ts : List LinedCommand) (bits : List Bool) (awake later : SessionSet) → row_at st at ≡ t ∷ ts → weight (with_done st at t ts bits awake later) ≤ weight st
done-lighter st at t ts bits awake later row =
    omega (arith, total-at st.left at t ts (row-within st.left at t ts row) row, size-few awake, size-few later)

done-visits : (st : Stand) (at : ℕ) (t : LinedCommand) (ts : List LinedCommand) (bits : List Bool) (awake later : SessionSet) → length bits ≡ length st.told → Fits st → row_at st at ≡ t ∷ ts
    → GoesOn at st t.command bits awake later → Visits at st (with_done st at t ts bits awake later)
done-visits st at t ts bits awake later long fits row g = record {
  fits = done-fits st at t ts bits awake later long fits row;
  follows = λ css f. done-follows css at st t ts bits awake later row g f;
  lighter = done-lighter st at t ts bits awake later row;
}

-- the next command of a session, with its number and those behind it
abbrev pub next-is : Stand → ℕ → ℕ → List Command → Command → Type 0
next-is st at number rest c = row_at st at ≡ record { line = number; command = c } ∷ numbered (number + 1) rest

-- A session whose command tells nothing and can be done goes on.
pub goes-visits : (st new : Stand) (at number : ℕ) (c : Command) (rest : List Command) → Fits st → row_at st at ≡ record { line = number; command = c } ∷ numbered (number + 1) rest → MayDo st.told c → Goes at number rest st new → Visits at st new
goes-visits st new at number c rest fits row may g =
    subst (Visits at st) (sym g.same)
    (done-visits st at (record { line = number; command = c }) (numbered (number + 1) rest) st.told st.awake new.later refl
    fits row (plain-on at st c new.later g.later may))

-- A session tells a mark and goes on.
pub tell-visits : (st mid new : Stand) (at number mark : ℕ) (name : List ℕ) (rest : List Command) → Fits st → row_at st at ≡ record { line = number; command = Tell mark name } ∷ numbered (number + 1) rest → Tells at mark st mid → Goes at number rest mid new → Visits at st new
tell-visits st mid new at number mark name rest fits row t g =
    subst (Visits at st) (sym (g.same ∙ ap (λ (x : Stand). goes x) t.same))
    (done-visits st at (record { line = number; command = Tell mark name }) (numbered (number + 1) rest) (set st.told mark true) mid.awake new.later (length-set st.told mark true)
    fits row (tell-on at mark name st mid.awake new.later within wakes))
  where
    goes : Stand → Stand
    goes x = record {
      left = set x.left at (numbered (number + 1) rest);
      told = x.told;
      waiters = x.waiters;
      awake = x.awake;
      later = new.later;
      steps = x.steps ++ record { session = at; command = number } ∷ [];
    }

    within : mark < length st.told
    within = (row-fits st at (record { line = number; command = Tell mark name }) (numbered (number + 1) rest) fits row).0.mark

    wakes : Wakes at mark st mid.awake new.later
    wakes = record { awake_is = t.awake; later_is = λ n. g.later n ∙ ap (λ b. (at == n) || b) (t.later n) }

-- A session that hears a mark which isn't told yet waits.
pub stay-visits : (st new : Stand) (at number mark : ℕ) (name : List ℕ) (rest : List Command) → Fits st → row_at st at ≡ record { line = number; command = Hear mark name } ∷ numbered (number + 1) rest → get_or st.told mark false ≡ false
    → Stays at mark st new → Visits at st new
stay-visits st new at number mark name rest fits row untold s =
    subst (Visits at st) (sym s.same)
    (record {
      fits = record { same = s.places ∙ fits.same; rows = fits.rows };
      follows = λ css f. waits-follows css at (with_waiters st new.waiters) waits (waiters-follow css at (at + 1) st new.waiters (λ m n e. s.waiters m n ∙ or_right ((mark == m) && (at == n)) (holds (waiters_of st.waiters m) n) e) f);
      lighter = omega arith;
    })
  where
    both : (a b : Bool) → a ≡ true → b ≡ true → (a && b) ≡ true
    both a b e f = rw (e, f) refl

    waits : WaitsIn (with_waiters st new.waiters) at
    waits =
        subst (Waits st.told new.waiters at) (sym row) (
          untold,
          s.waiters mark at ∙ or_left ((mark == mark) && (at == at)) (holds (waiters_of st.waiters mark) at) (both (mark == mark) (at == at) (eq-eqb mark mark refl) (eq-eqb at at refl)),
        )

-- A session of which nothing is left is passed.
pub nothing-visits : (st : Stand) (at : ℕ) → Fits st → row_at st at ≡ [] → Visits at st st
nothing-visits st at fits row = record {
  fits = fits;
  follows = λ css f. nothing-follows css at st row f;
  lighter = omega arith;
}
