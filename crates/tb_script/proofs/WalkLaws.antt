-- A walk over the sessions: each command that is done is one that can be done, and at the end none can.
use Rattle.std.proofs.Common.{Result, Ok, Err, OnOk, ◌≡◌, ◌≢◌, ◌⊎◌, inl, inr, ℕ, zero, suc, ◌+◌, ◌<◌, Bool, true, false, ◌||◌, ◌==◌, List, [], ◌∷◌, ◌++◌, length, get_or, set, refl, sym, ap, ◌∙◌, subst, arith, length-append, eq-eqb, eqb-true}
use Rattle.std.specs.List.{AllByRecursion}
use Rattle.std.proofs.lemmas.Bool.{false≢true, eqb-false}
use Rattle.std.proofs.lemmas.List.{get_or_default, get_or-set_same, get_or-set_other, length-set}
use Rattle.tb_script.specs.Rounds.{is_among, can_go, once_done, total, left_at_end}
use Rattle.tb_script.specs.Runnable.{HasMarkBelow}
use Rattle.tb_script.specs.Runs.{Steps, here, there, go}
use Rattle.tb_script.specs.Walks.{WalkState, is_told, waiters_of, row_of, HaveMarksBelow, Fits, Walks, IdlesBut, WaitsAt, Waits, CoveredBut, weight, Keeps, Visits, goes, told_with, past, done, with_ready}
use Rattle.tb_script.specs.declared.command.Command.{Command}
use Rattle.tb_script.specs.declared.command.Command.TheVariants.{Load, Query, Tell, Hear}
use Rattle.tb_script.specs.declared.lined_command.LinedCommand.{LinedCommand}
use Rattle.tb_script.proofs.RoundLaws.{IsStill, ends_alike}

-- The next command of any session is done.
steps-at : (told : List ℕ) (ss : List (List LinedCommand)) (at : ℕ) (t : LinedCommand) (ts : List LinedCommand) → at < length ss → get_or ss at [] ≡ t ∷ ts → can_go told t.command ≡ true
    → Steps told ss (once_done told t.command) (set ss at ts)
steps-at told [] at t ts within is can = absurd (omega (arith, within))
steps-at told (s ∷ ss) zero t ts within is can = rw is (here t ts ss can)
steps-at told (s ∷ ss) (suc at) t ts within is can = there s (steps-at told ss at t ts (omega (arith, within)) is can)

pub total-at : (ss : List (List LinedCommand)) (at : ℕ) (t : LinedCommand) (ts : List LinedCommand) → at < length ss → get_or ss at [] ≡ t ∷ ts → total (set ss at ts) + 1 ≡ total ss
total-at [] at t ts within is = absurd (omega (arith, within))
total-at (s ∷ ss) zero t ts within is = let long = ap length is in omega (arith, long)
total-at (s ∷ ss) (suc at) t ts within is = omega (arith, total-at ss at t ts (omega (arith, within)) is)

module _ {X : Type 0} (P : X → Type 0) where
  pub all-set : (xs : List X) (at : ℕ) (x : X) → AllByRecursion P xs → P x → AllByRecursion P (set xs at x)
  all-set [] at x all p = all
  all-set (y ∷ ys) zero x all p = (p, all.1)
  all-set (y ∷ ys) (suc at) x all p = (all.0, all-set ys at x all.1 p)

  pub all-at : (xs : List X) (at : ℕ) (d : X) → AllByRecursion P xs → P d → P (get_or xs at d)
  all-at [] at d all p = p
  all-at (y ∷ ys) zero d all p = all.0
  all-at (y ∷ ys) (suc at) d all p = all-at ys at d all.1 p

-- the marks of the next command and of those behind it
pub row-below : (n : ℕ) (ss : List (List LinedCommand)) (at : ℕ) (t : LinedCommand) (ts : List LinedCommand) → HaveMarksBelow n ss → get_or ss at [] ≡ t ∷ ts → HasMarkBelow n t.command × AllByRecursion (λ (u : LinedCommand). HasMarkBelow n u.command) ts
row-below n ss at t ts below is =
    subst (AllByRecursion (λ (u : LinedCommand). HasMarkBelow n u.command)) is (all-at (AllByRecursion (λ (u : LinedCommand). HasMarkBelow n u.command)) ss at [] below tt)

pub among-prefix : (m : ℕ) (ls rs : List ℕ) → is_among m ls ≡ true → is_among m (ls ++ rs) ≡ true
among-prefix m [] rs e = absurd (false≢true e)
among-prefix m (l ∷ ls) rs e = by (l == m) e (λ f. among-prefix m ls rs f)
  where
    by : (t : Bool) → (t || is_among m ls) ≡ true → (is_among m ls ≡ true → is_among m (ls ++ rs) ≡ true) → (t || is_among m (ls ++ rs)) ≡ true
    by true e ih = refl
    by false e ih = ih e

pub among-last : (m : ℕ) (ls : List ℕ) → is_among m (ls ++ m ∷ []) ≡ true
among-last m [] = rw (eq-eqb m m refl) refl
among-last m (l ∷ ls) = by (l == m) (among-last m ls)
  where
    by : (t : Bool) → is_among m (ls ++ m ∷ []) ≡ true → (t || is_among m (ls ++ m ∷ [])) ≡ true
    by true ih = refl
    by false ih = ih

pub among-other : (m l : ℕ) (ls : List ℕ) → (l == m) ≡ false → is_among m (ls ++ l ∷ []) ≡ is_among m ls
among-other m l [] e = rw e refl
among-other m l (k ∷ ls) e = ap (λ b. (k == m) || b) (among-other m l ls e)

pub apart : (a b : ℕ) → (a == b) ≡ false → b ≢ a
apart a b e is = eqb-false a b e (sym is)

told-length : (told : List Bool) (c : Command) → length (told_with told c) ≡ length told
told-length told (Tell n name) = length-set told n true
told-length told (Load n lines) = refl
told-length told (Query text) = refl
told-length told (Hear n name) = refl

-- which marks are told once a command is done
pub told-agrees : (told : List ℕ) (bits : List Bool) (c : Command) → HasMarkBelow (length bits) c → ((m : ℕ) → is_among m told ≡ get_or bits m false)
    → (m : ℕ) → is_among m (once_done told c) ≡ get_or (told_with bits c) m false
told-agrees told bits (Tell n name) below agrees m = by (n == m) refl
  where
    by : (t : Bool) → (n == m) ≡ t → ((n == m) || is_among m told) ≡ get_or (set bits n true) m false
    by true e = rw e (sym (subst (λ k. get_or (set bits n true) k false ≡ true) (eqb-true n m e) (get_or-set_same bits n true false below)))
    by false e = rw e (agrees m ∙ sym (get_or-set_other bits n m true false (apart n m e)))
told-agrees told bits (Load n lines) below agrees m = agrees m
told-agrees told bits (Query text) below agrees m = agrees m
told-agrees told bits (Hear n name) below agrees m = agrees m

-- what can be done by the marks told can be done by the list of them
can-goes : (told : List ℕ) (st : WalkState) (c : Command) → ((m : ℕ) → is_among m told ≡ is_told st m) → goes st c ≡ true → can_go told c ≡ true
can-goes told st (Hear m name) agrees e = agrees m ∙ e
can-goes told st (Tell m name) agrees e = refl
can-goes told st (Load n lines) agrees e = refl
can-goes told st (Query text) agrees e = refl

-- a session's next command, which can be done
pub record IsAt (st : WalkState) (at : ℕ) (t : LinedCommand) (ts : List LinedCommand) : Type 0 where
  pub within : at < length st.left
  pub row : row_of st at ≡ t ∷ ts
  pub goes : goes st t.command ≡ true

done-walks : (ss : List (List LinedCommand)) (st : WalkState) (at : ℕ) (t : LinedCommand) (ts : List LinedCommand) → Fits st → IsAt st at t ts → Walks ss st → Walks ss (done st at t.command ts)
done-walks ss st at t ts fits is w = record {
  told = once_done w.told t.command;
  run = go w.run (steps-at w.told st.left at t ts is.within is.row (can-goes w.told st t.command w.agrees is.goes));
  agrees = told-agrees w.told st.told t.command (row-below (length st.told) st.left at t ts fits.below is.row).0 w.agrees;
}

done-fits : (st : WalkState) (at : ℕ) (t : LinedCommand) (ts : List LinedCommand) → Fits st → IsAt st at t ts → Fits (done st at t.command ts)
done-fits st at t ts fits is =
    let long = told-length st.told t.command in
    let rest = (row-below (length st.told) st.left at t ts fits.below is.row).1 in
    record {
      same = fits.same ∙ sym long;
      below = subst (λ n. HaveMarksBelow n (set st.left at ts)) (sym long) (all-set (AllByRecursion (λ (u : LinedCommand). HasMarkBelow (length st.told) u.command)) st.left at ts fits.below rest);
    }

-- a command that is done leaves less to do, though its session is looked at again
pub done-keeps : (st : WalkState) (at : ℕ) (t : LinedCommand) (ts : List LinedCommand) → Fits st → IsAt st at t ts → Keeps st (done st at t.command ts)
done-keeps st at t ts fits is = record {
  fits = done-fits st at t ts fits is;
  walks = λ ss w. done-walks ss st at t ts fits is w;
  lighter = omega (arith, total-at st.left at t ts is.within is.row, length-append st.ready (at ∷ []));
}

pub keeps-then : (a b c : WalkState) → Keeps a b → Keeps b c → Keeps a c
keeps-then a b c k l = record { fits = l.fits; walks = λ ss w. l.walks ss (k.walks ss w); lighter = omega (arith, k.lighter, l.lighter) }

-- the sessions but one are as they were
row-other : (st : WalkState) (at other : ℕ) (ts : List LinedCommand) → (at == other) ≡ false → get_or (set st.left at ts) other [] ≡ row_of st other
row-other st at other ts e = get_or-set_other st.left at other ts [] (apart at other e)

waits-more : (a b : WalkState) (at : ℕ) (s : List LinedCommand) → ((m : ℕ) → is_among at (waiters_of a m) ≡ true → is_among at (waiters_of b m) ≡ true) → Waits a at s → Waits b at s
waits-more a b at [] more w = w
waits-more a b at (t ∷ ts) more w = by t.command w
  where
    by : (c : Command) → WaitsAt a at c → WaitsAt b at c
    by (Hear m name) w = more m w
    by (Tell m name) w = w
    by (Load n lines) w = w
    by (Query text) w = w

-- what covers a session still does, where the same is left, and it is looked at and waits as before
pub covered-more : (a b : WalkState) (at : ℕ) → row_of b at ≡ row_of a at → (is_among at a.ready ≡ true → is_among at b.ready ≡ true)
    → ((m : ℕ) → is_among at (waiters_of a m) ≡ true → is_among at (waiters_of b m) ≡ true)
    → (is_among at a.ready ≡ true) ⊎ Waits a at (row_of a at) → (is_among at b.ready ≡ true) ⊎ Waits b at (row_of b at)
covered-more a b at row ready more (inl e) = inl (ready e)
covered-more a b at row ready more (inr w) = inr (subst (Waits b at) (sym row) (waits-more a b at (row_of a at) more w))

pub done-covers : (st : WalkState) (at : ℕ) (c : Command) (ts : List LinedCommand) → CoveredBut (at ∷ []) st → CoveredBut [] (done st at c ts)
done-covers st at c ts covered other none = by (at == other) refl
  where
    by : (t : Bool) → (at == other) ≡ t → (is_among other (st.ready ++ at ∷ []) ≡ true) ⊎ Waits (done st at c ts) other (get_or (set st.left at ts) other [])
    by true e = inl (subst (λ n. is_among n (st.ready ++ at ∷ []) ≡ true) (eqb-true at other e) (among-last at st.ready))
    by false e = covered-more st (done st at c ts) other (row-other st at other ts e) (λ f. among-prefix other st.ready (at ∷ []) f) (λ m f. f) (covered other (rw e refl))

-- a command that tells nothing lets no session go on
pub past-visits : (st : WalkState) (at : ℕ) (t : LinedCommand) (ts : List LinedCommand) → told_with st.told t.command ≡ st.told → Fits st → IsAt st at t ts → Visits at st (past st at ts)
past-visits st at t ts none fits is =
    let same : ◌≡◌ {A = WalkState} (done st at t.command ts) (past st at ts) = ap (λ bits. record { left = set st.left at ts; told = bits; waiters = st.waiters; ready = st.ready ++ at ∷ [] }) none in
    record {
      keeps = subst (Keeps st) same (done-keeps st at t ts fits is);
      idles = λ i. i;
      covers = λ c. subst (CoveredBut []) same (done-covers st at t.command ts c);
    }

-- the mark of the next command has a place
pub mark-within : (st : WalkState) (at m : ℕ) (t : LinedCommand) (ts : List LinedCommand) (c : Command) → Fits st → row_of st at ≡ t ∷ ts → t.command ≡ c → HasMarkBelow (length st.told) c
mark-within st at m t ts c fits row is = subst (HasMarkBelow (length st.told)) is (row-below (length st.told) st.left at t ts fits.below row).0

-- the next session to be looked at is taken
pub popped-ready : (st : WalkState) (at : ℕ) (list : List ℕ) → st.ready ≡ list ++ at ∷ [] → CoveredBut [] st → CoveredBut (at ∷ []) (with_ready st list)
popped-ready st at list is covered other not = by (at == other) refl not
  where
    by : (b : Bool) → (at == other) ≡ b → ((at == other) || false) ≡ false → (is_among other list ≡ true) ⊎ Waits (with_ready st list) other (row_of st other)
    by true e f = absurd (false≢true (sym f ∙ rw e refl))
    by false e f = covered-more st (with_ready st list) other refl (λ g. sym (among-other other at list e) ∙ ap (is_among other) (sym is) ∙ g) (λ m g. g) (covered other refl)

pub ready-weight : (st : WalkState) (at : ℕ) (list : List ℕ) → st.ready ≡ list ++ at ∷ [] → weight (with_ready st list) < weight st
ready-weight st at list is = omega (arith, ap length is, length-append list (at ∷ []))

-- what is left, row by row
pub still-from : (told : List ℕ) (ss : List (List LinedCommand)) → ((at : ℕ) (t : LinedCommand) (ts : List LinedCommand) → get_or ss at [] ≡ t ∷ ts → can_go told t.command ≡ false) → IsStill told ss
still-from told [] rows = tt
still-from told ([] ∷ ss) rows = still-from told ss (λ at t ts e. rows (suc at) t ts e)
still-from told ((t ∷ ts) ∷ ss) rows = (rows zero t ts refl, still-from told ss (λ at u us e. rows (suc at) u us e))

-- a session that waits can't go on
waits-still : (st : WalkState) (told : List ℕ) (at : ℕ) (t : LinedCommand) (ts : List LinedCommand) → ((m : ℕ) → is_among m told ≡ is_told st m) → IdlesBut [] st → Waits st at (t ∷ ts) → can_go told t.command ≡ false
waits-still st told at t ts agrees idles w = by t.command w
  where
    quiet : (m : ℕ) (b : Bool) → is_told st m ≡ b → is_among at (waiters_of st m) ≡ true → b ≡ false
    quiet m true e f = absurd (false≢true (ap (is_among at) (sym (idles m refl e)) ∙ f))
    quiet m false e f = refl

    by : (c : Command) → WaitsAt st at c → can_go told c ≡ false
    by (Hear m name) w = agrees m ∙ quiet m (is_told st m) refl w
    by (Tell m name) w = absurd w
    by (Load n lines) w = absurd w
    by (Query text) w = absurd w

-- At the end of a walk there is left what the rounds leave.
pub end-left : (ss : List (List LinedCommand)) (st : WalkState) → Walks ss st → IdlesBut [] st → CoveredBut [] st → st.ready ≡ [] → st.left ≡ left_at_end ss
end-left ss st w idles covered none = ends_alike w.told ss st.left w.run (still-from w.told st.left (λ at t ts e. by at t ts e (covered at refl)))
  where
    by : (at : ℕ) (t : LinedCommand) (ts : List LinedCommand) → row_of st at ≡ t ∷ ts → (is_among at st.ready ≡ true) ⊎ Waits st at (row_of st at) → can_go w.told t.command ≡ false
    by at t ts e (inl f) = absurd (false≢true (ap (is_among at) (sym none) ∙ f))
    by at t ts e (inr v) = waits-still st w.told at t ts w.agrees idles (subst (Waits st at) e v)

-- what holds of an answer that isn't a refusal
pub on_ok : {A E : Type 0} {P Q : Type 0} (r : Result A E) → (P → Q) → OnOk r P → OnOk r Q
on_ok (Ok x) f p = f p
on_ok (Err e) f p = tt

-- a session whose next command tells nothing goes on
pub go-visits : (st new : WalkState) (at : ℕ) (t : LinedCommand) (ts : List LinedCommand) → told_with st.told t.command ≡ st.told → goes st t.command ≡ true → Fits st
    → (row_of st at ≡ t ∷ ts) × (at < length st.left) → new ≡ past st at ts → Visits at st new
go-visits st new at t ts tells going fits next is =
    subst (Visits at st) (sym is) (past-visits st at t ts tells fits (record { within = next.1; row = next.0; goes = going }))

-- what is read of a mark
pub told-read : (told : List Bool) (m : ℕ) (read b : Bool) → m < length told → read ≡ get_or told m read → read ≡ b → get_or told m false ≡ b
told-read told m read b within is e = get_or_default told m false read within ∙ sym is ∙ e
