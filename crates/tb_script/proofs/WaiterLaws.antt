-- The waiters of a mark: sessions that come to wait, and go on once the mark is told.
use Rattle.std.proofs.Common.{Vec, Global, Option, Some, None, MatchOption, vec_len, option_to_list, ◌≡◌, ◌⊎◌, inl, inr, ℕ, ◌+◌, ◌<◌, Bool, true, false, ◌||◌, ◌==◌, List, [], ◌∷◌, ◌++◌, map, length, get_or, set, refl, sym, ap, ◌∙◌, subst, arith, eq-eqb, eqb-true}
use Rattle.std.proofs.lemmas.Bool.{false≢true}
use Rattle.std.proofs.lemmas.List.{get_or-map, map-set, get_or-set_same, get_or-set_other, length-set, length-map, nil_from_length}
use Rattle.tb_script.specs.Rounds.{is_among}
use Rattle.tb_script.specs.Runnable.{HasMarkBelow}
use Rattle.tb_script.specs.Walks.{WalkState, Pops, is_told, waiters_of, row_of, Fits, IdlesBut, WaitsAt, Waits, CoveredBut, Keeps, Visits, Wakes, Woken, Hears, HearsNot, hears, goes, told_with, past, done, with_waiters, waiting}
use Rattle.tb_script.specs.declared.command.Command.{Command}
use Rattle.tb_script.specs.declared.command.Command.TheVariants.{Load, Query, Tell, Hear}
use Rattle.tb_script.specs.declared.lined_command.LinedCommand.{LinedCommand}
use Rattle.tb_script.proofs.WalkLaws.{row-below, among-prefix, among-last, among-other, apart, covered-more, done-keeps, keeps-then, done-covers, past-visits}

-- the waiters of a mark, once its list is another, and those of other marks
waiters-same : (st : WalkState) (m : ℕ) (list : List ℕ) (n : ℕ) → m < length st.waiters → (m == n) ≡ true → waiters_of (with_waiters st m list) n ≡ list
waiters-same st m list n within e = subst (λ k. get_or (set st.waiters m list) k [] ≡ list) (eqb-true m n e) (get_or-set_same st.waiters m list [] within)

waiters-other : (st : WalkState) (m : ℕ) (list : List ℕ) (n : ℕ) → (m == n) ≡ false → waiters_of (with_waiters st m list) n ≡ waiters_of st n
waiters-other st m list n e = get_or-set_other st.waiters m n list [] (apart m n e)

waiters-grow : (st : WalkState) (m at other n : ℕ) → m < length st.waiters → is_among other (waiters_of st n) ≡ true → is_among other (waiters_of (waiting st m at) n) ≡ true
waiters-grow st m at other n within e = by (m == n) refl
  where
    by : (t : Bool) → (m == n) ≡ t → is_among other (waiters_of (waiting st m at) n) ≡ true
    by true f =
        let old : is_among other (waiters_of st m) ≡ true = subst (λ k. is_among other (waiters_of st k) ≡ true) (sym (eqb-true m n f)) e in
        ap (is_among other) (waiters-same st m (waiters_of st m ++ at ∷ []) n within f) ∙ among-prefix other (waiters_of st m) (at ∷ []) old
    by false f = ap (is_among other) (waiters-other st m (waiters_of st m ++ at ∷ []) n f) ∙ e

-- a session that hears a mark among whose waiters it is
waits-at : (st : WalkState) (at m : ℕ) (name : List ℕ) (t : LinedCommand) (ts : List LinedCommand) → row_of st at ≡ t ∷ ts → t.command ≡ Hear m name → is_among at (waiters_of st m) ≡ true → Waits st at (row_of st at)
waits-at st at m name t ts row is e = subst (Waits st at) (sym row) (subst (WaitsAt st at) (sym is) e)

-- a session that waits
pub waiting-visits : (st : WalkState) (at m : ℕ) (name : List ℕ) (t : LinedCommand) (ts : List LinedCommand) → Fits st → row_of st at ≡ t ∷ ts → t.command ≡ Hear m name → is_told st m ≡ false → Visits at st (waiting st m at)
waiting-visits st at m name t ts fits row is untold =
    let below : m < length st.told = subst (HasMarkBelow (length st.told)) is (row-below (length st.told) st.left at t ts fits.below row).0 in
    let within : m < length st.waiters = omega (arith, below, fits.same) in
    record {
      keeps = record {
        fits = record { same = length-set st.waiters m (waiters_of st m ++ at ∷ []) ∙ fits.same; below = fits.below };
        walks = λ ss w. record { told = w.told; run = w.run; agrees = w.agrees };
        lighter = omega arith;
      };
      idles = λ i n none told. quiet i n none told (m == n) refl;
      covers = λ covered other none. covers within covered other (at == other) refl;
    }
  where
    quiet : IdlesBut [] st → (n : ℕ) → is_among n [] ≡ false → is_told st n ≡ true → (b : Bool) → (m == n) ≡ b → waiters_of (waiting st m at) n ≡ []
    quiet i n none told true e = absurd (false≢true (sym untold ∙ ap (is_told st) (eqb-true m n e) ∙ told))
    quiet i n none told false e = waiters-other st m (waiters_of st m ++ at ∷ []) n e ∙ i n none told

    covers : m < length st.waiters → CoveredBut (at ∷ []) st → (other : ℕ) (b : Bool) → (at == other) ≡ b → (is_among other st.ready ≡ true) ⊎ Waits (waiting st m at) other (row_of st other)
    covers within covered other true e =
        let list = waiters_of st m ++ at ∷ [] in
        let among : is_among at (waiters_of (waiting st m at) m) ≡ true = ap (is_among at) (waiters-same st m list m within (eq-eqb m m refl)) ∙ among-last at (waiters_of st m) in
        inr (subst (λ k. Waits (waiting st m at) k (row_of st k)) (eqb-true at other e) (waits-at (waiting st m at) at m name t ts row is among))
    covers within covered other false e =
        covered-more st (waiting st m at) other refl (λ f. f) (λ n f. waiters-grow st m at other n within f) (covered other (rw e refl))

-- a session of which nothing is left
pub empty-visits : (st : WalkState) (at : ℕ) → Fits st → row_of st at ≡ [] → Visits at st st
empty-visits st at fits row = record {
  keeps = record { fits = fits; walks = λ ss w. w; lighter = omega arith };
  idles = λ i. i;
  covers = λ covered other none. by covered other (at == other) refl;
}
  where
    by : CoveredBut (at ∷ []) st → (other : ℕ) (b : Bool) → (at == other) ≡ b → (is_among other st.ready ≡ true) ⊎ Waits st other (row_of st other)
    by covered other true e = inr (subst (λ k. Waits st k (row_of st k)) (eqb-true at other e) (subst (Waits st at) (sym row) tt))
    by covered other false e = covered other (rw e refl)

-- a mark is told, and none but its waiters wait for a mark that is told
pub tell-idles : (st : WalkState) (at m : ℕ) (name : List ℕ) (ts : List LinedCommand) → IdlesBut [] st → IdlesBut (m ∷ []) (done st at (Tell m name) ts)
tell-idles st at m name ts i n other told = by (m == n) refl other
  where
    by : (b : Bool) → (m == n) ≡ b → ((m == n) || false) ≡ false → waiters_of st n ≡ []
    by true e other = absurd (false≢true (sym other ∙ rw e refl))
    by false e other = i n refl (sym (get_or-set_other st.told m n true false (apart m n e)) ∙ told)

-- a session that isn't the last of a list of waiters still waits without the last
waits-shorter : (st : WalkState) (m at other : ℕ) (list : List ℕ) → m < length st.waiters → waiters_of st m ≡ list ++ at ∷ [] → (at == other) ≡ false
    → (n : ℕ) → is_among other (waiters_of st n) ≡ true → is_among other (waiters_of (with_waiters st m list) n) ≡ true
waits-shorter st m at other list within is differ n e = by (m == n) refl
  where
    by : (b : Bool) → (m == n) ≡ b → is_among other (waiters_of (with_waiters st m list) n) ≡ true
    by true f =
        let old : is_among other (list ++ at ∷ []) ≡ true = ap (is_among other) (sym is) ∙ subst (λ k. is_among other (waiters_of st k) ≡ true) (sym (eqb-true m n f)) e in
        ap (is_among other) (waiters-same st m list n within f) ∙ sym (among-other other at list differ) ∙ old
    by false f = ap (is_among other) (waiters-other st m list n f) ∙ e

-- without the last of the waiters all but that session are covered
popped-covers : (st : WalkState) (m at : ℕ) (list : List ℕ) → m < length st.waiters → waiters_of st m ≡ list ++ at ∷ [] → CoveredBut [] st → CoveredBut (at ∷ []) (with_waiters st m list)
popped-covers st m at list within is covered other other_is = by (at == other) refl other_is
  where
    by : (b : Bool) → (at == other) ≡ b → ((at == other) || false) ≡ false → (is_among other st.ready ≡ true) ⊎ Waits (with_waiters st m list) other (row_of st other)
    by true e f = absurd (false≢true (sym f ∙ rw e refl))
    by false e f = covered-more st (with_waiters st m list) other refl (λ g. g) (waits-shorter st m at other list within is e) (covered other refl)

-- and that session too, where it doesn't hear that mark
popped-rest : (st : WalkState) (m at : ℕ) (list : List ℕ) → m < length st.waiters → waiters_of st m ≡ list ++ at ∷ [] → HearsNot m (row_of st at) → CoveredBut [] st → CoveredBut [] (with_waiters st m list)
popped-rest st m at list within is not covered other none = by (at == other) refl
  where
    waits : (s : List LinedCommand) → HearsNot m s → Waits st at s → Waits (with_waiters st m list) at s
    waits [] not w = tt
    waits (t ∷ ts) not w = kept t.command not w
      where
        kept : (c : Command) → hears c m ≡ false → WaitsAt st at c → WaitsAt (with_waiters st m list) at c
        kept (Hear n name) not w = ap (is_among at) (waiters-other st m list n not) ∙ w
        kept (Tell n name) not w = w
        kept (Load n lines) not w = w
        kept (Query text) not w = w

    here : (is_among at st.ready ≡ true) ⊎ Waits st at (row_of st at) → (is_among at st.ready ≡ true) ⊎ Waits (with_waiters st m list) at (row_of st at)
    here (inl e) = inl e
    here (inr w) = inr (waits (row_of st at) not w)

    by : (b : Bool) → (at == other) ≡ b → (is_among other st.ready ≡ true) ⊎ Waits (with_waiters st m list) other (row_of st other)
    by true e = subst (λ k. (is_among k st.ready ≡ true) ⊎ Waits (with_waiters st m list) k (row_of st k)) (eqb-true at other e) (here (covered at refl))
    by false e = covered-more st (with_waiters st m list) other refl (λ g. g) (waits-shorter st m at other list within is e) (covered other refl)

popped-keeps : (st : WalkState) (m : ℕ) (list : List ℕ) → Fits st → Keeps st (with_waiters st m list)
popped-keeps st m list fits = record {
  fits = record { same = length-set st.waiters m list ∙ fits.same; below = fits.below };
  walks = λ ss w. record { told = w.told; run = w.run; agrees = w.agrees };
  lighter = omega arith;
}

popped-idles : (st : WalkState) (m : ℕ) (list : List ℕ) → IdlesBut (m ∷ []) st → IdlesBut (m ∷ []) (with_waiters st m list)
popped-idles st m list i n other told = by (m == n) refl other
  where
    by : (b : Bool) → (m == n) ≡ b → ((m == n) || false) ≡ false → waiters_of (with_waiters st m list) n ≡ []
    by true e other = absurd (false≢true (sym other ∙ rw e refl))
    by false e other = waiters-other st m list n e ∙ i n (rw e refl) told

hears-tells : (told : List Bool) (c : Command) (m : ℕ) → hears c m ≡ true → told_with told c ≡ told
hears-tells told (Hear n name) m e = refl
hears-tells told (Tell n name) m e = absurd (false≢true e)
hears-tells told (Load n lines) m e = refl
hears-tells told (Query text) m e = refl

hears-goes : (st : WalkState) (c : Command) (m : ℕ) → hears c m ≡ true → is_told st m ≡ true → goes st c ≡ true
hears-goes st (Hear n name) m e told = subst (λ k. is_told st k ≡ true) (eqb-true m n e) told
hears-goes st (Tell n name) m e told = refl
hears-goes st (Load n lines) m e told = refl
hears-goes st (Query text) m e told = refl

-- the last waiter of a mark that is told goes on, or stands elsewhere
pub woken : (first st last : WalkState) (m at : ℕ) → Woken m first st → m < length st.waiters → waiters_of st m ≡ waiters_of last m ++ at ∷ []
    → last ≡ with_waiters st m (waiters_of last m) → (new : WalkState) → Hears m at last new → Woken m first new
woken first st last m at w within is same new (inl h) =
    let list = waiters_of last m in
    let mid = with_waiters st m list in
    let fits = (popped-keeps st m list w.keeps.fits).fits in
    let row = subst (λ (x : WalkState). row_of x at ≡ h.0 ∷ h.1) same h.2.0 in
    let within_left = subst (λ (x : WalkState). at < length x.left) same h.2.1 in
    let tells = hears-tells st.told h.0.command m h.3 in
    let going = hears-goes mid h.0.command m h.3 w.told in
    let v = past-visits mid at h.0 h.1 tells fits (record { within = within_left; row = row; goes = going }) in
    let end : past mid at h.1 ≡ new = ap (λ x. past x at h.1) (sym same) ∙ sym h.4 in
    subst (Woken m first) end
    (record {
      keeps = keeps-then first st _ w.keeps (keeps-then st mid _ (popped-keeps st m list w.keeps.fits) v.keeps);
      told = w.told;
      idles = λ i. popped-idles st m list (w.idles i);
      covers = λ c. v.covers (popped-covers st m at list within is (w.covers c));
    })
woken first st last m at w within is same new (inr h) =
    let list = waiters_of last m in
    let not = subst (λ (x : WalkState). HearsNot m (row_of x at)) same h.1 in
    subst (Woken m first) (sym same ∙ sym h.0)
    (record {
      keeps = keeps-then first st _ w.keeps (popped-keeps st m list w.keeps.fits);
      told = w.told;
      idles = λ i. popped-idles st m list (w.idles i);
      covers = λ c. popped-rest st m at list within is not (w.covers c);
    })

pub woken-start : (m : ℕ) (st : WalkState) → Fits st → is_told st m ≡ true → Woken m st st
woken-start m st fits told = record {
  keeps = record { fits = fits; walks = λ ss w. w; lighter = omega arith };
  told = told;
  idles = λ i. i;
  covers = λ c. c;
}

-- no waiter is left
pub woken-end : (m : ℕ) (first st last : WalkState) → Woken m first st → waiters_of st m ≡ [] → last ≡ with_waiters st m [] → m < length st.waiters → Wakes m first last
woken-end m first st last w none same within =
    subst (Wakes m first) (sym same)
    (record {
      keeps = keeps-then first st _ w.keeps (popped-keeps st m [] w.keeps.fits);
      idles = λ i. idle i;
      covers = λ c. cover c;
    })
  where
    idle : IdlesBut (m ∷ []) first → IdlesBut [] (with_waiters st m [])
    idle i n other told = by (m == n) refl
      where
        by : (b : Bool) → (m == n) ≡ b → waiters_of (with_waiters st m []) n ≡ []
        by true e = waiters-same st m [] n within e
        by false e = waiters-other st m [] n e ∙ w.idles i n (rw e refl) told

    more : (other n : ℕ) → is_among other (waiters_of st n) ≡ true → is_among other (waiters_of (with_waiters st m []) n) ≡ true
    more other n e = by (m == n) refl
      where
        by : (b : Bool) → (m == n) ≡ b → is_among other (waiters_of (with_waiters st m []) n) ≡ true
        by true f = absurd (false≢true (ap (is_among other) (sym none) ∙ subst (λ k. is_among other (waiters_of st k) ≡ true) (sym (eqb-true m n f)) e))
        by false f = ap (is_among other) (waiters-other st m [] n f) ∙ e

    cover : CoveredBut [] first → CoveredBut [] (with_waiters st m [])
    cover c other none = covered-more st (with_waiters st m []) other refl (λ g. g) (more other) (w.covers c other none)

-- what a list is without its last, where it has one
pub pops : (old new : Vec ℕ Global) (r : Option ℕ) → old.items ≡ new.items ++ option_to_list r → MatchOption r ((vec_len old ≡ 0) × (vec_len new ≡ 0)) (λ _. vec_len new + 1 ≡ vec_len old) → Pops old.items new.items r
pops old new None e none =
    (nil_from_length old.items (sym old.ok.0 ∙ none.0), nil_from_length new.items (sym new.ok.0 ∙ none.1))
pops old new (Some at) e some = e

-- the list at a place, and once it is another
pub list-read : (ws : List (Vec ℕ Global)) (m : ℕ) (list : Vec ℕ Global) → m < length ws → list ≡ get_or ws m list → get_or (map (λ v. v.items) ws) m [] ≡ list.items
list-read ws m list within is = get_or-map (λ v. v.items) ws m list [] within ∙ ap (λ (v : Vec ℕ Global). v.items) (sym is)

pub list-set : (ws : List (Vec ℕ Global)) (m : ℕ) (list : Vec ℕ Global) → m < length ws → get_or (map (λ v. v.items) (set ws m list)) m [] ≡ list.items
list-set ws m list within =
    ap (λ ls. get_or ls m []) (map-set (λ v. v.items) ws m list)
    ∙ get_or-set_same (map (λ v. v.items) ws) m list.items [] (omega (arith, within, length-map ws (λ v. v.items)))

-- how many marks have waiters stays the same
pub same-length : (old new : List (Vec ℕ Global)) (ls : List (List ℕ)) → map (λ v. v.items) new ≡ ls → length ls ≡ length old → length new ≡ length old
same-length old new ls e f = omega (arith, ap length e, f, length-map new (λ (v : Vec ℕ Global). v.items))

pub hears-length : (m at : ℕ) (old new : WalkState) → Hears m at old new → length new.waiters ≡ length old.waiters
hears-length m at old new (inl h) = ap (λ (x : WalkState). length x.waiters) h.4
hears-length m at old new (inr h) = ap (λ (x : WalkState). length x.waiters) h.0

-- a mark is told, and its waiters go on
pub tell-visits : (st new : WalkState) (at m : ℕ) (name : List ℕ) (t : LinedCommand) (ts : List LinedCommand) → Fits st → at < length st.left → row_of st at ≡ t ∷ ts → t.command ≡ Tell m name
    → Wakes m (done st at (Tell m name) ts) new → Visits at st new
tell-visits st new at m name t ts fits within row is w =
    let going : goes st t.command ≡ true = ap (goes st) is in
    let keeps = subst (λ c. Keeps st (done st at c ts)) is (done-keeps st at t ts fits (record { within = within; row = row; goes = going })) in
    record {
      keeps = keeps-then st _ new keeps w.keeps;
      idles = λ i. w.idles (tell-idles st at m name ts i);
      covers = λ c. w.covers (done-covers st at (Tell m name) ts c);
    }
