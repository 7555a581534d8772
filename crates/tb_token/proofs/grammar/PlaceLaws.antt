-- Readers of expressions, joined to readers of larger expressions.
use Rattle.std.proofs.Common.{◌≡◌, ℕ, ◌+◌, ◌-◌, ◌<◌, ◌≤◌, Bool, true, false, cond, ◌&&◌, ◌||◌, List, [], ◌∷◌, ◌++◌, length, drop, Option, Some, None, refl, ap, ◌∙◌, arith, length-drop}
use Rattle.std.proofs.lemmas.Bool.{or_parts}
use Rattle.std.proofs.lemmas.List.{drop_all}
use Rattle.tb_token.specs.grammar.Grammar.{Tok, Expression, one, both, either, maybe, many, opened, Rules, has}
use Rattle.tb_token.specs.grammar.Sentences.{Tree, leaf, nothing, pair, first, second, by_one, by_both, by_first, by_second, left_out, put_in, no_more, one_more, by_rule, at_end, IsWrongAt}
use Rattle.tb_token.specs.grammar.Reading.{is_never_empty, may_end, first_set_before, first_set, takes, after, read}
use Rattle.tb_token.specs.grammar.LL1.{AreLL1, AreGood}
use Rattle.tb_token.specs.grammar.Laws.{PlacesAreRight}
use Rattle.tb_token.specs.grammar.Places.{Stands, Stops, IsAt, chain, Repeats}
use Rattle.tb_token.proofs.grammar.TerminalLaws.{none-true, has-left, has-right}
use Rattle.tb_token.proofs.grammar.ReadLaws.{takes-never_empty, read-wrong}

-- A terminal that no sentence of the expression begins with, or none of what may follow where it may be empty.

not-left : (xs ys : List ℕ) (x : ℕ) → has (xs ++ ys) x ≡ false → has xs x ≡ false
not-left xs ys x none = by (has xs x) refl
  where
    by : (is : Bool) → has xs x ≡ is → is ≡ false
    by true e = none-true (has (xs ++ ys) x) none (has-left xs ys x e)
    by false e = refl

not-right : (xs ys : List ℕ) (x : ℕ) → has (xs ++ ys) x ≡ false → has ys x ≡ false
not-right xs ys x none = by (has ys x) refl
  where
    by : (is : Bool) → has ys x ≡ is → is ≡ false
    by true e = none-true (has (xs ++ ys) x) none (has-right xs ys x e)
    by false e = refl

-- what may follow an expression that may be empty is in its FIRST
first_set_before-behind : (p : Expression) (xs : List ℕ) (x : ℕ) → is_never_empty p ≡ false → has (first_set_before p xs) x ≡ false → has xs x ≡ false
first_set_before-behind (one c) xs x empty none = none-true true empty refl
first_set_before-behind (both p q) xs x empty none =
    let parts = or_parts (is_never_empty p) (is_never_empty q) empty in
    first_set_before-behind q xs x parts.1 (first_set_before-behind p (first_set_before q xs) x parts.0 none)
first_set_before-behind (either p q) xs x empty none = by (is_never_empty p) refl empty (λ e. first_set_before-behind p xs x e (not-left (first_set_before p xs) (first_set_before q xs) x none)) (λ e. first_set_before-behind q xs x e (not-right (first_set_before p xs) (first_set_before q xs) x none))
  where
    by : (never_empty : Bool) → is_never_empty p ≡ never_empty → (never_empty && is_never_empty q) ≡ false → (is_never_empty p ≡ false → has xs x ≡ false) → (is_never_empty q ≡ false → has xs x ≡ false) → has xs x ≡ false
    by true e f one_is two_is = two_is f
    by false e f one_is two_is = one_is e
first_set_before-behind (maybe p) xs x empty none = not-right (first_set_before p xs) xs x none
first_set_before-behind (many p) xs x empty none = not-right (first_set_before p xs) xs x none
first_set_before-behind (opened c n) xs x empty none = none-true true empty refl

cond-same : {A : Type 0} (b : Bool) (x : A) → cond b x x ≡ x
cond-same true x = refl
cond-same false x = refl

module _ (rules : Rules) where
  takes-none : (p : Expression) (xs : List ℕ) (x : ℕ) (ps : List Expression) → has (first_set_before p xs) x ≡ false → takes rules p x ps None ≡ None
  takes-none (one c) xs x ps none = rw none refl
  takes-none (both p q) xs x ps none =
      by (is_never_empty p) refl (takes-none p (first_set_before q xs) x (q ∷ ps) none) (λ e. takes-none q xs x ps (first_set_before-behind p (first_set_before q xs) x e none))
    where
      by : (never_empty : Bool) → is_never_empty p ≡ never_empty → takes rules p x (q ∷ ps) None ≡ None → (is_never_empty p ≡ false → takes rules q x ps None ≡ None) → takes rules p x (q ∷ ps) (takes rules q x ps None) ≡ None
      by true e here behind = takes-never_empty rules p x (q ∷ ps) (takes rules q x ps None) None e ∙ here
      by false e here behind = ap (λ o. takes rules p x (q ∷ ps) o) (behind e) ∙ here
  takes-none (either p q) xs x ps none =
      let one_is = takes-none p xs x ps (not-left (first_set_before p xs) (first_set_before q xs) x none) in
      let two_is = takes-none q xs x ps (not-right (first_set_before p xs) (first_set_before q xs) x none) in
      rw (one_is, two_is) (cond-same (has (first_set p) x) None)
  takes-none (maybe p) xs x ps none =
      let here = takes-none p xs x ps (not-left (first_set_before p xs) xs x none) in
      rw here (cond-same (has (first_set p) x) None)
  takes-none (many p) xs x ps none =
      let here = takes-none p xs x (many p ∷ ps) (not-left (first_set_before p xs) xs x none) in
      rw here (cond-same (has (first_set p) x) None)
  takes-none (opened c n) xs x ps none = rw none refl

  -- How the reading of an expression is that of its expressions.

  pub read-end : (p : Expression) (ps : List Expression) → is_never_empty p ≡ true → read rules [] (Some (p ∷ ps)) ≡ Some 0
  read-end p ps never_empty = rw never_empty refl

  pub read-stop : (p : Expression) (t : Tok) (u : List Tok) (ps : List Expression) → is_never_empty p ≡ true → has (first_set p) t.terminal ≡ false → read rules (t ∷ u) (Some (p ∷ ps)) ≡ Some (1 + length u)
  read-stop p t u ps never_empty none =
      ap (λ o. read rules u o) (takes-never_empty rules p t.terminal ps (after rules ps t.terminal) None never_empty ∙ takes-none p [] t.terminal ps none)

  pub read-both : (p q : Expression) (u : List Tok) (ps : List Expression) → read rules u (Some (both p q ∷ ps)) ≡ read rules u (Some (p ∷ q ∷ ps))
  read-both p q [] ps = by (is_never_empty p) (is_never_empty q) (may_end ps)
    where
      by : (a b e : Bool) → ◌≡◌ {A = Option ℕ} (cond (cond (a || b) false true && e) None (Some 0)) (cond (cond a false true && (cond b false true && e)) None (Some 0))
      by true b e = refl
      by false b e = refl
  read-both p q (t ∷ u) ps = refl

  pub read-first : (p q : Expression) (t : Tok) (u : List Tok) (ps : List Expression) → has (first_set p) t.terminal ≡ true → read rules (t ∷ u) (Some (either p q ∷ ps)) ≡ read rules (t ∷ u) (Some (p ∷ ps))
  read-first p q t u ps here =
      let e : after rules (either p q ∷ ps) t.terminal ≡ after rules (p ∷ ps) t.terminal = rw here refl in
      ap (λ o. read rules u o) e

  pub read-second : (p q : Expression) (t : Tok) (u : List Tok) (ps : List Expression) → has (first_set p) t.terminal ≡ false → read rules (t ∷ u) (Some (either p q ∷ ps)) ≡ read rules (t ∷ u) (Some (q ∷ ps))
  read-second p q t u ps other =
      let e : after rules (either p q ∷ ps) t.terminal ≡ after rules (q ∷ ps) t.terminal = rw other refl in
      ap (λ o. read rules u o) e

  pub read-put_in : (p : Expression) (t : Tok) (u : List Tok) (ps : List Expression) → has (first_set p) t.terminal ≡ true → read rules (t ∷ u) (Some (maybe p ∷ ps)) ≡ read rules (t ∷ u) (Some (p ∷ ps))
  read-put_in p t u ps here =
      let e : after rules (maybe p ∷ ps) t.terminal ≡ after rules (p ∷ ps) t.terminal = rw here refl in
      ap (λ o. read rules u o) e

  pub read-left_out : (p : Expression) (t : Tok) (u : List Tok) (ps : List Expression) → has (first_set p) t.terminal ≡ false → read rules (t ∷ u) (Some (maybe p ∷ ps)) ≡ read rules (t ∷ u) (Some ps)
  read-left_out p t u ps other =
      let e : after rules (maybe p ∷ ps) t.terminal ≡ after rules ps t.terminal = rw other refl in
      ap (λ o. read rules u o) e

  pub read-one_more : (p : Expression) (t : Tok) (u : List Tok) (ps : List Expression) → is_never_empty p ≡ true → has (first_set p) t.terminal ≡ true → read rules (t ∷ u) (Some (many p ∷ ps)) ≡ read rules (t ∷ u) (Some (p ∷ many p ∷ ps))
  read-one_more p t u ps never_empty here =
      let same = takes-never_empty rules p t.terminal (many p ∷ ps) None (after rules (many p ∷ ps) t.terminal) never_empty in
      let e : after rules (many p ∷ ps) t.terminal ≡ takes rules p t.terminal (many p ∷ ps) None = rw here refl in
      ap (λ o. read rules u o) (e ∙ same)

  pub read-no_more : (p : Expression) (t : Tok) (u : List Tok) (ps : List Expression) → has (first_set p) t.terminal ≡ false → read rules (t ∷ u) (Some (many p ∷ ps)) ≡ read rules (t ∷ u) (Some ps)
  read-no_more p t u ps other =
      let e : after rules (many p ∷ ps) t.terminal ≡ after rules ps t.terminal = rw other refl in
      ap (λ o. read rules u o) e

  pub read-one : (c : List ℕ) (t : Tok) (u : List Tok) (ps : List Expression) → has c t.terminal ≡ true → read rules (t ∷ u) (Some (one c ∷ ps)) ≡ read rules u (Some ps)
  read-one c t u ps here =
      let e : after rules (one c ∷ ps) t.terminal ≡ Some ps = rw here refl in
      ap (λ o. read rules u o) e

  pub read-rule : (c : List ℕ) (n : ℕ) (t : Tok) (u : List Tok) (ps : List Expression) → has c t.terminal ≡ true → read rules (t ∷ u) (Some (opened c n ∷ ps)) ≡ read rules u (Some (rules n ∷ ps))
  read-rule c n t u ps here =
      let e : after rules (opened c n ∷ ps) t.terminal ≡ Some (rules n ∷ ps) = rw here refl in
      ap (λ o. read rules u o) e

chain-append : (vs us : List Tree) (w : Tree) → chain (vs ++ us) w ≡ chain vs (chain us w)
chain-append [] us w = refl
chain-append (v ∷ vs) us w = ap (λ u. pair v u) (chain-append vs us w)

-- Readers of expressions, joined.

module _ (rules : Rules) (s : List Tok) where
  here-within : (at : ℕ) (t : Tok) → IsAt s at t → at < length s
  here-within at t here =
      let size = ap length here in
      let n = length-drop at s in
      omega arith

  none-left : (at : ℕ) → at ≤ length s → drop at s ≡ [] → at ≡ length s
  none-left at within e =
      let size = ap length e in
      let n = length-drop at s in
      omega arith

  pub one-stands : (c : List ℕ) (at : ℕ) (t : Tok) → IsAt s at t → has c t.terminal ≡ true → Stands rules s (one c) at (at + 1) (leaf t)
  one-stands c at t here h = record {
    from = omega arith;
    to = let within = here-within at t here in omega arith;
    on = λ ps. rw here (read-one rules c t (drop (at + 1) s) ps h);
    made = λ ps vs w. rw here (by_one h w);
  }

  -- an expression that is not nullable stops at a token that it does not begin with
  pub never_empty-stops : (p : Expression) (at : ℕ) (t : Tok) → is_never_empty p ≡ true → IsAt s at t → has (first_set p) t.terminal ≡ false → Stops rules s p at at
  never_empty-stops p at t never_empty here none =
      let within = here-within at t here in
      let size : 1 + length (drop (at + 1) s) ≡ length s - at = omega (arith, length-drop (at + 1) s) in
      record {
        from = omega arith;
        to = omega arith;
        off = λ ps. rw here (read-stop rules p t (drop (at + 1) s) ps never_empty none ∙ ap (λ n. Some n) size);
      }

  -- and at the end
  pub never_empty-ends : (p : Expression) (at : ℕ) → is_never_empty p ≡ true → at ≤ length s → drop at s ≡ [] → Stops rules s p at at
  never_empty-ends p at never_empty within ends =
      let same = none-left at within ends in
      let size : 0 ≡ length s - at = omega arith in
      record {
        from = omega arith;
        to = within;
        off = λ ps. rw ends (read-end rules p ps never_empty ∙ ap (λ n. Some n) size);
      }

  pub both-stands : (p q : Expression) (at mid next : ℕ) (v w : Tree) → Stands rules s p at mid v → Stands rules s q mid next w → Stands rules s (both p q) at next (pair v w)
  both-stands p q at mid next v w one_is two_is =
      let low = one_is.from in
      let high = two_is.from in
      record {
        from = omega arith;
        to = two_is.to;
        on = λ ps. read-both rules p q (drop at s) ps ∙ one_is.on (q ∷ ps) ∙ two_is.on ps;
        made = λ ps vs d. by_both (one_is.made (q ∷ ps) (w ∷ vs) (two_is.made ps vs d));
      }

  pub both-stops_first : (p q : Expression) (at bad : ℕ) → Stops rules s p at bad → Stops rules s (both p q) at bad
  both-stops_first p q at bad stops = record {
    from = stops.from;
    to = stops.to;
    off = λ ps. read-both rules p q (drop at s) ps ∙ stops.off (q ∷ ps);
  }

  pub both-stops_second : (p q : Expression) (at mid bad : ℕ) (v : Tree) → Stands rules s p at mid v → Stops rules s q mid bad → Stops rules s (both p q) at bad
  both-stops_second p q at mid bad v one_is stops =
      let low = one_is.from in
      let high = stops.from in
      record {
        from = omega arith;
        to = stops.to;
        off = λ ps. read-both rules p q (drop at s) ps ∙ one_is.on (q ∷ ps) ∙ stops.off ps;
      }

  -- The next token chooses.

  module _ (p : Expression) (at : ℕ) (t : Tok) (here : IsAt s at t) where
    pub first-stands : (q : Expression) (next : ℕ) (v : Tree) → has (first_set p) t.terminal ≡ true → Stands rules s p at next v → Stands rules s (either p q) at next (first v)
    first-stands q next v h is = record {
      from = is.from;
      to = is.to;
      on = λ ps. rw here (read-first rules p q t (drop (at + 1) s) ps h) ∙ is.on ps;
      made = λ ps vs d. by_first (is.made ps vs d);
    }

    pub first-stops : (q : Expression) (bad : ℕ) → has (first_set p) t.terminal ≡ true → Stops rules s p at bad → Stops rules s (either p q) at bad
    first-stops q bad h stops = record {
      from = stops.from;
      to = stops.to;
      off = λ ps. rw here (read-first rules p q t (drop (at + 1) s) ps h) ∙ stops.off ps;
    }

    pub second-stands : (q : Expression) (next : ℕ) (v : Tree) → has (first_set p) t.terminal ≡ false → Stands rules s q at next v → Stands rules s (either p q) at next (second v)
    second-stands q next v h is = record {
      from = is.from;
      to = is.to;
      on = λ ps. rw here (read-second rules p q t (drop (at + 1) s) ps h) ∙ is.on ps;
      made = λ ps vs d. by_second (is.made ps vs d);
    }

    pub second-stops : (q : Expression) (bad : ℕ) → has (first_set p) t.terminal ≡ false → Stops rules s q at bad → Stops rules s (either p q) at bad
    second-stops q bad h stops = record {
      from = stops.from;
      to = stops.to;
      off = λ ps. rw here (read-second rules p q t (drop (at + 1) s) ps h) ∙ stops.off ps;
    }

    pub put_in-stands : (next : ℕ) (v : Tree) → has (first_set p) t.terminal ≡ true → Stands rules s p at next v → Stands rules s (maybe p) at next v
    put_in-stands next v h is = record {
      from = is.from;
      to = is.to;
      on = λ ps. rw here (read-put_in rules p t (drop (at + 1) s) ps h) ∙ is.on ps;
      made = λ ps vs d. put_in (is.made ps vs d);
    }

    pub put_in-stops : (bad : ℕ) → has (first_set p) t.terminal ≡ true → Stops rules s p at bad → Stops rules s (maybe p) at bad
    put_in-stops bad h stops = record {
      from = stops.from;
      to = stops.to;
      off = λ ps. rw here (read-put_in rules p t (drop (at + 1) s) ps h) ∙ stops.off ps;
    }

    pub left_out-stands : has (first_set p) t.terminal ≡ false → Stands rules s (maybe p) at at nothing
    left_out-stands h = record {
      from = omega arith;
      to = let within = here-within at t here in omega arith;
      on = λ ps. rw here (read-left_out rules p t (drop (at + 1) s) ps h);
      made = λ ps vs d. left_out d;
    }

    pub no_more-stands : has (first_set p) t.terminal ≡ false → Stands rules s (many p) at at nothing
    no_more-stands h = record {
      from = omega arith;
      to = let within = here-within at t here in omega arith;
      on = λ ps. rw here (read-no_more rules p t (drop (at + 1) s) ps h);
      made = λ ps vs d. no_more d;
    }

    pub one_more-stops : (bad : ℕ) → is_never_empty p ≡ true → has (first_set p) t.terminal ≡ true → Stops rules s p at bad → Stops rules s (many p) at bad
    one_more-stops bad never_empty h stops = record {
      from = stops.from;
      to = stops.to;
      off = λ ps. rw here (read-one_more rules p t (drop (at + 1) s) ps never_empty h) ∙ stops.off (many p ∷ ps);
    }

    pub one_more-repeats : (next : ℕ) (v : Tree) → is_never_empty p ≡ true → has (first_set p) t.terminal ≡ true → Stands rules s p at next v → Repeats rules s p at next (v ∷ [])
    one_more-repeats next v never_empty h is = record {
      from = is.from;
      to = is.to;
      on = λ ps. rw here (read-one_more rules p t (drop (at + 1) s) ps never_empty h) ∙ is.on (many p ∷ ps);
      made = λ ps ws w d. one_more (is.made (many p ∷ ps) (w ∷ ws) d);
    }

  pub left_out-ends : (p : Expression) (at : ℕ) → at ≤ length s → drop at s ≡ [] → Stands rules s (maybe p) at at nothing
  left_out-ends p at within ends = record {
    from = omega arith;
    to = within;
    on = λ ps. rw ends refl;
    made = λ ps vs d. left_out d;
  }

  pub no_more-ends : (p : Expression) (at : ℕ) → at ≤ length s → drop at s ≡ [] → Stands rules s (many p) at at nothing
  no_more-ends p at within ends = record {
    from = omega arith;
    to = within;
    on = λ ps. rw ends refl;
    made = λ ps vs d. no_more d;
  }

  pub rule-stands : (c : List ℕ) (n at next : ℕ) (t : Tok) (v : Tree) → IsAt s at t → has c t.terminal ≡ true → Stands rules s (rules n) (at + 1) next v → Stands rules s (opened c n) at next (pair (leaf t) v)
  rule-stands c n at next t v here h is = record {
    from = let low = is.from in omega arith;
    to = is.to;
    on = λ ps. rw here (read-rule rules c n t (drop (at + 1) s) ps h) ∙ is.on ps;
    made = λ ps vs d. rw here (by_rule h (is.made ps vs d));
  }

  pub rule-stops : (c : List ℕ) (n at bad : ℕ) (t : Tok) → IsAt s at t → has c t.terminal ≡ true → Stops rules s (rules n) (at + 1) bad → Stops rules s (opened c n) at bad
  rule-stops c n at bad t here h stops = record {
    from = let low = stops.from in omega arith;
    to = stops.to;
    off = λ ps. rw here (read-rule rules c n t (drop (at + 1) s) ps h) ∙ stops.off ps;
  }

  -- Repetitions, from the left.

  pub repeats-none : (p : Expression) (at : ℕ) → at ≤ length s → Repeats rules s p at at []
  repeats-none p at within = record { from = omega arith; to = within; on = λ ps. refl; made = λ ps ws w d. d }

  pub repeats-append : (p : Expression) (at mid next : ℕ) (vs us : List Tree) → Repeats rules s p at mid vs → Repeats rules s p mid next us → Repeats rules s p at next (vs ++ us)
  repeats-append p at mid next vs us one_is two_is =
      let low = one_is.from in
      let high = two_is.from in
      record {
        from = omega arith;
        to = two_is.to;
        on = λ ps. one_is.on ps ∙ two_is.on ps;
        made = λ ps ws w d. rw (chain-append vs us w) (one_is.made ps ws (chain us w) (two_is.made ps ws w d));
      }

  pub repeats-stands : (p : Expression) (at mid next : ℕ) (vs : List Tree) (w : Tree) → Repeats rules s p at mid vs → Stands rules s (many p) mid next w → Stands rules s (many p) at next (chain vs w)
  repeats-stands p at mid next vs w one_is two_is =
      let low = one_is.from in
      let high = two_is.from in
      record {
        from = omega arith;
        to = two_is.to;
        on = λ ps. one_is.on ps ∙ two_is.on ps;
        made = λ ps ws d. one_is.made ps ws w (two_is.made ps ws d);
      }

  pub repeats-stops : (p : Expression) (at mid bad : ℕ) (vs : List Tree) → Repeats rules s p at mid vs → Stops rules s (many p) mid bad → Stops rules s (many p) at bad
  repeats-stops p at mid bad vs one_is stops =
      let low = one_is.from in
      let high = stops.from in
      record { from = omega arith; to = stops.to; off = λ ps. one_is.on ps ∙ stops.off ps }

-- Readers of a whole list.

read-nothing : (rules : Rules) (s : List Tok) (next : ℕ) → next < length s → read rules (drop next s) (Some []) ≡ Some (length s - next)
read-nothing rules s next more = by (drop next s) (length-drop next s)
  where
    by : (u : List Tok) → length u ≡ length s - next → read rules u (Some []) ≡ Some (length s - next)
    by [] e = absurd (omega arith)
    by (t ∷ u) e = let size : 1 + length u ≡ length s - next = omega arith in ap (λ n. Some n) size

module _ (rules : Rules) (follow : ℕ → List ℕ) (p : Expression) (s : List Tok) (good : AreGood rules follow) (d : AreLL1 follow (p ∷ [])) where
  wrong-at : (bad : ℕ) → bad ≤ length s → read rules s (Some (p ∷ [])) ≡ Some (length s - bad) → IsWrongAt rules (p ∷ []) s (bad + 1)
  wrong-at bad within e =
      let size : length s - (length s - bad) + 1 ≡ bad + 1 = omega arith in
      rw size at (read-wrong rules follow good s (p ∷ []) (length s - bad) d e)

  pub places-right : PlacesAreRight rules p s
  places-right = record {
    stopped = λ bad stops. wrong-at bad stops.to (stops.off []);
    left = λ next v is more. wrong-at next is.to (is.on [] ∙ read-nothing rules s next more);
    whole = λ v is. is.made [] [] (rw (drop_all (length s) s (omega arith)) at_end);
  }
