-- Rounds, and doing commands in any order. A command can be done once the one before it is, and a `hear`
-- once its mark is told; what is done stays done. So whatever the order, the sessions end in one way: of
-- two ends neither can be behind the other, since the first command that one has done and the other hasn't
-- could still be done there.
use Rattle.std.proofs.Common.{◌≡◌, ℕ, zero, suc, ◌+◌, ◌≤◌, Bool, true, false, ◌||◌, ◌==◌, nat_lt, cond, List, [], ◌∷◌, ◌++◌, length, refl, sym, ap, ap₂, ◌∙◌, subst, arith, length-append, eq-eqb, eqb-true}
use Rattle.std.proofs.lemmas.Bool.{false≢true, ltb-true, ltb-false}
use Rattle.tb_script.specs.Rounds.{is_among, can_go, once_done, told_behind, left_behind, told_in_round, left_in_round, total, left_by_rounds, left_at_end}
use Rattle.tb_script.specs.Runs.{Steps, here, there, Runs, stop, go}
use Rattle.tb_script.specs.declared.command.Command.{Command}
use Rattle.tb_script.specs.declared.command.Command.TheVariants.{Load, Query, Tell, Hear}
use Rattle.tb_script.specs.declared.lined_command.LinedCommand.{LinedCommand}

-- no command can be done
abbrev pub IsStill : List ℕ → List (List LinedCommand) → Type 0
IsStill told [] = Unit {0}
IsStill told ([] ∷ ss) = IsStill told ss
IsStill told ((t ∷ ts) ∷ ss) = (can_go told t.command ≡ false) × IsStill told ss

-- all marks of one list are in the other
abbrev pub IsWithin : List ℕ → List ℕ → Type 0
IsWithin told more = (m : ℕ) → is_among m told ≡ true → is_among m more ≡ true

-- what the command tells is told
abbrev TellIn : List ℕ → Command → Type 0
TellIn told (Tell m name) = is_among m told ≡ true
TellIn told _ = Unit {0}

abbrev AreToldIn : List ℕ → List LinedCommand → Type 0
AreToldIn told [] = Unit {0}
AreToldIn told (t ∷ ts) = TellIn told t.command × AreToldIn told ts

-- one session is what is left of the other, and what the commands between them tell is told
record Reaches (told : List ℕ) (s r : List LinedCommand) : Type 0 where
  pub between : List LinedCommand
  pub is : s ≡ between ++ r
  pub tells : AreToldIn told between

abbrev AllReach : List ℕ → List (List LinedCommand) → List (List LinedCommand) → Type 0
AllReach told [] [] = Unit {0}
AllReach told [] (r ∷ rs) = ⊥
AllReach told (s ∷ ss) [] = ⊥
AllReach told (s ∷ ss) (r ∷ rs) = Reaches told s r × AllReach told ss rs

reach-self : (told : List ℕ) (ss : List (List LinedCommand)) → AllReach told ss ss
reach-self told [] = tt
reach-self told (s ∷ ss) = (record { between = []; is = refl; tells = tt }, reach-self told ss)

among-more : (m n : ℕ) (told : List ℕ) → is_among m told ≡ true → is_among m (n ∷ told) ≡ true
among-more m n told e = by (n == m)
  where
    by : (t : Bool) → (t || is_among m told) ≡ true
    by true = refl
    by false = e

within-once : (told : List ℕ) (c : Command) → IsWithin told (once_done told c)
within-once told (Tell n name) m e = among-more m n told e
within-once told (Load n lines) m e = e
within-once told (Query text) m e = e
within-once told (Hear n name) m e = e

step-within : {told told1 : List ℕ} {ss rs : List (List LinedCommand)} → Steps told ss told1 rs → IsWithin told told1
step-within {told = told} (here t ts ss e) = within-once told t.command
step-within (there s step) = step-within step

-- what a step tells is told behind it
step-tells : (told more : List ℕ) (c : Command) → IsWithin (once_done told c) more → TellIn more c
step-tells told more (Tell n name) w = w n (own n)
  where
    own : (n : ℕ) → is_among n (n ∷ told) ≡ true
    own n = rw (eq-eqb n n refl) refl
step-tells told more (Load n lines) w = tt
step-tells told more (Query text) w = tt
step-tells told more (Hear n name) w = tt

-- a step before
reach-before : {told told1 : List ℕ} {ss rs : List (List LinedCommand)} (more : List ℕ) (us : List (List LinedCommand)) → Steps told ss told1 rs → IsWithin told1 more → AllReach more rs us → AllReach more ss us
reach-before {told = told} more [] (here t ts ss e) w r = r
reach-before {told = told} more (u ∷ us) (here t ts ss e) w r =
    (record { between = t ∷ r.0.between; is = ap (λ l. t ∷ l) r.0.is; tells = (step-tells told more t.command w, r.0.tells) }, r.1)
reach-before more [] (there s step) w r = r
reach-before more (u ∷ us) (there s step) w r = (r.0, reach-before more us step w r.1)

reach-runs : {told : List ℕ} {ss : List (List LinedCommand)} {told1 : List ℕ} {rs : List (List LinedCommand)} (more : List ℕ) (us : List (List LinedCommand)) → Runs told ss told1 rs → IsWithin told1 more → AllReach more rs us → AllReach more ss us
reach-runs more us stop w r = r
reach-runs more us (go runs step) w r = reach-runs more us runs (λ m e. w m (step-within step m e)) (reach-before more us step w r)

-- What is left by a run is behind its start, and all that was done is told.
reach : {told : List ℕ} {ss : List (List LinedCommand)} {told1 : List ℕ} {rs : List (List LinedCommand)} → Runs told ss told1 rs → AllReach told1 ss rs
reach {told1 = told1} {rs = rs} runs = reach-runs told1 rs runs (λ m e. e) (reach-self told1 rs)

can-within : (told more : List ℕ) (c : Command) → IsWithin told more → can_go told c ≡ true → can_go more c ≡ true
can-within told more (Hear n name) w e = w n e
can-within told more (Tell n name) w e = refl
can-within told more (Load n lines) w e = refl
can-within told more (Query text) w e = refl

done-within : (told more : List ℕ) (c : Command) → IsWithin told more → TellIn more c → IsWithin (once_done told c) more
done-within told more (Tell n name) w tells m e = by (n == m) refl e
  where
    by : (t : Bool) → (n == m) ≡ t → (t || is_among m told) ≡ true → is_among m more ≡ true
    by true is e = subst (λ k. is_among k more ≡ true) (eqb-true n m is) tells
    by false is e = w m e
done-within told more (Load n lines) w tells m e = w m e
done-within told more (Query text) w tells m e = w m e
done-within told more (Hear n name) w tells m e = w m e

same_tail : (t g : LinedCommand) (ts gs : List LinedCommand) → t ∷ ts ≡ g ∷ gs → (t ≡ g) × (ts ≡ gs)
same_tail t g ts gs e = (cc, cc)

-- a session that goes on stays before the end of another run
go-on : (told more : List ℕ) (t : LinedCommand) (ts : List LinedCommand) (us : List (List LinedCommand)) (between u : List LinedCommand) → t ∷ ts ≡ between ++ u → AreToldIn more between → IsStill more (u ∷ us) → IsWithin told more → can_go told t.command ≡ true
    → IsWithin (once_done told t.command) more × Reaches more ts u
go-on told more t ts us [] [] is tells still w e = absurd (let d : ◌≡◌ {A = List LinedCommand} (t ∷ ts) [] = is in cc)
go-on told more t ts us [] (v ∷ vs) is tells still w e =
    let same = ap (λ (x : LinedCommand). can_go more x.command) (same_tail t v ts vs is).0 in
    absurd (false≢true (sym still.0 ∙ sym same ∙ can-within told more t.command w e))
go-on told more t ts us (g ∷ gs) u is tells still w e =
    let same = same_tail t g ts (gs ++ u) is in (
      done-within told more t.command w (subst (λ (x : LinedCommand). TellIn more x.command) (sym same.0) tells.0),
      record { between = gs; is = same.1; tells = tells.1 },
    )

still-rest : (more : List ℕ) (u : List LinedCommand) (us : List (List LinedCommand)) → IsStill more (u ∷ us) → IsStill more us
still-rest more [] us s = s
still-rest more (t ∷ ts) us s = s.1

-- no step passes the end of another run
step-behind : {told told1 : List ℕ} {ss rs : List (List LinedCommand)} (more : List ℕ) (us : List (List LinedCommand)) → Steps told ss told1 rs → IsStill more us → IsWithin told more → AllReach more ss us
    → IsWithin told1 more × AllReach more rs us
step-behind {told = told} more [] (here t ts ss e) still w r = absurd r
step-behind {told = told} more (u ∷ us) (here t ts ss e) still w r =
    let next = go-on told more t ts us r.0.between u r.0.is r.0.tells still w e in
    (next.0, (next.1, r.1))
step-behind more [] (there s step) still w r = absurd r
step-behind more (u ∷ us) (there s step) still w r =
    let next = step-behind more us step (still-rest more u us still) w r.1 in
    (next.0, (r.0, next.1))

-- no run does
run-behind : {told : List ℕ} {ss : List (List LinedCommand)} {told1 : List ℕ} {rs : List (List LinedCommand)} (more : List ℕ) (us : List (List LinedCommand)) → Runs told ss told1 rs → IsStill more us → IsWithin told more → AllReach more ss us
    → IsWithin told1 more × AllReach more rs us
run-behind more us stop still w r = (w, r)
run-behind more us (go runs step) still w r =
    let before = run-behind more us runs still w r in
    step-behind more us step still before.0 before.1

no-longer : (between back s u : List LinedCommand) → s ≡ between ++ u → u ≡ back ++ s → s ≡ u
no-longer [] back s u e f = e
no-longer (t ∷ ts) back s u e f =
    let more = ap length e ∙ length-append (t ∷ ts) u in
    let less = ap length f ∙ length-append back s in
    absurd (omega (arith, more, less))

both-reach : (a b : List ℕ) (ss us : List (List LinedCommand)) → AllReach a ss us → AllReach b us ss → ss ≡ us
both-reach a b [] [] r q = refl
both-reach a b [] (u ∷ us) r q = absurd r
both-reach a b (s ∷ ss) [] r q = absurd r
both-reach a b (s ∷ ss) (u ∷ us) r q = ap₂ (λ x xs. x ∷ xs) (no-longer r.0.between q.0.between s u r.0.is q.0.is) (both-reach a b ss us r.1 q.1)

within-none : (more : List ℕ) → IsWithin [] more
within-none more m e = absurd (false≢true e)

-- Two runs to the end leave the same.
pub one-end : (a b : List ℕ) (ss rs us : List (List LinedCommand)) → Runs [] ss a rs → IsStill a rs → Runs [] ss b us → IsStill b us → rs ≡ us
one-end a b ss rs us left still right other =
    both-reach b a rs us
    (run-behind b us left other (within-none b) (reach right)).1
    (run-behind a rs right still (within-none a) (reach left)).1

-- a run and then another
run-then : {told : List ℕ} {ss : List (List LinedCommand)} {told1 : List ℕ} {rs : List (List LinedCommand)} {told2 : List ℕ} {us : List (List LinedCommand)} → Runs told ss told1 rs → Runs told1 rs told2 us → Runs told ss told2 us
run-then first stop = first
run-then first (go runs step) = go (run-then first runs) step

run-there : {told : List ℕ} {ss : List (List LinedCommand)} {told1 : List ℕ} {rs : List (List LinedCommand)} (s : List LinedCommand) → Runs told ss told1 rs → Runs told (s ∷ ss) told1 (s ∷ rs)
run-there s stop = stop
run-there s (go runs step) = go (run-there s runs) (there s step)

-- a turn of a session does one command or none
turn-runs : (told : List ℕ) (s : List LinedCommand) (ss : List (List LinedCommand)) → Runs told (s ∷ ss) (told_behind told s) (left_behind told s ∷ ss)
turn-runs told [] ss = stop
turn-runs told (t ∷ ts) ss = by (can_go told t.command) refl
  where
    by : (b : Bool) → can_go told t.command ≡ b → Runs told ((t ∷ ts) ∷ ss) (cond b (once_done told t.command) told) (cond b ts (t ∷ ts) ∷ ss)
    by true e = go stop (here t ts ss e)
    by false e = stop

round-runs : (told : List ℕ) (ss : List (List LinedCommand)) → Runs told ss (told_in_round told ss) (left_in_round told ss)
round-runs told [] = stop
round-runs told (s ∷ ss) = run-then (turn-runs told s ss) (run-there (left_behind told s) (round-runs (told_behind told s) ss))

-- the marks that are told behind so many rounds
abbrev pub told_by_rounds : ℕ → List ℕ → List (List LinedCommand) → List ℕ
told_by_rounds zero told ss = told
told_by_rounds (suc k) told ss = told_by_rounds k (told_in_round told ss) (left_in_round told ss)

rounds-run : (k : ℕ) (told : List ℕ) (ss : List (List LinedCommand)) → Runs told ss (told_by_rounds k told ss) (left_by_rounds k told ss)
rounds-run zero told ss = stop
rounds-run (suc k) told ss = run-then (round-runs told ss) (rounds-run k (told_in_round told ss) (left_in_round told ss))

fewer-turn : (told : List ℕ) (s : List LinedCommand) → length (left_behind told s) ≤ length s
fewer-turn told [] = omega arith
fewer-turn told (t ∷ ts) = by (can_go told t.command)
  where
    by : (b : Bool) → length (cond b ts (t ∷ ts)) ≤ length (t ∷ ts)
    by true = omega arith
    by false = omega arith

pub fewer-round : (told : List ℕ) (ss : List (List LinedCommand)) → total (left_in_round told ss) ≤ total ss
fewer-round told [] = omega arith
fewer-round told (s ∷ ss) = omega (arith, fewer-turn told s, fewer-round (told_behind told s) ss)

-- a round that leaves all commands does nothing, and no command can be done
record IsIdle (told : List ℕ) (ss : List (List LinedCommand)) : Type 0 where
  pub left : left_in_round told ss ≡ ss
  pub same : told_in_round told ss ≡ told
  pub still : IsStill told ss

idle : (told : List ℕ) (ss : List (List LinedCommand)) → total ss ≤ total (left_in_round told ss) → IsIdle told ss
idle told [] e = record { left = refl; same = refl; still = tt }
idle told ([] ∷ ss) e =
    let rest = idle told ss (omega (arith, e)) in
    record { left = ap (λ rs. [] ∷ rs) rest.left; same = rest.same; still = rest.still }
idle told ((t ∷ ts) ∷ ss) e = by (can_go told t.command) refl e (λ d. idle told ss d)
  where
    by : (b : Bool) → can_go told t.command ≡ b
        → length (t ∷ ts) + total ss ≤ length (cond b ts (t ∷ ts)) + total (left_in_round (cond b (once_done told t.command) told) ss)
        → (total ss ≤ total (left_in_round told ss) → IsIdle told ss) → IsIdle told ((t ∷ ts) ∷ ss)
    by true is e ih = absurd (omega (arith, e, fewer-round (once_done told t.command) ss))
    by false is e ih =
        let rest = ih (omega (arith, e)) in
        record { left = rw is (ap (λ rs. (t ∷ ts) ∷ rs) rest.left); same = rw is rest.same; still = (is, rest.still) }

none-still : (told : List ℕ) (ss : List (List LinedCommand)) → total ss ≡ 0 → IsStill told ss
none-still told [] e = tt
none-still told ([] ∷ ss) e = none-still told ss (omega (arith, e))
none-still told ((t ∷ ts) ∷ ss) e = absurd (omega (arith, e))

stay : (k : ℕ) (told : List ℕ) (ss : List (List LinedCommand)) → IsIdle told ss → IsStill (told_by_rounds k told ss) (left_by_rounds k told ss)
stay zero told ss i = i.still
stay (suc k) told ss i = rw (i.left, i.same) (stay k told ss i)

pub rounds-still : (k : ℕ) (told : List ℕ) (ss : List (List LinedCommand)) → total ss ≤ k → IsStill (told_by_rounds k told ss) (left_by_rounds k told ss)
rounds-still zero told ss e = none-still told ss (omega (arith, e))
rounds-still (suc k) told ss e = by (nat_lt (total (left_in_round told ss)) (total ss)) refl (λ d. rounds-still k (told_in_round told ss) (left_in_round told ss) d)
  where
    by : (b : Bool) → nat_lt (total (left_in_round told ss)) (total ss) ≡ b
        → (total (left_in_round told ss) ≤ k → IsStill (told_by_rounds (suc k) told ss) (left_by_rounds (suc k) told ss))
        → IsStill (told_by_rounds (suc k) told ss) (left_by_rounds (suc k) told ss)
    by true f ih = ih (omega (arith, e, ltb-true (total (left_in_round told ss)) (total ss) f))
    by false f ih = stay (suc k) told ss (idle told ss (ltb-false (total (left_in_round told ss)) (total ss) f))

-- No command can be done when the rounds end.
pub end-still : (ss : List (List LinedCommand)) → IsStill (told_by_rounds (total ss) [] ss) (left_at_end ss)
end-still ss = rounds-still (total ss) [] ss (omega arith)

-- A run to the end leaves what the rounds leave.
pub ends_alike : (a : List ℕ) (ss rs : List (List LinedCommand)) → Runs [] ss a rs → IsStill a rs → rs ≡ left_at_end ss
ends_alike a ss rs run still =
    one-end a (told_by_rounds (total ss) [] ss) ss rs (left_at_end ss) run still
    (rounds-run (total ss) [] ss) (end-still ss)
