-- What the order of the rounds keeps: each step's command is there, a `hear` stands behind the `tell` of
-- its mark, each session's commands stand in their order, and each stands once.
use Rattle.std.proofs.Common.{◌≡◌, ℕ, zero, suc, ◌+◌, ◌*◌, ◌<◌, ◌≤◌, nat_lt, Bool, true, false, ◌||◌, ◌==◌, cond, Option, Some, None, List, [], ◌∷◌, ◌++◌, map, length, get_or, set, drop, refl, sym, ap, ap₂, ◌∙◌, subst, arith, add-one, append-nil, eq-eqb, eqb-true}
use Rattle.std.specs.List.{AllByRecursion, range_with_len, slice_get}
use Rattle.std.specs.Prelude.{IsSome}
use Rattle.std.specs.Option.{option_to_list}
use Rattle.std.proofs.lemmas.Bool.{false≢true, ltb-true, ltb-false}
use Rattle.std.proofs.lemmas.Option.{slice_get_within}
use Rattle.std.proofs.lemmas.List.{get_or_past, get_or-set_same, get_or-set_other}
use Rattle.tb_script.specs.Rounds.{is_among, can_go, once_done, total, left_at_end, numbered}
use Rattle.tb_script.specs.Runnable.{AreThrough, AreRunnable, HasMarkBelow, loads_of, loads_in, tells_of, tells_in}
use Rattle.tb_script.specs.Schedule.{schedule_of, command_at, commands_of_steps, MayGo, GoOn, numbers_of}
use Rattle.tb_script.specs.declared.command.Command.{Command}
use Rattle.tb_script.specs.declared.command.Command.TheVariants.{Load, Query, Tell, Hear}
use Rattle.tb_script.specs.declared.lined_command.LinedCommand.{LinedCommand}
use Rattle.tb_script.specs.declared.turnstep.Turnstep.{Turnstep}
use Rattle.tb_script.proofs.RoundLaws.{told_by_rounds}
use Rattle.tb_script.proofs.StepLaws.{IsNextStep, Takes, rounds-take, row-within}
use Rattle.tb_script.proofs.WalkLaws.{apart}

-- what is left of a session is its last commands, with their numbers
record IsRest (cs : List Command) (s : List LinedCommand) : Type 0 where
  pub behind : ℕ
  pub is : s ≡ numbered behind (drop behind cs)

abbrev AreRests : List (List Command) → List (List LinedCommand) → Type 0
AreRests css ss = (at : ℕ) → IsRest (get_or css at []) (get_or ss at [])

first-row : (css : List (List Command)) (at : ℕ) → get_or (map (numbered 0) css) at [] ≡ numbered 0 (get_or css at [])
first-row [] at = get_or_past [] at [] (omega arith) ∙ ap (numbered 0) (sym (get_or_past [] at [] (omega arith)))
first-row (cs ∷ css) zero = refl
first-row (cs ∷ css) (suc at) = first-row css at

first-rests : (css : List (List Command)) → AreRests css (map (numbered 0) css)
first-rests css at = record { behind = 0; is = first-row css at }

-- the first of what is left of some commands, and what is behind it
drop-next : (n : ℕ) (cs : List Command) (c : Command) (rest : List Command) → drop n cs ≡ c ∷ rest → (slice_get cs n ≡ Some c) × (drop (suc n) cs ≡ rest)
drop-next zero [] c rest e = absurd (let d : ◌≡◌ {A = List Command} [] (c ∷ rest) = e in cc)
drop-next (suc n) [] c rest e = absurd (let d : ◌≡◌ {A = List Command} [] (c ∷ rest) = e in cc)
drop-next zero (x ∷ xs) c rest e = (cc, cc)
drop-next (suc n) (x ∷ xs) c rest e = drop-next n xs c rest e

-- a session's next command, and what is left behind it
record IsHead (cs : List Command) (t : LinedCommand) (ts : List LinedCommand) : Type 0 where
  pub command : slice_get cs t.line ≡ Some t.command
  pub rest : IsRest cs ts

head : (cs : List Command) (t : LinedCommand) (ts : List LinedCommand) → IsRest cs (t ∷ ts) → IsHead cs t ts
head cs t ts r = by (drop r.behind cs) refl r.is
  where
    by : (ds : List Command) → drop r.behind cs ≡ ds → t ∷ ts ≡ numbered r.behind ds → IsHead cs t ts
    by [] e is = absurd (let d : ◌≡◌ {A = List LinedCommand} (t ∷ ts) [] = is in cc)
    by (d ∷ ds) e is =
        let next = drop-next r.behind cs d ds e in
        let first : LinedCommand = record { line = r.behind; command = d } in
        let same : t ≡ first = cc in
        let rest : ts ≡ numbered (r.behind + 1) ds = cc in
        record {
          command = ap (λ (x : LinedCommand). slice_get cs x.line) same ∙ next.0 ∙ ap (λ (x : LinedCommand). Some x.command) (sym same);
          rest = record { behind = r.behind + 1; is = rest ∙ ap (numbered (r.behind + 1)) (sym next.1 ∙ ap (λ n. drop n cs) (sym (add-one r.behind))) };
        }

rests-step : (css : List (List Command)) (told : List ℕ) (ss : List (List LinedCommand)) (step : Turnstep) (t : LinedCommand) (ts : List LinedCommand) → AreRests css ss → IsNextStep told ss step t ts
    → (command_at css step ≡ Some t.command) × AreRests css (set ss step.session ts)
rests-step css told ss step t ts rests next =
    let here = head (get_or css step.session []) t ts (subst (IsRest (get_or css step.session [])) next.row (rests step.session)) in
    (ap (λ n. slice_get (get_or css step.session []) n) (sym next.number) ∙ here.command, λ at. by here.rest at (step.session == at) refl)
  where
    by : IsRest (get_or css step.session []) ts → (at : ℕ) (b : Bool) → (step.session == at) ≡ b → IsRest (get_or css at []) (get_or (set ss step.session ts) at [])
    by rest at true e =
        let row = get_or-set_same ss step.session ts [] (row-within ss step.session t ts next.row) in
        subst (λ k. IsRest (get_or css k []) (get_or (set ss step.session ts) k [])) (eqb-true step.session at e) (subst (IsRest (get_or css step.session [])) (sym row) rest)
    by rest at false e =
        subst (IsRest (get_or css at [])) (sym (get_or-set_other ss step.session at ts [] (apart step.session at e))) (rests at)

-- what holds of all commands holds of those of the steps
at-all : (P : Command → Type 0) (cs : List Command) (n : ℕ) (c : Command) → AllByRecursion P cs → slice_get cs n ≡ Some c → P c
at-all P [] n c all e = absurd (let d : ◌≡◌ {A = Option Command} None (Some c) = e in cc)
at-all P (x ∷ xs) zero c all e = let same : x ≡ c = cc in subst P same all.0
at-all P (x ∷ xs) (suc n) c all e = at-all P xs n c all.1 e

row-all : (P : Command → Type 0) (css : List (List Command)) (at : ℕ) → AllByRecursion (AllByRecursion P) css → AllByRecursion P (get_or css at [])
row-all P [] at all = subst (AllByRecursion P) (sym (get_or_past [] at [] (omega arith))) tt
row-all P (cs ∷ css) zero all = all.0
row-all P (cs ∷ css) (suc at) all = row-all P css at all.1

-- What holds of all commands holds of those of any steps.
pub steps-keep : (P : Command → Type 0) (css : List (List Command)) (steps : List Turnstep) → AllByRecursion (AllByRecursion P) css → AllByRecursion P (commands_of_steps css steps)
steps-keep P css [] all = tt
steps-keep P css (step ∷ steps) all = by (command_at css step) refl (steps-keep P css steps all)
  where
    by : (o : Option Command) → command_at css step ≡ o → AllByRecursion P (commands_of_steps css steps) → AllByRecursion P (option_to_list o ++ commands_of_steps css steps)
    by None e rest = rest
    by (Some c) e rest = (at-all P (get_or css step.session []) step.command c (row-all P css step.session all) e, rest)

-- the commands of steps, the first of which has one
pub commands-next : (css : List (List Command)) (step : Turnstep) (steps : List Turnstep) (c : Command) → command_at css step ≡ Some c → commands_of_steps css (step ∷ steps) ≡ c ∷ commands_of_steps css steps
commands-next css step steps c e = ap (λ o. option_to_list o ++ commands_of_steps css steps) e

-- the order of the rounds is taken, and this is left at the end
pub schedule-taken : (css : List (List Command)) → Takes [] (map (numbered 0) css) (schedule_of css) (told_by_rounds (total (map (numbered 0) css)) [] (map (numbered 0) css)) (left_at_end (map (numbered 0) css))
schedule-taken css = rounds-take (total (map (numbered 0) css)) [] (map (numbered 0) css)

taken-within : (css : List (List Command)) (told : List ℕ) (ss : List (List LinedCommand)) (steps : List Turnstep) (more : List ℕ) (us : List (List LinedCommand)) → AreRests css ss → Takes told ss steps more us → AllByRecursion (λ step. IsSome (command_at css step)) steps
taken-within css told ss [] more us rests p = tt
taken-within css told ss (step ∷ steps) more us rests p =
    let next = rests-step css told ss step p.0 p.1 rests p.2 in
    (subst (λ o. IsSome o) (sym next.0) refl, taken-within css (once_done told (p.0).command) (set ss step.session p.1) steps more us next.1 p.3)

-- Each step's command is there.
pub schedule-within : (css : List (List Command)) → AllByRecursion (λ step. IsSome (command_at css step)) (schedule_of css)
schedule-within css = taken-within css [] (map (numbered 0) css) (schedule_of css) _ _ (first-rests css) (schedule-taken css)

-- The numbers of a step whose command is there are those of a session and of one of its commands.
pub step-places : (css : List (List Command)) (step : Turnstep) → IsSome (command_at css step) → (step.session < length css) × (step.command < length (get_or css step.session []))
step-places css step there = by (command_at css step) refl there
  where
    session : (n : ℕ) → n < length (get_or css step.session []) → (b : Bool) → nat_lt step.session (length css) ≡ b → step.session < length css
    session n within true e = ltb-true step.session (length css) e
    session n within false e = absurd (omega (arith, within, ap length (get_or_past css step.session [] (ltb-false step.session (length css) e))))

    by : (o : Option Command) → command_at css step ≡ o → IsSome o → (step.session < length css) × (step.command < length (get_or css step.session []))
    by None e some = absurd (false≢true some)
    by (Some c) e some =
        let within = slice_get_within (get_or css step.session []) step.command c e in
        (session step.command within (nat_lt step.session (length css)) refl, within)

-- a sum over commands
module _ (f : Command → ℕ) where
  abbrev pub sum_over : List Command → ℕ
  sum_over [] = 0
  sum_over (c ∷ cs) = f c + sum_over cs

  abbrev pub turns_sum : List LinedCommand → ℕ
  turns_sum [] = 0
  turns_sum (t ∷ ts) = f t.command + turns_sum ts

  abbrev pub rows_sum : List (List LinedCommand) → ℕ
  rows_sum [] = 0
  rows_sum (s ∷ ss) = turns_sum s + rows_sum ss

  sum-step : (ss : List (List LinedCommand)) (at : ℕ) (t : LinedCommand) (ts : List LinedCommand) → get_or ss at [] ≡ t ∷ ts → rows_sum ss ≡ f t.command + rows_sum (set ss at ts)
  sum-step [] at t ts row = absurd (omega (arith, row-within [] at t ts row))
  sum-step (s ∷ ss) zero t ts row = let sum : turns_sum s ≡ f t.command + turns_sum ts = ap turns_sum row in omega (arith, sum)
  sum-step (s ∷ ss) (suc at) t ts row = omega (arith, sum-step ss at t ts row)

  taken-sum : (css : List (List Command)) (told : List ℕ) (ss : List (List LinedCommand)) (steps : List Turnstep) (more : List ℕ) (us : List (List LinedCommand)) → AreRests css ss → Takes told ss steps more us
      → rows_sum ss ≡ sum_over (commands_of_steps css steps) + rows_sum us
  taken-sum css told ss [] more us rests p = omega (arith, ap rows_sum p.1)
  taken-sum css told ss (step ∷ steps) more us rests p =
      let next = rests-step css told ss step p.0 p.1 rests p.2 in
      let ih = taken-sum css (once_done told (p.0).command) (set ss step.session p.1) steps more us next.1 p.3 in
      let first = ap sum_over (commands-next css step steps (p.0).command next.0) in
      omega (arith, ih, first, sum-step ss step.session p.0 p.1 (p.2).row)

  -- what all commands sum to
  plain_sum : (n : ℕ) (cs : List Command) → turns_sum (numbered n cs) ≡ sum_over cs
  plain_sum n [] = refl
  plain_sum n (c ∷ cs) = ap (λ m. f c + m) (plain_sum (n + 1) cs)

  abbrev pub sum_in : List (List Command) → ℕ
  sum_in [] = 0
  sum_in (cs ∷ css) = sum_over cs + sum_in css

  plain_sums : (css : List (List Command)) → rows_sum (map (numbered 0) css) ≡ sum_in css
  plain_sums [] = refl
  plain_sums (cs ∷ css) = ap₂ (λ m n. m + n) (plain_sum 0 cs) (plain_sums css)

  none-sum : (us : List (List LinedCommand)) → AreThrough (map (map (λ t. t.command)) us) → rows_sum us ≡ 0
  none-sum [] e = refl
  none-sum ([] ∷ us) e = omega (arith, none-sum us e.1)
  none-sum ((t ∷ ts) ∷ us) e = absurd (let d : ◌≡◌ {A = List Command} (t.command ∷ map (λ (u : LinedCommand). u.command) ts) [] = e.0 in cc)

  -- Where the rounds leave nothing, the commands of their steps sum to what all commands do.
  pub schedule-sum : (css : List (List Command)) (marks : ℕ) → AreRunnable css marks → sum_over (commands_of_steps css (schedule_of css)) ≡ sum_in css
  schedule-sum css marks r =
      let all = taken-sum css [] (map (numbered 0) css) (schedule_of css) _ _ (first-rests css) (schedule-taken css) in
      omega (arith, all, plain_sums css, none-sum (left_at_end (map (numbered 0) css)) r.through)

-- 1 for a load, and 0 for any other command
abbrev pub load_once : Command → ℕ
load_once (Load name lines) = 1
load_once _ = 0

loads-sum : (cs : List Command) → loads_of cs ≡ sum_over load_once cs
loads-sum [] = refl
loads-sum (c ∷ cs) = by c (loads-sum cs)
  where
    by : (c : Command) → loads_of cs ≡ sum_over load_once cs → loads_of (c ∷ cs) ≡ load_once c + sum_over load_once cs
    by (Load name lines) ih = omega (arith, ih)
    by (Query text) ih = omega (arith, ih)
    by (Tell mark name) ih = omega (arith, ih)
    by (Hear mark name) ih = omega (arith, ih)

loads-sums : (css : List (List Command)) → loads_in css ≡ sum_in load_once css
loads-sums [] = refl
loads-sums (cs ∷ css) = omega (arith, loads-sum cs, loads-sums css)

-- how many commands some steps have
steps-count : (css : List (List Command)) (steps : List Turnstep) → AllByRecursion (λ step. IsSome (command_at css step)) steps → sum_over (λ c. 1) (commands_of_steps css steps) ≡ length steps
steps-count css [] all = refl
steps-count css (step ∷ steps) all = by (command_at css step) all.0 (steps-count css steps all.1)
  where
    by : (o : Option Command) → IsSome o → sum_over (λ c. 1) (commands_of_steps css steps) ≡ length steps → sum_over (λ c. 1) (option_to_list o ++ commands_of_steps css steps) ≡ suc (length steps)
    by None some ih = absurd (false≢true some)
    by (Some c) some ih = omega (arith, ih)

count-length : (cs : List Command) → sum_over (λ c. 1) cs ≡ length cs
count-length [] = refl
count-length (c ∷ cs) = omega (arith, count-length cs)

count-few : (css : List (List Command)) → AllByRecursion (λ cs. length cs ≤ 10000) css → sum_in (λ c. 1) css ≤ 10000 * length css
count-few [] few = omega arith
count-few (cs ∷ css) few = omega (arith, few.0, count-length cs, count-few css few.1)

-- There are at most 64 times 10,000 steps.
pub schedule-few : (css : List (List Command)) (marks : ℕ) → AreRunnable css marks → length (schedule_of css) ≤ 640000
schedule-few css marks r = omega (arith, steps-count css (schedule_of css) (schedule-within css), schedule-sum (λ c. 1) css marks r, count-few css r.commands_fit, r.sessions_fit)

-- The steps have as many loads as the sessions.
pub schedule-loads : (css : List (List Command)) (marks : ℕ) → AreRunnable css marks → loads_of (commands_of_steps css (schedule_of css)) ≡ loads_in css
schedule-loads css marks r = omega (arith, loads-sum (commands_of_steps css (schedule_of css)), schedule-sum load_once css marks r, loads-sums css)

-- The marks of the commands have numbers below their count.
pub schedule-below : (css : List (List Command)) (marks : ℕ) → AreRunnable css marks → AllByRecursion (HasMarkBelow marks) (commands_of_steps css (schedule_of css))
schedule-below css marks r = steps-keep (HasMarkBelow marks) css (schedule_of css) r.below

-- 1 where two marks are the same
abbrev once : ℕ → ℕ → ℕ
once m n = cond (n == m) 1 0

-- how often a mark is among those told
abbrev times : ℕ → List ℕ → ℕ
times m [] = 0
times m (n ∷ told) = once m n + times m told

-- 1 where the command tells the mark
abbrev tells : ℕ → Command → ℕ
tells m (Tell n name) = once m n
tells m _ = 0

once-same : (m : ℕ) → once m m ≡ 1
once-same m = rw (eq-eqb m m refl) refl

times-none : (m : ℕ) (told : List ℕ) → times m told ≡ 0 → is_among m told ≡ false
times-none m [] e = refl
times-none m (n ∷ told) e = by (n == m) e (times-none m told)
  where
    by : (b : Bool) → cond b 1 0 + times m told ≡ 0 → (times m told ≡ 0 → is_among m told ≡ false) → (b || is_among m told) ≡ false
    by true e ih = absurd (omega (arith, e))
    by false e ih = ih (omega (arith, e))

-- a mark is told at most once, so far and by what is left
abbrev AreToldOnce : List ℕ → List (List LinedCommand) → Type 0
AreToldOnce told ss = (m : ℕ) → times m told + rows_sum (tells m) ss ≤ 1

times-done : (m : ℕ) (told : List ℕ) (c : Command) → times m (once_done told c) ≡ times m told + tells m c
times-done m told (Tell n name) = omega arith
times-done m told (Load name lines) = omega arith
times-done m told (Query text) = omega arith
times-done m told (Hear n name) = omega arith

may-go : (told : List ℕ) (c : Command) → can_go told c ≡ true → ((m : ℕ) → times m told + tells m c ≤ 1) → MayGo told c
may-go told (Tell n name) can few = times-none n told (omega (arith, few n, once-same n))
may-go told (Hear n name) can few = can
may-go told (Load name lines) can few = tt
may-go told (Query text) can few = tt

taken-on : (css : List (List Command)) (told : List ℕ) (ss : List (List LinedCommand)) (steps : List Turnstep) (more : List ℕ) (us : List (List LinedCommand)) → AreRests css ss → AreToldOnce told ss → Takes told ss steps more us
    → GoOn told (commands_of_steps css steps)
taken-on css told ss [] more us rests few p = tt
taken-on css told ss (step ∷ steps) more us rests few p =
    let next = rests-step css told ss step p.0 p.1 rests p.2 in
    let c = (p.0).command in
    let falls = λ (m : ℕ). sum-step (tells m) ss step.session p.0 p.1 (p.2).row in
    let later = λ (m : ℕ). times-done m told c in
    subst (GoOn told) (sym (commands-next css step steps c next.0)) (
      may-go told c (p.2).can (λ m. omega (arith, few m, falls m)),
      taken-on css (once_done told c) (set ss step.session p.1) steps more us next.1 (λ m. omega (arith, few m, falls m, later m)) p.3,
    )

times-append : (m : ℕ) (xs ys : List ℕ) → times m (xs ++ ys) ≡ times m xs + times m ys
times-append m [] ys = omega arith
times-append m (x ∷ xs) ys = omega (arith, times-append m xs ys)

tells-times : (m : ℕ) (cs : List Command) → sum_over (tells m) cs ≡ times m (tells_of cs)
tells-times m [] = refl
tells-times m (c ∷ cs) = by c (tells-times m cs)
  where
    by : (c : Command) → sum_over (tells m) cs ≡ times m (tells_of cs) → tells m c + sum_over (tells m) cs ≡ times m (tells_of (c ∷ cs))
    by (Load name lines) ih = omega (arith, ih)
    by (Query text) ih = omega (arith, ih)
    by (Tell mark name) ih = omega (arith, ih)
    by (Hear mark name) ih = omega (arith, ih)

tells-times_in : (m : ℕ) (css : List (List Command)) → sum_in (tells m) css ≡ times m (tells_in css)
tells-times_in m [] = refl
tells-times_in m (cs ∷ css) = omega (arith, tells-times m cs, tells-times_in m css, times-append m (tells_of cs) (tells_in css))

-- numbers in order differ
range-below : (m a n : ℕ) → m < a → times m (range_with_len a n) ≡ 0
range-below m a zero e = refl
range-below m a (suc n) e = by (a == m) refl (range-below m (a + 1) n (omega (arith, e)))
  where
    by : (b : Bool) → (a == m) ≡ b → times m (range_with_len (a + 1) n) ≡ 0 → cond b 1 0 + times m (range_with_len (a + 1) n) ≡ 0
    by true f ih = absurd (omega (arith, e, eqb-true a m f))
    by false f ih = omega (arith, ih)

range-once : (m a n : ℕ) → times m (range_with_len a n) ≤ 1
range-once m a zero = omega arith
range-once m a (suc n) = by (a == m) refl (range-once m (a + 1) n)
  where
    by : (b : Bool) → (a == m) ≡ b → times m (range_with_len (a + 1) n) ≤ 1 → cond b 1 0 + times m (range_with_len (a + 1) n) ≤ 1
    by true f ih = let same = eqb-true a m f in omega (arith, range-below m (a + 1) n (omega (arith, same)))
    by false f ih = omega (arith, ih)

-- Done in the order of the rounds, each `hear` stands behind the `tell` of its mark, and no mark is
-- told twice.
pub schedule-goes_on : (css : List (List Command)) (marks : ℕ) → AreRunnable css marks → GoOn [] (commands_of_steps css (schedule_of css))
schedule-goes_on css marks r = taken-on css [] (map (numbered 0) css) (schedule_of css) _ _ (first-rests css) few (schedule-taken css)
  where
    few : AreToldOnce [] (map (numbered 0) css)
    few m = omega (arith, plain_sums (tells m) css, tells-times_in m css, ap (times m) r.told, range-once m 0 marks)

-- the numbers of what is left of a session
abbrev lines_of : List LinedCommand → List ℕ
lines_of s = map (λ t. t.line) s

taken-numbers : (session : ℕ) (told : List ℕ) (ss : List (List LinedCommand)) (steps : List Turnstep) (more : List ℕ) (us : List (List LinedCommand)) → Takes told ss steps more us
    → lines_of (get_or ss session []) ≡ numbers_of session steps ++ lines_of (get_or us session [])
taken-numbers session told ss [] more us p = ap (λ rs. lines_of (get_or rs session [])) (sym p.1)
taken-numbers session told ss (step ∷ steps) more us p =
    by (step.session == session) refl (taken-numbers session (once_done told (p.0).command) (set ss step.session p.1) steps more us p.3)
  where
    by : (b : Bool) → (step.session == session) ≡ b → lines_of (get_or (set ss step.session p.1) session []) ≡ numbers_of session steps ++ lines_of (get_or us session [])
        → lines_of (get_or ss session []) ≡ cond b (step.command ∷ numbers_of session steps) (numbers_of session steps) ++ lines_of (get_or us session [])
    by true e ih =
        let here : get_or ss session [] ≡ p.0 ∷ p.1 = subst (λ k. get_or ss k [] ≡ p.0 ∷ p.1) (eqb-true step.session session e) (p.2).row in
        let rest : get_or (set ss step.session p.1) session [] ≡ p.1 =
        subst (λ k. get_or (set ss step.session p.1) k [] ≡ p.1) (eqb-true step.session session e) (get_or-set_same ss step.session p.1 [] (row-within ss step.session p.0 p.1 (p.2).row)) in
        ap lines_of here ∙ ap₂ (λ n ns. n ∷ ns) (p.2).number (ap lines_of (sym rest) ∙ ih)
    by false e ih = ap lines_of (sym (get_or-set_other ss step.session session p.1 [] (apart step.session session e))) ∙ ih

numbered-lines : (n : ℕ) (cs : List Command) → lines_of (numbered n cs) ≡ range_with_len n (length cs)
numbered-lines n [] = refl
numbered-lines n (c ∷ cs) = ap (λ ns. n ∷ ns) (numbered-lines (n + 1) cs)

through-row : (us : List (List LinedCommand)) (session : ℕ) → AreThrough (map (map (λ t. t.command)) us) → lines_of (get_or us session []) ≡ []
through-row [] session e = ap lines_of (get_or_past [] session [] (omega arith))
through-row ([] ∷ us) zero e = refl
through-row ((t ∷ ts) ∷ us) zero e = absurd (let d : ◌≡◌ {A = List Command} (t.command ∷ map (λ (u : LinedCommand). u.command) ts) [] = e.0 in cc)
through-row (u ∷ us) (suc session) e = through-row us session e.1

-- Each session's commands stand in their order, each once.
pub schedule-keeps : (css : List (List Command)) (marks : ℕ) → AreRunnable css marks → (session : ℕ) → numbers_of session (schedule_of css) ≡ range_with_len 0 (length (get_or css session []))
schedule-keeps css marks r session =
    let all = taken-numbers session [] (map (numbered 0) css) (schedule_of css) _ _ (schedule-taken css) in
    let none = through-row (left_at_end (map (numbered 0) css)) session r.through in
    sym (append-nil (numbers_of session (schedule_of css)))
    ∙ ap (λ ns. numbers_of session (schedule_of css) ++ ns) (sym none)
    ∙ sym all
    ∙ ap lines_of (first-row css session)
    ∙ numbered-lines 0 (get_or css session [])
