-- In the order of the rounds each command is ready when its turn comes.
use Rattle.std.proofs.Common.{◌≡◌, ℕ, zero, suc, ◌+◌, ◌<◌, ◌≤◌, ◌||◌, ◌==◌, ◌⊎◌, inl, inr, true, false, Option, Some, None, IsSome, List, [], ◌∷◌, map, length, get_or, set, replicate, refl, sym, ap, ◌∙◌, subst, arith, eqb-true, eq-eqb}
use Rattle.std.specs.List.{AllByRecursion, slice_get}
use Rattle.std.specs.Option.{is_some}
use Rattle.std.proofs.lemmas.Bool.{cases_eq, false_from_ne_true, false≢true}
use Rattle.std.proofs.lemmas.List.{length-append, length-set, length-map, length-replicate, get_or-set_same, get_or-set_other, get_or-map, get_or_past}
use Rattle.std.proofs.lemmas.List.FromFn.{length-map-range_with_len}
use Rattle.tb_script.specs.Rounds.{is_among, once_done}
use Rattle.tb_script.specs.Runnable.{commands_in, HasBodyThatFits, HasMarkBelow, loads_of, IsRunnable}
use Rattle.tb_script.specs.Schedule.{schedule_of, command_at, commands_of_steps, MayGo, GoOn}
use Rattle.tb_script.specs.declared.command.Command.{Command}
use Rattle.tb_script.specs.declared.command.Command.TheVariants.{Load, Query, Tell, Hear}
use Rattle.tb_script.specs.declared.command.Script.{Script}
use Rattle.tb_script.specs.declared.command.Workload.{Workload}
use Rattle.tb_script.specs.declared.turnstep.Turnstep.{Turnstep}
use Rattle.tb_script.proofs.ScheduleLaws.{steps-keep, commands-next, schedule-within, schedule-loads, schedule-below, schedule-goes_on}
use Rattle.tb_core.specs.declared.event.Event.TheVariants as event
use Rattle.tb_core.specs.World.{State, with_seen, answer, after_all, told_at}
use Rattle.tb_top.specs.History.{Change}
use Rattle.tb_top.specs.Deeds.{Record, loaded, refused, answered, refused_query, told, heard, event_of, change_by, IsResult}
use Rattle.tb_top.specs.Running.{Progress, Does, Stands, IsReadyFor, begun, at_start}
use Rattle.tb_tree.proofs.lists.Options.{value_of-some}
use Rattle.tb_core.proofs.ChangeLaws.{history-with_seen}

-- the marks that were told are these
abbrev Agree : List ℕ → State → Type 0
Agree marks w = (mark : ℕ) → is_some (told_at w mark) ≡ is_among mark marks

-- what a command leaves of the world
record Left (w v : State) (marks : List ℕ) (c : Command) (made : List Change) : Type 0 where
  pub seen : length v.seen ≡ length w.seen
  pub tolds : length v.told ≡ length w.told
  pub room : v.room ≡ w.room
  pub history : length v.history ≡ length w.history + length made
  pub agree : Agree marks w → Agree (once_done marks c) v
  pub few : (cs : List Command) → length made + loads_of cs ≤ loads_of (c ∷ cs)

seen-length : (w : State) (session : ℕ) (o : Option ℕ) → length (with_seen w session o).seen ≡ length w.seen
seen-length w session None = refl
seen-length w session (Some n) = length-set w.seen session n

seen-told : (w : State) (session : ℕ) (o : Option ℕ) → (with_seen w session o).told ≡ w.told
seen-told w session None = refl
seen-told w session (Some n) = refl

seen-room : (w : State) (session : ℕ) (o : Option ℕ) → (with_seen w session o).room ≡ w.room
seen-room w session None = refl
seen-room w session (Some n) = refl

-- a mark that is told is among the marks that are
told-more : (w : State) (session mark : ℕ) (marks : List ℕ) → mark < length w.told → Agree marks w → (k : ℕ) → is_some (get_or (set w.told mark (answer w (event.Tell session mark))) k None) ≡ ((mark == k) || is_among k marks)
told-more w session mark marks within agree k = by (cases_eq mark k)
  where
    by : (mark ≡ k) ⊎ (mark ≡ k → ⊥) → is_some (get_or (set w.told mark (answer w (event.Tell session mark))) k None) ≡ ((mark == k) || is_among k marks)
    by (inl same) =
        subst (λ j. is_some (get_or (set w.told mark (answer w (event.Tell session mark))) j None) ≡ true) same (ap is_some (get_or-set_same w.told mark (answer w (event.Tell session mark)) None within))
        ∙ ap (λ b. b || is_among k marks) (sym (eq-eqb mark k same))
    by (inr other) =
        ap is_some (get_or-set_other w.told mark k (answer w (event.Tell session mark)) None (λ e. other (sym e))) ∙ agree k
        ∙ ap (λ b. b || is_among k marks) (sym (false_from_ne_true (mark == k) (λ t. other (eqb-true mark k t))))

left : (w : State) (marks : List ℕ) (session : ℕ) (history cs : List Change) (c : Command) (r : Record) → IsResult history c r → HasMarkBelow (length w.told) c
    → Left w (after_all w (map (λ x. x.event) (event_of session c r))) marks c (change_by cs session c r)
left w marks session history cs (Load name lines) (loaded k tree) may below =
    record {
      seen = length-set w.seen session _;
      tolds = refl;
      room = refl;
      history = length-append w.history (session ∷ []);
      agree = λ agree. agree;
      few = λ more. omega arith;
    }
left w marks session history cs (Load name lines) (refused fault) may below =
    record { seen = refl; tolds = refl; room = refl; history = omega arith; agree = λ agree. agree; few = λ more. omega arith }
left w marks session history cs (Query text) (answered front answer) may below =
    record {
      seen = length-set w.seen session _;
      tolds = refl;
      room = refl;
      history = omega arith;
      agree = λ agree. agree;
      few = λ more. omega arith;
    }
left w marks session history cs (Query text) (refused_query fault) may below =
    record { seen = refl; tolds = refl; room = refl; history = omega arith; agree = λ agree. agree; few = λ more. omega arith }
left w marks session history cs (Tell mark name) (told k) may below =
    record {
      seen = refl;
      tolds = length-set w.told mark _;
      room = refl;
      history = omega arith;
      agree = λ agree. told-more w session mark marks below agree;
      few = λ more. omega arith;
    }
left w marks session history cs (Hear mark name) (heard k) may below =
    let o = answer w (event.Hear session mark) in
    record {
      seen = seen-length w session o;
      tolds = ap length (seen-told w session o);
      room = seen-room w session o;
      history = ap length (history-with_seen w session o) ∙ omega arith;
      agree = λ agree k'. ap (λ t. is_some (get_or t k' None)) (seen-told w session o) ∙ agree k';
      few = λ more. omega arith;
    }
left w marks session history cs (Load name lines) (answered a b) may below = absurd may
left w marks session history cs (Load name lines) (refused_query a) may below = absurd may
left w marks session history cs (Load name lines) (told a) may below = absurd may
left w marks session history cs (Load name lines) (heard a) may below = absurd may
left w marks session history cs (Query text) (loaded a b) may below = absurd may
left w marks session history cs (Query text) (refused a) may below = absurd may
left w marks session history cs (Query text) (told a) may below = absurd may
left w marks session history cs (Query text) (heard a) may below = absurd may
left w marks session history cs (Tell mark name) (loaded a b) may below = absurd may
left w marks session history cs (Tell mark name) (refused a) may below = absurd may
left w marks session history cs (Tell mark name) (answered a b) may below = absurd may
left w marks session history cs (Tell mark name) (refused_query a) may below = absurd may
left w marks session history cs (Tell mark name) (heard a) may below = absurd may
left w marks session history cs (Hear mark name) (loaded a b) may below = absurd may
left w marks session history cs (Hear mark name) (refused a) may below = absurd may
left w marks session history cs (Hear mark name) (answered a b) may below = absurd may
left w marks session history cs (Hear mark name) (refused_query a) may below = absurd may
left w marks session history cs (Hear mark name) (told a) may below = absurd may

-- The commands of these steps can be done, one after the other.
pub record Goes (w : Workload) (steps : List Turnstep) (p : Progress) : Type 0 where
  pub here : AllByRecursion (λ step. IsSome (command_at (commands_in w) step)) steps
  pub marks : List ℕ
  pub goes : GoOn marks (commands_of_steps (commands_in w) steps)
  pub agree : Agree marks p.world
  pub below : AllByRecursion (HasMarkBelow (length p.world.told)) (commands_of_steps (commands_in w) steps)
  pub fit : AllByRecursion HasBodyThatFits (commands_of_steps (commands_in w) steps)
  pub sessions : p.sessions ≡ length w.sessions.items
  pub seen : length p.world.seen ≡ p.sessions
  pub parts : length p.parts ≡ p.sessions
  pub changes : length p.world.history ≡ length p.changes
  pub left_room : length p.world.history + loads_of (commands_of_steps (commands_in w) steps) ≤ p.world.room
  pub small : p.world.room ≤ 65536

-- a step whose command is there has a session that is there
row : (css : List (List Command)) (step : Turnstep) (c : Command) → command_at css step ≡ Some c → step.session < length css
row css step c is = by (past step.session (length css))
  where
    past : (a b : ℕ) → (a < b) ⊎ (b ≤ a)
    past a b = grind arith

    by : (step.session < length css) ⊎ (length css ≤ step.session) → step.session < length css
    by (inl less) = less
    by (inr more) =
        absurd (let d : ◌≡◌ {A = Option Command} None (Some c) = ap (λ cs. slice_get cs step.command) (sym (get_or_past css step.session [] more)) ∙ is in cc)

-- an element that is there has a place in the list
pub some-within : {X : Type 0} (xs : List X) (k : ℕ) → IsSome (slice_get xs k) → k < length xs
some-within [] k is = absurd (false≢true is)
some-within (x ∷ xs) zero is = omega arith
some-within (x ∷ xs) (suc k) is = let h = some-within xs k is in omega arith

-- the commands of a step's session
pub row-read : (w : Workload) (step : Turnstep) (script : Script) → IsSome (command_at (commands_in w) step) → script ≡ get_or w.sessions.items step.session script
    → get_or (commands_in w) step.session [] ≡ script.commands.items
row-read w step script is at =
    let there = value_of-some (command_at (commands_in w) step) is in
    let within = row (commands_in w) step there.0 there.1 in
    get_or-map (λ s. s.commands.items) w.sessions.items step.session script [] (omega (arith, within, length-map w.sessions.items (λ s. s.commands.items)))
    ∙ ap (λ s. s.commands.items) (sym at)

ready : (told : List ℕ) (p : Progress) (c : Command) → MayGo told c → Agree told p.world → HasMarkBelow (length p.world.told) c → HasBodyThatFits c → length p.world.history + loads_of (c ∷ []) ≤ p.world.room
    → IsReadyFor p.world c
ready marks p (Load name lines) may agree below fits room = (fits, omega arith)
ready marks p (Query text) may agree below fits room = tt
ready marks p (Tell mark name) may agree below fits room = (below, none (told_at p.world mark) (agree mark ∙ may))
  where
    none : (o : Option ℕ) → is_some o ≡ false → o ≡ None
    none None e = refl
    none (Some n) e = absurd (false≢true (sym e))
ready marks p (Hear mark name) may agree below fits room = (below, some (told_at p.world mark) (agree mark ∙ may))
  where
    some : (o : Option ℕ) → is_some o ≡ true → IsSome o
    some None e = absurd (false≢true e)
    some (Some n) e = refl

pub goes-ready : (w : Workload) (steps : List Turnstep) (p : Progress) (step : Turnstep) (c : Command) → Goes w (step ∷ steps) p → command_at (commands_in w) step ≡ Some c
    → Stands p step × IsReadyFor p.world c
goes-ready w steps p step c g is =
    let css = commands_in w in
    let next = commands-next css step steps c is in
    let within = row css step c is in
    let goes = subst (GoOn g.marks) next g.goes in
    let below = subst (AllByRecursion (HasMarkBelow (length p.world.told))) next g.below in
    let fit = subst (AllByRecursion HasBodyThatFits) next g.fit in
    let room : length p.world.history + loads_of (c ∷ commands_of_steps css steps) ≤ p.world.room = subst (λ cs. length p.world.history + loads_of cs ≤ p.world.room) next g.left_room in (
      record {
        session = omega (arith, within, g.sessions, length-map w.sessions.items (λ s. s.commands.items));
        seen = g.seen;
        parts = g.parts;
        changes = g.changes;
        room = g.small;
      },
      ready g.marks p c goes.0 g.agree below.0 fit.0 (alone c (commands_of_steps css steps) (length p.world.history) p.world.room room),
    )
  where
    alone : (d : Command) (cs : List Command) (n room : ℕ) → n + loads_of (d ∷ cs) ≤ room → n + loads_of (d ∷ []) ≤ room
    alone (Load name lines) cs n room few = omega arith
    alone (Query text) cs n room few = omega arith
    alone (Tell mark name) cs n room few = omega arith
    alone (Hear mark name) cs n room few = omega arith

pub goes-more : (w : Workload) (steps : List Turnstep) (p q : Progress) (step : Turnstep) (c : Command) → Goes w (step ∷ steps) p → command_at (commands_in w) step ≡ Some c → Does step c p q → Goes w steps q
goes-more w steps p q step c g is does =
    let css = commands_in w in
    let next = commands-next css step steps c is in
    let goes = subst (GoOn g.marks) next g.goes in
    let below = subst (AllByRecursion (HasMarkBelow (length p.world.told))) next g.below in
    let fit = subst (AllByRecursion HasBodyThatFits) next g.fit in
    let room : length p.world.history + loads_of (c ∷ commands_of_steps css steps) ≤ p.world.room = subst (λ cs. length p.world.history + loads_of cs ≤ p.world.room) next g.left_room in
    let made : List Change = change_by p.changes step.session c does.result in
    let world = ap (λ (x : Progress). x.world) does.left in
    let l = left p.world g.marks step.session p.changes p.changes c does.result does.may below.0 in
    let changes : length q.changes ≡ length p.changes + length made = ap (λ (x : Progress). length x.changes) does.left ∙ length-append p.changes made in
    let history : length q.world.history ≡ length p.world.history + length made = ap (λ (v : State). length v.history) world ∙ l.history in
    let rooms : q.world.room ≡ p.world.room = ap (λ (v : State). v.room) world ∙ l.room in
    record {
      here = g.here.1;
      marks = once_done g.marks c;
      goes = goes.1;
      agree = λ mark. ap (λ (v : State). is_some (told_at v mark)) world ∙ l.agree g.agree mark;
      below = subst (λ n. AllByRecursion (HasMarkBelow n) (commands_of_steps css steps)) (sym (ap (λ (v : State). length v.told) world ∙ l.tolds)) below.1;
      fit = fit.1;
      sessions = ap (λ (x : Progress). x.sessions) does.left ∙ g.sessions;
      seen = ap (λ (v : State). length v.seen) world ∙ l.seen ∙ g.seen ∙ sym (ap (λ (x : Progress). x.sessions) does.left);
      parts = ap (λ (x : Progress). length x.parts) does.left ∙ length-set p.parts step.session _ ∙ g.parts ∙ sym (ap (λ (x : Progress). x.sessions) does.left);
      changes = omega (arith, history, changes, g.changes);
      left_room = omega (arith, history, rooms, room, l.few (commands_of_steps css steps));
      small = omega (arith, rooms, g.small);
    }

abbrev untold : Option ℕ
untold = None

none-told : (n mark : ℕ) → is_some (get_or (replicate n untold) mark None) ≡ false
none-told zero mark = refl
none-told (suc n) zero = refl
none-told (suc n) (suc mark) = none-told n mark

pub goes-start : (w : Workload) → IsRunnable w → Goes w (schedule_of (commands_in w)) (at_start w)
goes-start w runs =
    let css = commands_in w in
    let n = length w.sessions.items in
    let steps = schedule_of css in
    record {
      here = schedule-within css;
      marks = [];
      goes = schedule-goes_on css w.marks runs;
      agree = λ mark. none-told w.marks mark;
      below = subst (λ k. AllByRecursion (HasMarkBelow k) (commands_of_steps css steps)) (sym (length-replicate w.marks None)) (schedule-below css w.marks runs);
      fit = steps-keep HasBodyThatFits css steps runs.bodies_fit;
      sessions = refl;
      seen = length-replicate n 0;
      parts = length-map-range_with_len begun 0 n;
      changes = refl;
      left_room = omega (arith, schedule-loads css w.marks runs);
      small = runs.loads_fit;
    }
