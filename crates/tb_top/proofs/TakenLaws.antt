-- A command that is taken leaves the others, and no step of the order comes twice.
use Rattle.std.proofs.Common.{◌≡◌, ◌≢◌, ℕ, zero, suc, ◌+◌, ◌-◌, ◌<◌, Bool, true, false, ◌&&◌, ◌==◌, if◌then◌else◌, List, [], ◌∷◌, Option, Some, IsSome, map, length, get_or, set, drop, refl, sym, ap, ap₂, ◌∙◌, subst, arith, eqb-true, eq-eqb}
use Rattle.std.specs.List.{AllByRecursion, slice_get, range_with_len}
use Rattle.std.proofs.lemmas.Bool.{false≢true, false_from_ne_true}
use Rattle.std.proofs.lemmas.List.{get_or-set_same, get_or-set_other}
use Rattle.tb_script.specs.Runnable.{commands_in, IsRunnable, AreRunnable}
use Rattle.tb_script.specs.Schedule.{numbers_of, command_at, schedule_of}
use Rattle.tb_script.specs.declared.command.Command.{Command}
use Rattle.tb_script.specs.declared.command.Workload.{Workload}
use Rattle.tb_script.specs.declared.turnstep.Turnstep.{Turnstep}
use Rattle.tb_script.proofs.ScheduleLaws.{schedule-keeps}
use Rattle.tb_top.specs.Taken.{is_step, Takes}

-- no step comes twice
abbrev pub AreApart : List Turnstep → Type 0
AreApart [] = Unit {0}
AreApart (s ∷ ss) = AllByRecursion (λ t. is_step s t ≡ false) ss × AreApart ss

-- the steps have their commands in both scripts
abbrev pub AreLeft : Workload → Workload → List Turnstep → Type 0
AreLeft w left = AllByRecursion (λ s. command_at (commands_in left) s ≡ command_at (commands_in w) s)

range-parts : (x : ℕ) (xs : List ℕ) (a n : ℕ) → x ∷ xs ≡ range_with_len a n → (x ≡ a) × (xs ≡ range_with_len (a + 1) (n - 1))
range-parts x xs a zero e = absurd (let d : ◌≡◌ {A = List ℕ} (x ∷ xs) [] = e in cc)
range-parts x xs a (suc n) e =
    let d : ◌≡◌ {A = List ℕ} (x ∷ xs) (a ∷ range_with_len (a + 1) n) = e in
    let one : suc n - 1 ≡ n = omega arith in
    (cc, rw one (let t : xs ≡ range_with_len (a + 1) n = cc in t))

other-number : (c d a : ℕ) → d ≡ a → c < a → (d == c) ≡ false
other-number c d a e less = false_from_ne_true (d == c) (λ t. absurd (let f = eqb-true d c t in omega (arith, e, f, less)))

none-again : (s : Turnstep) (ts : List Turnstep) (a n : ℕ) → s.command < a → numbers_of s.session ts ≡ range_with_len a n → AllByRecursion (λ t. is_step s t ≡ false) ts
none-again s [] a n less e = tt
none-again s (t ∷ ts) a n less e = by (t.session == s.session) refl (λ b m. none-again s ts b m)
  where
    by : (same : Bool) → (t.session == s.session) ≡ same → ((b m : ℕ) → s.command < b → numbers_of s.session ts ≡ range_with_len b m → AllByRecursion (λ t. is_step s t ≡ false) ts)
        → AllByRecursion (λ t. is_step s t ≡ false) (t ∷ ts)
    by true is ih =
        let parts = range-parts t.command (numbers_of s.session ts) a n (rw is at e) in
        let other = other-number s.command t.command a parts.0 less in
        (rw (is, other) refl, ih (a + 1) (n - 1) (omega (arith, less)) parts.1)
    by false is ih = (rw is refl, ih a n less (rw is at e))

-- where the next number of a session is counted on, or not
abbrev counted : Bool → ℕ → ℕ
counted true n = n + 1
counted false n = n

abbrev left_over : Bool → ℕ → ℕ
left_over true n = n - 1
left_over false n = n

steps-apart : (ss : List Turnstep) (next count : ℕ → ℕ) → ((session : ℕ) → numbers_of session ss ≡ range_with_len (next session) (count session)) → AreApart ss
steps-apart [] next count e = tt
steps-apart (s ∷ ss) next count e =
    let same : (s.session == s.session) ≡ true = eq-eqb s.session s.session refl in
    let own = range-parts s.command (numbers_of s.session ss) (next s.session) (count s.session) (rw same at (e s.session)) in (
      none-again s ss (next s.session + 1) (count s.session - 1) (omega (arith, own.0)) own.1,
      steps-apart ss (λ k. counted (s.session == k) (next k)) (λ k. left_over (s.session == k) (count k)) (λ k. rest k (s.session == k) refl),
    )
  where
    rest : (k : ℕ) (same : Bool) → (s.session == k) ≡ same → numbers_of k ss ≡ range_with_len (counted same (next k)) (left_over same (count k))
    rest k true is = (range-parts s.command (numbers_of k ss) (next k) (count k) (rw is at (e k))).1
    rest k false is = rw is at (e k)

-- No step of a script's order comes twice.
pub order-apart : (w : Workload) → IsRunnable w → AreApart (schedule_of (commands_in w))
order-apart w r =
    steps-apart (schedule_of (commands_in w)) (λ session. 0) (λ session. length (get_or (commands_in w) session []))
    (schedule-keeps (commands_in w) w.marks r)

pub start-left : (w : Workload) (steps : List Turnstep) → AreLeft w w steps
start-left w [] = tt
start-left w (s ∷ ss) = (refl, start-left w ss)

-- behind a command that was taken the others are left
pub taken-left : (w old new : Workload) (step : Turnstep) (command : Command) (steps : List Turnstep) → Takes old step command new → AllByRecursion (λ t. is_step step t ≡ false) steps
    → AreLeft w old steps → AreLeft w new steps
taken-left w old new step command [] takes apart left = tt
taken-left w old new step command (s ∷ ss) takes apart left =
    (takes.others s apart.0 ∙ left.0, taken-left w old new step command ss takes apart.1 left.1)

get-set_other : {X : Type 0} (xs : List X) (j k : ℕ) (y : X) → k ≢ j → slice_get (set xs j y) k ≡ slice_get xs k
get-set_other [] j k y other = refl
get-set_other (x ∷ xs) zero zero y other = absurd (other refl)
get-set_other (x ∷ xs) zero (suc k) y other = refl
get-set_other (x ∷ xs) (suc j) zero y other = refl
get-set_other (x ∷ xs) (suc j) (suc k) y other = get-set_other xs j k y (λ e. other (ap suc e))

-- where the command of a step is replaced, the others stay
pub others-stay : (css : List (List Command)) (step other : Turnstep) (c : Command) → step.session < length css → is_step step other ≡ false
    → command_at (set css step.session (set (get_or css step.session []) step.command c)) other ≡ command_at css other
others-stay css step other c within e = by (other.session == step.session) refl
  where
    row : List Command
    row = set (get_or css step.session []) step.command c

    by : (same : Bool) → (other.session == step.session) ≡ same → command_at (set css step.session row) other ≡ command_at css other
    by true is =
        let at = eqb-true other.session step.session is in
        let apart : (other.command == step.command) ≡ false = rw is at e in
        ap (λ k. slice_get (get_or (set css step.session row) k []) other.command) at
        ∙ ap (λ r. slice_get r other.command) (get_or-set_same css step.session row [] within)
        ∙ get-set_other (get_or css step.session []) step.command other.command c (λ t. false≢true (sym apart ∙ eq-eqb other.command step.command t))
        ∙ ap (λ k. slice_get (get_or css k []) other.command) (sym at)
    by false is =
        ap (λ r. slice_get r other.command) (get_or-set_other css step.session other.session row [] (λ t. false≢true (sym is ∙ eq-eqb other.session step.session t)))
