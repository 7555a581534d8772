-- In a run each command of each session is done, once and in its order.
use Rattle.std.proofs.Common.{◌≡◌, ℕ, suc, ◌==◌, subst, Bool, true, false, cond, Option, Some, None, List, [], ◌∷◌, map, length, get_or, ◌<◌, refl, sym, ap, ap₂, ◌∙◌, arith, eqb-true}
use Rattle.std.specs.List.{AllByRecursion, filter, range_with_len, slice_get}
use Rattle.std.proofs.lemmas.List.{ext_get_or, length-map, get_or-map}
use Rattle.std.proofs.lemmas.Simd.{map-map}
use Rattle.std.proofs.lemmas.List.FromFn.{length-map-range_with_len, get_or-map-range_with_len}
use Rattle.std.proofs.lemmas.Option.{slice_get-get_or}
use Rattle.tb_script.specs.Runnable.{commands_in, IsRunnable}
use Rattle.tb_script.specs.Schedule.{command_at, numbers_of}
use Rattle.tb_script.specs.declared.command.Command.{Command}
use Rattle.tb_script.specs.declared.command.Command.TheVariants.{Query}
use Rattle.tb_script.specs.declared.command.Workload.{Workload}
use Rattle.tb_script.proofs.ScheduleLaws.{schedule-keeps}
use Rattle.tb_top.specs.Deeds.{Deed}
use Rattle.tb_top.specs.Single.{step_of, IsRun, IsBuilt, AreBuilt}
use Rattle.tb_tree.proofs.lists.Alls.{all-kept}
use Rattle.tb_tree.proofs.lists.Maps.{somes-same}

-- the deeds of a session
abbrev pub deeds_of : ℕ → List Deed → List Deed
deeds_of session ds = filter (λ d. d.session == session) ds

-- their numbers are those of the session's steps
places-are : (session : ℕ) (ds : List Deed) → map (λ d. d.place) (deeds_of session ds) ≡ numbers_of session (map step_of ds)
places-are session [] = refl
places-are session (d ∷ ds) = by (d.session == session) (places-are session ds)
  where
    by : (mine : Bool) → map (λ (x : Deed). x.place) (deeds_of session ds) ≡ numbers_of session (map step_of ds)
        → map (λ (x : Deed). x.place) (cond mine (d ∷ deeds_of session ds) (deeds_of session ds)) ≡ cond mine (d.place ∷ numbers_of session (map step_of ds)) (numbers_of session (map step_of ds))
    by true same = ap (λ ns. d.place ∷ ns) same
    by false same = same

-- their commands stand at these numbers of the session
commands-at : (css : List (List Command)) (session : ℕ) (ds : List Deed) → AllByRecursion (λ d. command_at css (step_of d) ≡ Some d.command) ds
    → map (λ d. Some d.command) (deeds_of session ds) ≡ map (slice_get (get_or css session [])) (map (λ d. d.place) (deeds_of session ds))
commands-at css session [] all = refl
commands-at css session (d ∷ ds) all = by (d.session == session) refl (commands-at css session ds all.1)
  where
    row : List Command
    row = get_or css session []

    by : (mine : Bool) → (d.session == session) ≡ mine
        → map (λ (x : Deed). Some x.command) (deeds_of session ds) ≡ map (slice_get (get_or css session [])) (map (λ (x : Deed). x.place) (deeds_of session ds))
        → map (λ (x : Deed). Some x.command) (cond mine (d ∷ deeds_of session ds) (deeds_of session ds))
        ≡ map (slice_get (get_or css session [])) (map (λ (x : Deed). x.place) (cond mine (d ∷ deeds_of session ds) (deeds_of session ds)))
    by true same rest = ap₂ (λ o os. o ∷ os) (sym all.0 ∙ ap (λ s. slice_get (get_or css s []) d.place) (eqb-true d.session session same)) rest
    by false same rest = rest

-- the elements of a list at its numbers, in order, are the list
elements : (cs : List Command) → map (slice_get cs) (range_with_len 0 (length cs)) ≡ map (λ c. Some c) cs
elements cs =
    let none : Command = Query [] in
    let n = length cs in
    let long : length (map (slice_get cs) (range_with_len 0 n)) ≡ n = length-map-range_with_len (slice_get cs) 0 n in
    ext_get_or None (map (slice_get cs) (range_with_len 0 n)) (map (λ c. Some c) cs) (long ∙ sym (length-map cs (λ c. Some c)))
    (λ i less.
    let within : i < n = omega (arith, less, long) in
    get_or-map-range_with_len (slice_get cs) 0 n i i None within (omega arith) ∙ slice_get-get_or cs i none within ∙ sym (get_or-map (λ c. Some c) cs i none None within))

-- The commands of a session are done once, in their order: first that their numbers run from 0, then that
-- the deeds are of just these commands. A script that is read can be run.
pub run-places : (w : Workload) (ds : List Deed) → IsRunnable w → IsRun w ds → (session : ℕ) → map (λ d. d.place) (deeds_of session ds) ≡ range_with_len 0 (length (get_or (commands_in w) session []))
run-places w ds runs is session = places-are session ds ∙ ap (numbers_of session) is.order ∙ schedule-keeps (commands_in w) w.marks runs session

pub run-keeps : (w : Workload) (ds : List Deed) → IsRunnable w → IsRun w ds → (session : ℕ) → map (λ d. d.command) (deeds_of session ds) ≡ get_or (commands_in w) session []
run-keeps w ds runs is session =
    let row = get_or (commands_in w) session [] in
    somes-same (map (λ d. d.command) (deeds_of session ds)) row
    (map-map (λ c. Some c) (λ (d : Deed). d.command) (deeds_of session ds) ∙ commands-at (commands_in w) session ds is.commands ∙ ap (map (slice_get row)) (run-places w ds runs is session) ∙ elements row)

-- what is so of all commands in their sessions is so of all sessions
all-sessions : (css : List (List Command)) → ((session : ℕ) → AllByRecursion IsBuilt (get_or css session [])) → AllByRecursion (AllByRecursion IsBuilt) css
all-sessions [] all = tt
all-sessions (cs ∷ css) all = (all 0, all-sessions css (λ session. all (suc session)))

-- where each command that is done is built, all are
pub run-built : (w : Workload) (ds : List Deed) → IsRunnable w → IsRun w ds → AllByRecursion (λ d. IsBuilt d.command) ds → AreBuilt w
run-built w ds runs is built =
    all-sessions (commands_in w)
    (λ session. subst (AllByRecursion IsBuilt) (run-keeps w ds runs is session) (all-kept (λ (d : Deed). IsBuilt d.command) IsBuilt (λ d. d.command) (λ d. d.session == session) ds (λ d b. b) built))
