-- How a command ends.
use Rattle.std.proofs.Common.{◌≡◌, ℕ, zero, suc, Bool, true, false, Option, Some, None, List, [], ◌∷◌, get_or, sym, ap, ◌∙◌, subst}
use Rattle.std.specs.List.{AllByRecursion, slice_get}
use Rattle.std.proofs.lemmas.Bool.{false≢true}
use Rattle.std.proofs.lemmas.Option.{same_Some, none-some}
use Rattle.tb_script.specs.Schedule.{command_at}
use Rattle.tb_script.specs.declared.command.Command.{Command}
use Rattle.tb_script.specs.declared.turnstep.Turnstep.{Turnstep}
use Rattle.tb_top.specs.Running.{Progress, Does, Ends}
use Rattle.tb_top.specs.Single.{IsBuilt}

pub ended-done : (b : Bool) (step : Turnstep) (c : Command) (p q : Progress) → b ≡ true → Ends b step c p q → Does step c p q
ended-done true step c p q e ends = ends
ended-done false step c p q e ends = absurd (false≢true e)

pub ended-unbuilt : (b : Bool) (step : Turnstep) (c : Command) (p q : Progress) → b ≡ false → Ends b step c p q → IsBuilt c → ⊥
ended-unbuilt false step c p q e ends = ends
ended-unbuilt true step c p q e ends = absurd (false≢true (sym e))

-- what is so of all elements is so of one
at-place : (cs : List Command) (place : ℕ) (c : Command) → AllByRecursion IsBuilt cs → slice_get cs place ≡ Some c → IsBuilt c
at-place [] place c all is = absurd (none-some c is)
at-place (d ∷ cs) zero c all is = subst IsBuilt (same_Some d c is) all.0
at-place (d ∷ cs) (suc place) c all is = at-place cs place c all.1 is

at-session : (css : List (List Command)) (session : ℕ) → AllByRecursion (AllByRecursion IsBuilt) css → AllByRecursion IsBuilt (get_or css session [])
at-session [] session all = tt
at-session (cs ∷ css) zero all = all.0
at-session (cs ∷ css) (suc session) all = at-session css session all.1

-- where all commands are built, the one of a step is
pub built-at : (css : List (List Command)) (step : Turnstep) (c : Command) → AllByRecursion (AllByRecursion IsBuilt) css → command_at css step ≡ Some c → IsBuilt c
built-at css step c all is = at-place (get_or css step.session []) step.command c (at-session css step.session all) is
