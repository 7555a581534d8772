-- The rounds as a list of steps, each of a command that can be done when it is its turn.
use Rattle.std.proofs.Common.{◌≡◌, ℕ, zero, suc, ◌+◌, ◌<◌, Bool, true, false, nat_lt, cond, List, [], ◌∷◌, ◌++◌, length, get_or, set, refl, sym, subst, length-append, append_assoc}
use Rattle.std.proofs.Math.Seq.{get_or-append_seam, set-append_seam}
use Rattle.std.proofs.lemmas.Bool.{ltb-true, ltb-false}
use Rattle.std.proofs.lemmas.List.{get_or_past}
use Rattle.tb_script.specs.Rounds.{can_go, once_done, told_behind, left_behind, told_in_round, left_in_round, left_by_rounds}
use Rattle.tb_script.specs.Schedule.{steps_behind, steps_in_round, steps_by_rounds}
use Rattle.tb_script.specs.declared.lined_command.LinedCommand.{LinedCommand}
use Rattle.tb_script.specs.declared.turnstep.Turnstep.{Turnstep}
use Rattle.tb_script.proofs.RoundLaws.{told_by_rounds}

-- the step's command is the next of its session, and can be done
pub record IsNextStep (told : List ℕ) (ss : List (List LinedCommand)) (step : Turnstep) (t : LinedCommand) (ts : List LinedCommand) : Type 0 where
  pub row : get_or ss step.session [] ≡ t ∷ ts
  pub number : t.line ≡ step.command
  pub can : can_go told t.command ≡ true

-- the steps are taken one after the other, and then these marks are told and this is left
abbrev pub Takes : List ℕ → List (List LinedCommand) → List Turnstep → List ℕ → List (List LinedCommand) → Type 0
Takes told ss [] more us = (more ≡ told) × (us ≡ ss)
Takes told ss (step ∷ steps) more us =
    (t : LinedCommand) × (ts : List LinedCommand) × IsNextStep told ss step t ts
    × Takes (once_done told t.command) (set ss step.session ts) steps more us

takes-then : (told : List ℕ) (ss : List (List LinedCommand)) (xs ys : List Turnstep) (mid : List ℕ) (us : List (List LinedCommand)) (more : List ℕ) (vs : List (List LinedCommand)) → Takes told ss xs mid us → Takes mid us ys more vs → Takes told ss (xs ++ ys) more vs
takes-then told ss [] ys mid us more vs p q = subst (λ m. Takes m ss ys more vs) p.0 (subst (λ r. Takes mid r ys more vs) p.1 q)
takes-then told ss (x ∷ xs) ys mid us more vs p q =
    (p.0, p.1, p.2, takes-then (once_done told (p.0).command) (set ss x.session p.1) xs ys mid us more vs p.3 q)

-- a session's turn, behind other sessions
turn-takes : (prefix : List (List LinedCommand)) (told : List ℕ) (s : List LinedCommand) (back : List (List LinedCommand)) → Takes told (prefix ++ s ∷ back) (steps_behind (length prefix) told s) (told_behind told s) (prefix ++ left_behind told s ∷ back)
turn-takes prefix told [] back = (refl, refl)
turn-takes prefix told (t ∷ ts) back = by (can_go told t.command) refl
  where
    by : (b : Bool) → can_go told t.command ≡ b
        → Takes told (prefix ++ (t ∷ ts) ∷ back) (cond b (record { session = length prefix; command = t.line } ∷ []) []) (cond b (once_done told t.command) told) (prefix ++ cond b ts (t ∷ ts) ∷ back)
    by true e = (
      t,
      ts,
      record { row = get_or-append_seam prefix (t ∷ ts) back []; number = refl; can = e },
      (refl, sym (set-append_seam prefix (t ∷ ts) back ts)),
    )
    by false e = (refl, refl)

shifted : (prefix : List (List LinedCommand)) (s : List LinedCommand) (ss us : List (List LinedCommand)) (told more : List ℕ) (steps : ℕ → List Turnstep)
    → Takes told ((prefix ++ s ∷ []) ++ ss) (steps (length (prefix ++ s ∷ []))) more ((prefix ++ s ∷ []) ++ us)
    → Takes told (prefix ++ s ∷ ss) (steps (length prefix + 1)) more (prefix ++ s ∷ us)
shifted prefix s ss us told more steps p =
    subst (λ n. Takes told (prefix ++ s ∷ ss) (steps n) more (prefix ++ s ∷ us)) (length-append prefix (s ∷ []))
    (subst (λ r. Takes told r (steps (length (prefix ++ s ∷ []))) more (prefix ++ s ∷ us)) (append_assoc prefix (s ∷ []) ss)
    (subst (λ r. Takes told ((prefix ++ s ∷ []) ++ ss) (steps (length (prefix ++ s ∷ []))) more r) (append_assoc prefix (s ∷ []) us) p))

-- the turns of the sessions behind others
round-takes : (prefix : List (List LinedCommand)) (told : List ℕ) (ss : List (List LinedCommand)) → Takes told (prefix ++ ss) (steps_in_round (length prefix) told ss) (told_in_round told ss) (prefix ++ left_in_round told ss)
round-takes prefix told [] = (refl, refl)
round-takes prefix told (s ∷ ss) =
    let more = told_behind told s in
    let rest = left_behind told s in
    takes-then told (prefix ++ s ∷ ss) (steps_behind (length prefix) told s) (steps_in_round (length prefix + 1) more ss) more (prefix ++ rest ∷ ss) (told_in_round more ss) (prefix ++ rest ∷ left_in_round more ss)
    (turn-takes prefix told s ss)
    (shifted prefix rest ss (left_in_round more ss) more (told_in_round more ss) (λ n. steps_in_round n more ss) (round-takes (prefix ++ rest ∷ []) more ss))

-- So many rounds take their steps.
pub rounds-take : (k : ℕ) (told : List ℕ) (ss : List (List LinedCommand)) → Takes told ss (steps_by_rounds k told ss) (told_by_rounds k told ss) (left_by_rounds k told ss)
rounds-take zero told ss = (refl, refl)
rounds-take (suc k) told ss =
    let more = told_in_round told ss in
    let rest = left_in_round told ss in
    takes-then told ss (steps_in_round 0 told ss) (steps_by_rounds k more rest) more rest (told_by_rounds k more rest) (left_by_rounds k more rest) (round-takes [] told ss) (rounds-take k more rest)

-- there is a session where something is left of it
pub row-within : (ss : List (List LinedCommand)) (at : ℕ) (t : LinedCommand) (ts : List LinedCommand) → get_or ss at [] ≡ t ∷ ts → at < length ss
row-within ss at t ts row = by (nat_lt at (length ss)) refl
  where
    by : (b : Bool) → nat_lt at (length ss) ≡ b → at < length ss
    by true e = ltb-true at (length ss) e
    by false e =
        let none = get_or_past ss at [] (ltb-false at (length ss) e) in
        absurd (let d : ◌≡◌ {A = List LinedCommand} [] (t ∷ ts) = cc in cc)
