-- The steps to come: a session that can't go on takes none of them, one that can takes the first, and the
-- end of a round is the start of the next.
use Rattle.std.proofs.Common.{◌≡◌, ℕ, zero, suc, ◌+◌, ◌-◌, ◌≤◌, Bool, true, false, nat_lt, List, [], ◌∷◌, ◌++◌, map, length, get_or, set, take, drop, refl, sym, ap, ap₂, ◌∙◌, arith, add-one, append-nil, append_assoc}
use Rattle.std.proofs.Math.Seq.{drop-cons, take-suc, take-suc-set}
use Rattle.std.proofs.Math.ListN.{drop_of_length-le}
use Rattle.std.proofs.lemmas.Bool.{ltb-true, ltb-false}
use Rattle.std.proofs.lemmas.List.{drop-set-lt, take-append-drop}
use Rattle.tb_script.specs.Rounds.{can_go, once_done, told_in_round, left_in_round, total, left_by_rounds, numbered}
use Rattle.tb_script.specs.Schedule.{steps_in_round, steps_by_rounds, schedule_of}
use Rattle.tb_script.specs.Stands.{to_come}
use Rattle.tb_script.specs.declared.command.Command.{Command}
use Rattle.tb_script.specs.declared.lined_command.LinedCommand.{LinedCommand}
use Rattle.tb_script.specs.declared.turnstep.Turnstep.{Turnstep}
use Rattle.tb_script.proofs.RoundLaws.{IsStill, told_by_rounds, fewer-round, rounds-still}
use Rattle.tb_script.proofs.StepLaws.{row-within}

take-past : (ss : List (List LinedCommand)) (n : ℕ) → length ss ≤ n → take n ss ≡ ss
take-past [] zero e = refl
take-past [] (suc n) e = refl
take-past (s ∷ ss) zero e = absurd (omega (arith, e))
take-past (s ∷ ss) (suc n) e = ap (λ rs. s ∷ rs) (take-past ss n (omega (arith, e)))

-- a round in which nothing can be done
record IsQuiet (told : List ℕ) (ss : List (List LinedCommand)) : Type 0 where
  pub steps : (n : ℕ) → steps_in_round n told ss ≡ []
  pub same : told_in_round told ss ≡ told
  pub left : left_in_round told ss ≡ ss

quiet : (told : List ℕ) (ss : List (List LinedCommand)) → IsStill told ss → IsQuiet told ss
quiet told [] still = record { steps = λ n. refl; same = refl; left = refl }
quiet told ([] ∷ ss) still =
    let rest = quiet told ss still in
    record { steps = λ n. rest.steps (n + 1); same = rest.same; left = ap (λ rs. [] ∷ rs) rest.left }
quiet told ((t ∷ ts) ∷ ss) still =
    let rest = quiet told ss still.1 in
    record {
      steps = λ n. rw still.0 (rest.steps (n + 1));
      same = rw still.0 rest.same;
      left = rw still.0 (ap (λ rs. (t ∷ ts) ∷ rs) rest.left);
    }

-- where nothing can be done, rounds take no steps
quiet-rounds : (k : ℕ) (told : List ℕ) (ss : List (List LinedCommand)) → IsStill told ss → steps_by_rounds k told ss ≡ []
quiet-rounds zero told ss still = refl
quiet-rounds (suc k) told ss still =
    let q = quiet told ss still in
    ap₂ (λ xs ys. xs ++ ys) (q.steps 0) (ap₂ (λ m rs. steps_by_rounds k m rs) q.same q.left ∙ quiet-rounds k told ss still)

-- one round more
round-more : (k : ℕ) (told : List ℕ) (ss : List (List LinedCommand)) → steps_by_rounds (suc k) told ss ≡ steps_by_rounds k told ss ++ steps_in_round 0 (told_by_rounds k told ss) (left_by_rounds k told ss)
round-more zero told ss = append-nil (steps_in_round 0 told ss)
round-more (suc k) told ss =
    let more = told_in_round told ss in
    let rest = left_in_round told ss in
    ap (λ xs. steps_in_round 0 told ss ++ xs) (round-more k more rest)
    ∙ sym (append_assoc (steps_in_round 0 told ss) (steps_by_rounds k more rest) (steps_in_round 0 (told_by_rounds k more rest) (left_by_rounds k more rest)))

-- as many rounds as commands are enough
enough : (k : ℕ) (told : List ℕ) (ss : List (List LinedCommand)) → total ss ≤ k → steps_by_rounds (suc k) told ss ≡ steps_by_rounds k told ss
enough k told ss few =
    let q = quiet (told_by_rounds k told ss) (left_by_rounds k told ss) (rounds-still k told ss few) in
    round-more k told ss ∙ ap (λ xs. steps_by_rounds k told ss ++ xs) (q.steps 0) ∙ append-nil (steps_by_rounds k told ss)

enough-more : (d : ℕ) (told : List ℕ) (ss : List (List LinedCommand)) → steps_by_rounds (d + total ss) told ss ≡ steps_by_rounds (total ss) told ss
enough-more zero told ss = let e : zero + total ss ≡ total ss = omega arith in ap (λ k. steps_by_rounds k told ss) e
enough-more (suc d) told ss =
    let e : suc d + total ss ≡ suc (d + total ss) = omega arith in
    ap (λ k. steps_by_rounds k told ss) e ∙ enough (d + total ss) told ss (omega arith) ∙ enough-more d told ss

total-append : (xs ys : List (List LinedCommand)) → total (xs ++ ys) ≡ total xs + total ys
total-append [] ys = omega arith
total-append (x ∷ xs) ys = omega (arith, total-append xs ys)

-- a round leaves no more than there is
fewer-come : (from : ℕ) (told : List ℕ) (ss : List (List LinedCommand)) → total (take from ss ++ left_in_round told (drop from ss)) ≤ total ss
fewer-come from told ss =
    omega (
      arith,
      total-append (take from ss) (left_in_round told (drop from ss)),
      total-append (take from ss) (drop from ss),
      ap total (take-append-drop from ss),
      fewer-round told (drop from ss),
    )

pub come-enough : (k from : ℕ) (told : List ℕ) (ss : List (List LinedCommand)) → total ss ≤ k → to_come (suc k) from told ss ≡ to_come k from told ss
come-enough k from told ss few =
    ap (λ xs. steps_in_round from told (drop from ss) ++ xs)
    (enough k (told_in_round told (drop from ss)) (take from ss ++ left_in_round told (drop from ss)) (omega (arith, few, fewer-come from told ss)))

-- a session that can't go on
abbrev pub CantGo : List ℕ → List LinedCommand → Type 0
CantGo told [] = Unit {0}
CantGo told (t ∷ ts) = can_go told t.command ≡ false

-- the steps to come where this is left of the sessions in prefix, and this of those behind
abbrev come : ℕ → ℕ → List ℕ → List (List LinedCommand) → List (List LinedCommand) → List Turnstep
come k from told prefix back = steps_in_round from told back ++ steps_by_rounds k (told_in_round told back) (prefix ++ left_in_round told back)

come-past : (k from : ℕ) (told : List ℕ) (prefix back : List (List LinedCommand)) (s : List LinedCommand) → CantGo told s → come k from told prefix (s ∷ back) ≡ come k (suc from) told (prefix ++ s ∷ []) back
come-past k from told prefix back s cant =
    by s cant
    ∙ ap₂ (λ n rs. steps_in_round n told back ++ steps_by_rounds k (told_in_round told back) rs) (add-one from) (sym (append_assoc prefix (s ∷ []) (left_in_round told back)))
  where
    by : (s : List LinedCommand) → CantGo told s
        → steps_in_round from told (s ∷ back) ++ steps_by_rounds k (told_in_round told (s ∷ back)) (prefix ++ left_in_round told (s ∷ back))
        ≡ steps_in_round (from + 1) told back ++ steps_by_rounds k (told_in_round told back) (prefix ++ s ∷ left_in_round told back)
    by [] cant = refl
    by (t ∷ ts) cant = rw cant refl

come-done : (k from : ℕ) (told : List ℕ) (prefix back : List (List LinedCommand)) (t : LinedCommand) (ts : List LinedCommand) → can_go told t.command ≡ true
    → come k from told prefix ((t ∷ ts) ∷ back) ≡ record { session = from; command = t.line } ∷ come k (suc from) (once_done told t.command) (prefix ++ ts ∷ []) back
come-done k from told prefix back t ts can =
    rw can
    (ap₂ (λ n rs. record { session = from; command = t.line } ∷ steps_in_round n (once_done told t.command) back ++ steps_by_rounds k (told_in_round (once_done told t.command) back) rs)
    (add-one from) (sym (append_assoc prefix (ts ∷ []) (left_in_round (once_done told t.command) back))))

-- A session that can't go on is passed.
pub come-skip : (k from : ℕ) (told : List ℕ) (ss : List (List LinedCommand)) → CantGo told (get_or ss from []) → to_come k from told ss ≡ to_come k (suc from) told ss
come-skip k from told ss cant = by (nat_lt from (length ss)) refl
  where
    by : (b : Bool) → nat_lt from (length ss) ≡ b → to_come k from told ss ≡ to_come k (suc from) told ss
    by true e =
        let within = ltb-true from (length ss) e in
        ap (λ back. come k from told (take from ss) back) (drop-cons ss from [] within)
        ∙ come-past k from told (take from ss) (drop (suc from) ss) (get_or ss from []) cant
        ∙ ap (λ prefix. come k (suc from) told prefix (drop (suc from) ss)) (sym (take-suc ss from [] within))
    by false e =
        let past = ltb-false from (length ss) e in
        let here : drop from ss ≡ [] = drop_of_length-le ss past in
        let further : length ss ≤ suc from = omega (arith, past) in
        let there : drop (suc from) ss ≡ [] = drop_of_length-le ss further in
        ap (λ back. come k from told (take from ss) back) here
        ∙ ap (λ prefix. come k from told prefix []) (take-past ss from past ∙ sym (take-past ss (suc from) further))
        ∙ ap (λ back. come k (suc from) told (take (suc from) ss) back) (sym there)

-- A session that can go on takes the next step.
pub come-next : (k from : ℕ) (told : List ℕ) (ss : List (List LinedCommand)) (t : LinedCommand) (ts : List LinedCommand) → get_or ss from [] ≡ t ∷ ts → can_go told t.command ≡ true
    → to_come k from told ss ≡ record { session = from; command = t.line } ∷ to_come k (suc from) (once_done told t.command) (set ss from ts)
come-next k from told ss t ts row can =
    let within = row-within ss from t ts row in
    ap (λ back. come k from told (take from ss) back) (drop-cons ss from [] within ∙ ap (λ s. s ∷ drop (suc from) ss) row)
    ∙ come-done k from told (take from ss) (drop (suc from) ss) t ts can
    ∙ ap₂ (λ prefix back. record { session = from; command = t.line } ∷ come k (suc from) (once_done told t.command) prefix back)
    (sym (take-suc-set ss from ts within)) (sym (drop-set-lt (suc from) ss from ts (omega arith)))

-- The end of a round is the start of the next.
pub come-round : (k from : ℕ) (told : List ℕ) (ss : List (List LinedCommand)) → length ss ≤ from → to_come (suc k) from told ss ≡ to_come k 0 told ss
come-round k from told ss past =
    let none : drop from ss ≡ [] = drop_of_length-le ss past in
    ap (λ back. come (suc k) from told (take from ss) back) none
    ∙ ap (λ rs. steps_by_rounds (suc k) told rs) (append-nil (take from ss) ∙ take-past ss from past)

-- Where nothing can be done, nothing is to come.
pub come-none : (k : ℕ) (told : List ℕ) (ss : List (List LinedCommand)) → IsStill told ss → to_come k 0 told ss ≡ []
come-none k told ss still = quiet-rounds (suc k) told ss still

-- At the start all steps are to come.
pub come-all : (k : ℕ) (css : List (List Command)) → total (map (numbered 0) css) ≤ k → to_come k 0 [] (map (numbered 0) css) ≡ schedule_of css
come-all k css few =
    let ss = map (numbered 0) css in
    let e : suc k ≡ (suc k - total ss) + total ss = omega (arith, few) in
    ap (λ n. steps_by_rounds n [] ss) e ∙ enough-more (suc k - total ss) [] ss
