-- What the rounds leave depends on the commands alone, not on the numbers of their lines.
use Rattle.std.proofs.Common.{◌≡◌, ℕ, zero, suc, ◌+◌, Bool, true, false, cond, Option, Some, None, List, [], ◌∷◌, map, min, length, refl, sym, ap, ap₂, ◌∙◌, subst}
use Rattle.std.proofs.lemmas.List.{length-map}
use Rattle.tb_script.specs.Rounds.{can_go, once_done, told_behind, left_behind, told_in_round, left_in_round, total, left_by_rounds, left_at_end, lesser, least_line, stuck_line, numbered}
use Rattle.tb_script.specs.Runnable.{AreThrough}
use Rattle.tb_script.specs.declared.command.Command.{Command}
use Rattle.tb_script.specs.declared.lined_command.LinedCommand.{LinedCommand}

-- the commands of turns, and of the turns of sessions
abbrev pub plain : List LinedCommand → List Command
plain ts = map (λ t. t.command) ts

abbrev pub plains : List (List LinedCommand) → List (List Command)
plains ss = map (map (λ t. t.command)) ss

first_same : (c d : Command) (cs ds : List Command) → c ∷ cs ≡ d ∷ ds → (c ≡ d) × (cs ≡ ds)
first_same c d cs ds e = (cc, cc)

rows_same : (s u : List Command) (ss us : List (List Command)) → s ∷ ss ≡ u ∷ us → (s ≡ u) × (ss ≡ us)
rows_same s u ss us e = (cc, cc)

turn-alike : (told : List ℕ) (s u : List LinedCommand) → plain s ≡ plain u → (told_behind told s ≡ told_behind told u) × (plain (left_behind told s) ≡ plain (left_behind told u))
turn-alike told [] [] e = (refl, refl)
turn-alike told [] (v ∷ vs) e = absurd (let d : ◌≡◌ {A = List Command} [] (v.command ∷ plain vs) = e in cc)
turn-alike told (t ∷ ts) [] e = absurd (let d : ◌≡◌ {A = List Command} (t.command ∷ plain ts) [] = e in cc)
turn-alike told (t ∷ ts) (v ∷ vs) e = by (can_go told t.command) refl
  where
    by : (b : Bool) → can_go told t.command ≡ b
        → (cond (can_go told t.command) (once_done told t.command) told ≡ cond (can_go told v.command) (once_done told v.command) told)
        × (plain (cond (can_go told t.command) ts (t ∷ ts)) ≡ plain (cond (can_go told v.command) vs (v ∷ vs)))
    by true f =
        let same = first_same t.command v.command (plain ts) (plain vs) e in
        rw (f, sym (ap (can_go told) same.0) ∙ f) (ap (once_done told) same.0, same.1)
    by false f =
        let same = first_same t.command v.command (plain ts) (plain vs) e in
        rw (f, sym (ap (can_go told) same.0) ∙ f) (refl, e)

round-alike : (told : List ℕ) (ss us : List (List LinedCommand)) → plains ss ≡ plains us → (told_in_round told ss ≡ told_in_round told us) × (plains (left_in_round told ss) ≡ plains (left_in_round told us))
round-alike told [] [] e = (refl, refl)
round-alike told [] (u ∷ us) e = absurd (let d : ◌≡◌ {A = List (List Command)} [] (plain u ∷ plains us) = e in cc)
round-alike told (s ∷ ss) [] e = absurd (let d : ◌≡◌ {A = List (List Command)} (plain s ∷ plains ss) [] = e in cc)
round-alike told (s ∷ ss) (u ∷ us) e =
    let same = rows_same (plain s) (plain u) (plains ss) (plains us) e in
    let turn = turn-alike told s u same.0 in
    let rest = round-alike (told_behind told s) ss us same.1 in (
      rest.0 ∙ ap (λ m. told_in_round m us) turn.0,
      ap₂ (λ x xs. x ∷ xs) turn.1 (rest.1 ∙ ap (λ m. plains (left_in_round m us)) turn.0),
    )

rounds-alike : (k : ℕ) (told : List ℕ) (ss us : List (List LinedCommand)) → plains ss ≡ plains us → plains (left_by_rounds k told ss) ≡ plains (left_by_rounds k told us)
rounds-alike zero told ss us e = e
rounds-alike (suc k) told ss us e =
    let next = round-alike told ss us e in
    rounds-alike k (told_in_round told ss) (left_in_round told ss) (left_in_round told us) next.1
    ∙ ap (λ m. plains (left_by_rounds k m (left_in_round told us))) next.0

total-alike : (ss us : List (List LinedCommand)) → plains ss ≡ plains us → total ss ≡ total us
total-alike [] [] e = refl
total-alike [] (u ∷ us) e = absurd (let d : ◌≡◌ {A = List (List Command)} [] (plain u ∷ plains us) = e in cc)
total-alike (s ∷ ss) [] e = absurd (let d : ◌≡◌ {A = List (List Command)} (plain s ∷ plains ss) [] = e in cc)
total-alike (s ∷ ss) (u ∷ us) e =
    let same = rows_same (plain s) (plain u) (plains ss) (plains us) e in
    let long = sym (length-map s (λ (t : LinedCommand). t.command)) ∙ ap length same.0 ∙ length-map u (λ (t : LinedCommand). t.command) in
    ap₂ (λ m n. m + n) long (total-alike ss us same.1)

-- The same commands leave the same, whatever their lines are.
pub end-alike : (ss us : List (List LinedCommand)) → plains ss ≡ plains us → plains (left_at_end ss) ≡ plains (left_at_end us)
end-alike ss us e = rounds-alike (total ss) [] ss us e ∙ ap (λ k. plains (left_by_rounds k [] us)) (total-alike ss us e)

lesser-some : (n : ℕ) (o : Option ℕ) → lesser n o ≡ None → ⊥
lesser-some n None e = let d : ◌≡◌ {A = Option ℕ} (Some n) None = e in cc
lesser-some n (Some m) e = let d : ◌≡◌ {A = Option ℕ} (Some (min n m)) None = e in cc

-- no line, no command
least-none : (ss : List (List LinedCommand)) → least_line ss ≡ None → AreThrough (plains ss)
least-none [] e = tt
least-none ([] ∷ ss) e = (refl, least-none ss e)
least-none ((t ∷ ts) ∷ ss) e = absurd (lesser-some t.line (least_line ss) e)

numbered-plain : (n : ℕ) (cs : List Command) → plain (numbered n cs) ≡ cs
numbered-plain n [] = refl
numbered-plain n (c ∷ cs) = ap (λ ds. c ∷ ds) (numbered-plain (n + 1) cs)

numbered-plains : (css : List (List Command)) → plains (map (numbered 0) css) ≡ css
numbered-plains [] = refl
numbered-plains (cs ∷ css) = ap₂ (λ x xs. x ∷ xs) (numbered-plain 0 cs) (numbered-plains css)

-- Where no session stands at the end, the rounds leave no command, however the commands are numbered.
pub all-through : (ss : List (List LinedCommand)) → stuck_line ss ≡ None → AreThrough (plains (left_at_end (map (numbered 0) (plains ss))))
all-through ss e = subst AreThrough (sym (end-alike (map (numbered 0) (plains ss)) ss (numbered-plains (plains ss)))) (least-none (left_at_end ss) e)
