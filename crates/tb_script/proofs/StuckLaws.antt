-- The start of a walk, and the least line at its end.
use Rattle.std.proofs.Common.{◌≡◌, ◌⊎◌, inl, inr, ℕ, zero, suc, ◌<◌, nat_lt, Bool, true, false, Option, Some, None, List, [], length, replicate, get_or, refl, sym, ap, ◌∙◌, subst, arith}
use Rattle.std.proofs.lemmas.Bool.{ltb-true, ltb-false}
use Rattle.std.proofs.lemmas.List.{get_or_past, length-replicate}
use Rattle.tb_script.specs.Rounds.{is_among, lesser, least_line, stuck_line}
use Rattle.tb_script.specs.Runs.{Runs, stop}
use Rattle.tb_script.specs.Walks.{WalkState, row_of, HaveMarksBelow, Walks, Waits, Starts, Ends}
use Rattle.tb_script.specs.declared.lined_command.LinedCommand.{LinedCommand}
use Rattle.tb_script.proofs.WalkLaws.{end-left}

-- the lesser of two lines, where there are lines
abbrev pub and_least : Option ℕ → Option ℕ → Option ℕ
and_least None o = o
and_least (Some n) o = lesser n o

pub get_or-same : {X : Type 0} (n m : ℕ) (d : X) → get_or (replicate n d) m d ≡ d
get_or-same zero m d = get_or_past [] m d (omega arith)
get_or-same (suc n) zero d = refl
get_or-same (suc n) (suc m) d = get_or-same n m d

start-walks : (ss : List (List LinedCommand)) (st : WalkState) (marks : ℕ) → st.left ≡ ss → st.told ≡ replicate marks false → Walks ss st
start-walks ss st marks left told = record {
  told = [];
  run = subst (λ rs. Runs [] ss [] rs) (sym left) stop;
  agrees = λ m. sym (ap (λ bits. get_or bits m false) told ∙ get_or-same marks m false);
}

pub starts : (ss : List (List LinedCommand)) (st : WalkState) (marks : ℕ) → HaveMarksBelow marks ss → st.left ≡ ss → st.told ≡ replicate marks false → st.waiters ≡ replicate marks []
    → ((at : ℕ) → at < length ss → is_among at st.ready ≡ true) → Starts ss st
starts ss st marks below left told waiters ready =
    let long : length st.told ≡ marks = ap length told ∙ length-replicate marks false in
    let wide = ap length waiters ∙ length-replicate marks [] in
    record {
      fits = record { same = wide ∙ sym long; below = subst (λ n. HaveMarksBelow n st.left) (sym long) (subst (HaveMarksBelow marks) (sym left) below) };
      walks = start-walks ss st marks left told;
      idles = λ m none e. ap (λ ls. get_or ls m []) waiters ∙ get_or-same marks m [];
      covers = λ at none. by at (nat_lt at (length ss)) refl;
    }
  where
    by : (at : ℕ) (b : Bool) → nat_lt at (length ss) ≡ b → (is_among at st.ready ≡ true) ⊎ Waits st at (row_of st at)
    by at true e = inl (ready at (ltb-true at (length ss) e))
    by at false e =
        let row : row_of st at ≡ [] = ap (λ rs. get_or rs at []) left ∙ get_or_past ss at [] (ltb-false at (length ss) e) in
        inr (subst (Waits st at) (sym row) tt)

-- the least line at the end of a walk
pub stuck-is : (ss : List (List LinedCommand)) (first last : WalkState) → Starts ss first → Ends first last → least_line last.left ≡ stuck_line ss
stuck-is ss first last s e = ap least_line (end-left ss last (e.walks ss s.walks) e.idles e.covers e.none)
