-- The start of the rounds: nothing is done, and each session is to be looked at.
use Rattle.std.proofs.Common.{◌≡◌, ◌⊎◌, inl, inr, ℕ, ◌+◌, ◌<◌, ◌≤◌, Bool, true, false, nat_lt, List, [], ◌∷◌, ◌++◌, map, length, get_or, replicate, refl, sym, ap, ◌∙◌, subst, arith}
use Rattle.std.specs.List.{AllByRecursion}
use Rattle.std.proofs.lemmas.Bool.{ltb-true, ltb-false}
use Rattle.std.proofs.lemmas.List.{get_or_past, length-map, length-replicate}
use Rattle.tb_script.specs.Rounds.{numbered, total}
use Rattle.tb_script.specs.Runnable.{AreRunnable, HasMarkBelow}
use Rattle.tb_script.specs.Sets.{holds}
use Rattle.tb_script.specs.Stands.{Stand, Waits, WaitsIn, FitsAt, Begins, to_come}
use Rattle.tb_script.specs.declared.command.Command.{Command}
use Rattle.tb_script.proofs.ComeLaws.{come-all}
use Rattle.tb_script.proofs.StuckLaws.{get_or-same}

numbered-fit : (marks n : ℕ) (cs : List Command) → n + length cs ≤ 10000 → AllByRecursion (HasMarkBelow marks) cs → AllByRecursion (FitsAt marks) (numbered n cs)
numbered-fit marks n [] few below = tt
numbered-fit marks n (c ∷ cs) few below =
    (record { mark = below.0; number = omega (arith, few) }, numbered-fit marks (n + 1) cs (omega (arith, few)) below.1)

numbered-fits : (marks : ℕ) (css : List (List Command)) → AllByRecursion (λ cs. length cs ≤ 10000) css → AllByRecursion (AllByRecursion (HasMarkBelow marks)) css
    → AllByRecursion (AllByRecursion (FitsAt marks)) (map (numbered 0) css)
numbered-fits marks [] few below = tt
numbered-fits marks (cs ∷ css) few below = (numbered-fit marks 0 cs (omega (arith, few.0)) below.0, numbered-fits marks css few.1 below.1)

-- At the start no mark is told, and all steps are to come.
pub begins : (css : List (List Command)) (marks : ℕ) (st : Stand) → AreRunnable css marks → st.left ≡ map (numbered 0) css → st.told ≡ replicate marks false → length st.waiters ≡ marks → st.steps ≡ []
    → ((n : ℕ) → n < 64 → holds st.awake n ≡ true) → Begins css st
begins css marks st r left told waiters steps all = record {
  fits = record {
    same = waiters ∙ sym long;
    rows = subst (λ n. AllByRecursion (AllByRecursion (FitsAt n)) st.left) (sym long) (subst (AllByRecursion (AllByRecursion (FitsAt marks))) (sym left) (numbered-fits marks css r.commands_fit r.below));
  };
  follows = record {
    told = [];
    agrees = λ m. sym (ap (λ bits. get_or bits m false) told ∙ get_or-same marks m false);
    steps = λ k few. ap (λ xs. xs ++ to_come k 0 [] st.left) steps ∙ ap (λ rs. to_come k 0 [] rs) left ∙ come-all k css (subst (λ rs. total rs ≤ k) left few);
    ahead = λ n below. absurd (omega (arith, below));
    here = λ n over. here n (nat_lt n 64) refl;
    behind = λ n below. absurd (omega (arith, below));
  };
}
  where
    long : length st.told ≡ marks
    long = ap length told ∙ length-replicate marks false

    here : (n : ℕ) (b : Bool) → nat_lt n 64 ≡ b → (holds st.awake n ≡ true) ⊎ WaitsIn st n
    here n true e = inl (all n (ltb-true n 64 e))
    here n false e =
        let past : length st.left ≤ n = omega (arith, ltb-false n 64 e, r.sessions_fit, ap length left, length-map css (numbered 0)) in
        inr (subst (Waits st.told st.waiters n) (sym (get_or_past st.left n [] past)) tt)
