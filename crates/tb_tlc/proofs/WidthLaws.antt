-- Operators and columns of conditions that stand behind others.
use Rattle.std.proofs.Common.{◌≡◌, ℕ, ◌+◌, List, [], ◌∷◌, ◌++◌, sym, ap, ◌∙◌, arith, append_assoc}
use Rattle.tb_query.specs.declared.operand.Comparison.{Comparison}
use Rattle.tb_tlc.specs.Planned.{Scope, cond_ops, cond_width, conds_ops, conds_width}

pub conds_width-append : (xs ys : List Comparison) → conds_width (xs ++ ys) ≡ conds_width xs + conds_width ys
conds_width-append [] ys = omega arith
conds_width-append (c ∷ xs) ys = let others = conds_width-append xs ys in omega (arith, others)

pub conds_ops-append : (s : Scope) (n : ℕ) (xs ys : List Comparison)
    → conds_ops s n (xs ++ ys) ≡ conds_ops s n xs ++ conds_ops s (n + conds_width xs) ys
conds_ops-append s n [] ys = let none : n ≡ n + 0 = omega arith in ap (λ m. conds_ops s m ys) none
conds_ops-append s n (c ∷ xs) ys =
    let sum : n + cond_width c + conds_width xs ≡ n + (cond_width c + conds_width xs) = omega arith in
    ap (λ ops. cond_ops s n c ++ ops) (conds_ops-append s (n + cond_width c) xs ys)
    ∙ ap (λ m. cond_ops s n c ++ (conds_ops s (n + cond_width c) xs ++ conds_ops s m ys)) sum
    ∙ sym (append_assoc (cond_ops s n c) (conds_ops s (n + cond_width c) xs) (conds_ops s (n + (cond_width c + conds_width xs)) ys))
