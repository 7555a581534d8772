use Rattle.std.proofs.Common.{◌∷◌, ◌++◌, [], sym, ap, ◌∙◌}
use Rattle.tb_plan.proofs.NumberLaws.{numbers-more}
use Rattle.tb_plan.proofs.by_number.numbers_below.Goals as goal

pub numbers-preserved : goal.numbers-preserved
numbers-preserved c =
    let n = c.numbers.number in
    c.in_ok-push.ensures.items ∙ ap (λ xs. xs ++ n ∷ []) c.numbers.invariant ∙ sym (numbers-more n)
