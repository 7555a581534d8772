use Rattle.std.proofs.Common.{sym, ◌∙◌, refl, arith}
use Rattle.std.proofs.lemmas.Bool.{both_ways}
use Rattle.tb_plan.proofs.OrderLaws.{each-order, order-each, each-more}
use Rattle.tb_plan.proofs.permutation.has_each.Goals as goal

pub returns-then-not-contains : goal.returns-then-not-contains
returns-then-not-contains c =
    let none = sym c.contains.ensures.value ∙ c.if-not-contains.true in
    ((λ told. absurd (both_ways _ refl told)), (λ order. absurd (both_ways _ none (order-each _ c.args.numbers.now order c.each.number-counter (omega arith)))))

pub each-preserved : goal.each-preserved
each-preserved c = each-more c.args.numbers.now c.each.number-counter c.each.invariant (sym c.contains.ensures.value ∙ c.if-not-contains.false)

pub returns : goal.returns
returns c = ((λ told. each-order _ c.args.numbers.now refl (λ k low. c.each.invariant k (omega arith))), (λ order. refl))
