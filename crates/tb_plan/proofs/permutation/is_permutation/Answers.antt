use Rattle.std.proofs.Common.{◌≡◌, ◌<◌, ◌≤◌, ◌^◌, All, length, true, sym, subst, refl, arith}
use Rattle.std.proofs.lemmas.Bool.{both_ways}
use Rattle.tb_plan.specs.Orders.{IsOrder}
use Rattle.tb_plan.proofs.OrderLaws.{order-below}
use Rattle.tb_plan.proofs.MarkLaws.{marks-tell, marks-keep}
use Rattle.tb_plan.proofs.permutation.is_permutation.Goals as goal

pub returns-then-not-are_below-clause-tells : goal.returns-then-not-are_below-clause-tells
returns-then-not-are_below-clause-tells c =
    let xs = c.args.numbers.now.items in
    let short : IsOrder xs → c.are_below.result ≡ true = λ order. c.are_below.ensures.1 (subst (λ ys. All (λ n. n < length ys) ys) (sym c.as_slice-2.ensures.value) (order-below (length xs) xs order)) in
    ((λ told. absurd (both_ways _ refl told)), (λ order. absurd (both_ways _ c.if-not-are_below.true (short order))))

pub returns-clause-tells : goal.returns-clause-tells
returns-clause-tells c =
    let xs = c.args.numbers.now.items in
    let few : length xs ≤ 2 ^ 31 = omega arith in
    let below = subst (λ ys. All (λ n. n < length ys) ys) c.as_slice-2.ensures.value (c.are_below.ensures.0 c.if-not-are_below.false) in
    let tell = marks-tell xs c.mark_each.new.numbers.items few below c.mark_each.ensures in
    ((λ told. tell.0 (c.unmark_all.ensures.tells.0 told)), (λ order. c.unmark_all.ensures.tells.1 (tell.1 order)))

pub returns-clause-kept : goal.returns-clause-kept
returns-clause-kept c =
    let xs = c.args.numbers.now.items in
    let few : length xs ≤ 2 ^ 31 = omega arith in
    let below = subst (λ ys. All (λ n. n < length ys) ys) c.as_slice-2.ensures.value (c.are_below.ensures.0 c.if-not-are_below.false) in
    λ told. marks-keep xs c.mark_each.new.numbers.items few below c.mark_each.ensures c.unmark_all.new.numbers.items (c.unmark_all.ensures.tells.0 told) (c.unmark_all.ensures.lowered told)
