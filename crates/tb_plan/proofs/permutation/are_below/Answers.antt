use Rattle.std.proofs.Common.{◌<◌, All, length, subst, refl, arith}
use Rattle.std.proofs.lemmas.List.{take_all}
use Rattle.std.proofs.lemmas.List.Elements.{All-more}
use Rattle.tb_plan.proofs.permutation.are_below.Goals as goal

pub each-preserved : goal.each-preserved
each-preserved c = All-more (λ n. n < length c.args.numbers.now) c.args.numbers.now c.each.number-index 0 (omega arith) c.each.invariant c.if-number-numbers.false

pub returns : goal.returns
returns c =
    ((λ told. subst (λ xs. All (λ n. n < length c.args.numbers.now) xs) (take_all c.each.number-index c.args.numbers.now (omega arith)) c.each.invariant), (λ all. refl))
