use Rattle.std.proofs.Common.{refl, arith}
use Rattle.tb_plan.proofs.MarkLaws.{lowered-all, raised-all}
use Rattle.tb_plan.proofs.permutation.unmark_all.Goals as goal

pub returns-clause-tells : goal.returns-clause-tells
returns-clause-tells c =
    let lowered = lowered-all c.args.numbers.now.items c.each.numbers.items c.each.place c.each.invariant (omega arith) in
    ((λ told. raised-all c.args.numbers.now.items c.each.numbers.items lowered), (λ marks. refl))
