use Rattle.std.proofs.Common.{arith}
use Rattle.tb_stackjoin.proofs.RunLaws.{few-items}
use Rattle.tb_stackjoin.proofs.naive.count_of.Goals as goal

pub overflow_cast-result : goal.overflow_cast-result
overflow_cast-result c =
    let few =
    few-items c.args.items.now c.in-Some.last.now c.requires.sorted (omega (arith, c.in-Some.ensures.item.3.0)) c.in-Some.ensures.item.1
    c.interval.ensures.behind c.interval.ensures.short in
    omega (arith, few)
