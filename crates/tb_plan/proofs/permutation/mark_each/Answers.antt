use Rattle.std.proofs.Common.{length, take, ap, ◌∙◌, arith}
use Rattle.tb_plan.proofs.MarkLaws.{length-marked, marked-none, number-read, marked-step}
use Rattle.tb_plan.proofs.permutation.mark_each.Goals as goal

pub each-init : goal.each-init
each-init c = marked-none c.args.numbers.now.items

pub index-requires-in-each : goal.index-requires-in-each
index-requires-in-each c =
    let xs = c.args.numbers.now.items in
    let seen = take c.each.place xs in
    let long = ap length c.each.invariant ∙ length-marked seen xs in
    let number = number-read xs c.requires.few c.requires.below seen c.each.numbers.items c.each.place _ _ (omega arith) c.each.invariant c.index.ensures c.without_mark-number.ensures in
    omega (arith, long, number.1)

pub index_mut-requires : goal.index_mut-requires
index_mut-requires c =
    let xs = c.args.numbers.now.items in
    let seen = take c.each.place xs in
    let long = ap length c.each.invariant ∙ length-marked seen xs in
    let number = number-read xs c.requires.few c.requires.below seen c.each.numbers.items c.each.place _ _ (omega arith) c.each.invariant c.index.ensures c.without_mark-number.ensures in
    omega (arith, long, number.1)

pub each-preserved : goal.each-preserved
each-preserved c =
    let xs = c.args.numbers.now.items in
    marked-step xs c.requires.few c.requires.below c.each.numbers.items c.each.place _ _ _ _ (omega arith) c.each.invariant c.index.ensures c.without_mark-number.ensures c.index-in-each.ensures c.without_mark.ensures
