use Rattle.std.proofs.Common.{◌++◌, ◌∙◌, sym, ap}
use Rattle.std.proofs.Common.{arith}
use Rattle.tb_span.specs.Seeds.{range}
use Rattle.tb_stackjoin.specs.Pairs.{above, paired, pairs_by_descendant}
use Rattle.tb_stackjoin.proofs.PairLaws.{pairs-more}
use Rattle.tb_stackjoin.proofs.naive.naive_join.Goals as goal

pub each-preserved : goal.each-preserved
each-preserved g c =
    let a = c.args.a.now in
    let d = c.args.d.now in
    let axis = c.args.axis in
    let place = c.each.place in
    c.in_ok-pair_with_all.ensures
    ∙ ap (λ ps. ps ++ paired (above axis a c.label_of.result.now) place) c.each.invariant
    ∙ ap (λ v. pairs_by_descendant axis a d (range c.args.lo place) ++ paired (above axis a v) place) c.label_of.ensures.is
    ∙ sym (pairs-more axis a d c.args.lo place (omega arith))
