use Rattle.std.proofs.Common.{◌<◌, All, subst, arith}
use Rattle.std.proofs.lemmas.List.{take_all}
use Rattle.std.proofs.lemmas.List.Elements.{All-more}
use Rattle.tb_stackjoin.specs.declared.tests.checked.Known.{Known}
use Rattle.tb_stackjoin.proofs.tests.checked.starts_before_all.Goals as goal

pub all-preserved : goal.all-preserved
all-preserved c =
    let P = λ (v : Known). c.args.u.now.item.label.start < v.item.label.start in
    let v = c.v-item.result in
    All-more P c.args.vs.now c.all.v-index v (omega arith) c.all.invariant (subst P c.v-item.is (omega (arith, c.args.u.now.start_is, v.start_is, c.if-u-v.false)))

pub returns : goal.returns
returns c = λ told.
    let P = λ (v : Known). c.args.u.now.item.label.start < v.item.label.start in
    subst (λ xs. All P xs) (take_all c.all.v-index c.args.vs.now (omega arith)) c.all.invariant
