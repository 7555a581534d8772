use Rattle.std.proofs.Common.{All, subst, arith}
use Rattle.std.proofs.lemmas.List.{take_all}
use Rattle.std.proofs.lemmas.List.Elements.{All-more}
use Rattle.tb_span.specs.Span.{Nests}
use Rattle.tb_stackjoin.specs.declared.tests.checked.Known.{Known}
use Rattle.tb_stackjoin.proofs.tests.checked.all_nest.Goals as goal

pub all-preserved : goal.all-preserved
all-preserved c =
    let P = λ (u : Known). All (λ (v : Known). Nests u.item.label v.item.label) c.args.vs.now in
    All-more P c.args.us.now c.all.u-index c.u-item.result (omega arith) c.all.invariant (subst P c.u-item.is (c.nests_with_all.ensures c.if-not-nests_with_all.false))

pub returns : goal.returns
returns c = λ told.
    let P = λ (u : Known). All (λ (v : Known). Nests u.item.label v.item.label) c.args.vs.now in
    subst (λ xs. All P xs) (take_all c.all.u-index c.args.us.now (omega arith)) c.all.invariant
