use Rattle.std.proofs.Common.{sym, subst}
use Rattle.tb_span.specs.Lists.{AreJoinable}
use Rattle.tb_parjoin.proofs.tests.joined.Goals as goal

pub structural_join-requires-clause-joinable : goal.structural_join-requires-clause-joinable
structural_join-requires-clause-joinable g c = λ κs within.
    subst (λ ys. AreJoinable c.list-a.result.now ys) (sym c.list-d.ensures.items) (c.list-a.ensures.joinable _)
