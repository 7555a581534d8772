-- Two lists of one store can be joined.
use Rattle.std.proofs.Common.{sym, subst}
use Rattle.tb_span.specs.Lists.{AreJoinable}
use Rattle.tb_bench.proofs.join.time_lists.Goals as goal

pub whole_join-requires-clause-joinable : goal.whole_join-requires-clause-joinable
whole_join-requires-clause-joinable c =
    subst (λ d. AreJoinable c.list.result.now d) (sym c.list-2.ensures.items) (c.list.ensures.joinable c.args.below.now)
