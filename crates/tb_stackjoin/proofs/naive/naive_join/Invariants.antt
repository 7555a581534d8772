use Rattle.std.proofs.Common.{◌≡◌}
use Rattle.tb_span.specs.Seeds.{range}
use Rattle.tb_stackjoin.specs.Pairs.{pairs_by_descendant}
use Rattle.tb_stackjoin.proofs.naive.naive_join.Given as goal

abbrev pub invariant-each : goal.invariant-each
invariant-each g l = l.pairs.items ≡ pairs_by_descendant l.axis l.a l.d (range l.lo l.place)
