use Rattle.std.proofs.Common.{◌≡◌, ◌++◌}
use Rattle.tb_span.specs.Seeds.{places}
use Rattle.tb_stackjoin.specs.Pairs.{paired, related_places}
use Rattle.tb_stackjoin.proofs.naive.pair_with_all.Given as goal

abbrev pub invariant-ancestors : goal.invariant-ancestors
invariant-ancestors g l = l.pairs.items ≡ l.initial.pairs.items ++ paired (related_places l.axis l.a l.label (places l.ancestor)) l.place
