-- the pairs up to a place; a reach without places has none
use Rattle.std.proofs.Common.{◌≡◌, ◌≤◌, ◌++◌, map}
use Rattle.tb_span.specs.Seeds.{range, places_in}
use Rattle.tb_stackjoin.specs.Pairs.{pair}
use Rattle.tb_stackjoin.proofs.reach.pair_reach.Given as goal

abbrev pub invariant-places : goal.invariant-places
invariant-places l = record {
  pairs : l.pairs.items ≡ l.initial.pairs.items ++ map (λ j. pair l.reach.a j) (places_in (range l.reach.first l.place));
  none : l.reach.last ≤ l.reach.first → l.place ≡ l.reach.first;
}
