use Rattle.std.proofs.Common.{◌≡◌, false, get_or, map, filter}
use Rattle.tb_span.specs.Seeds.{item_at, places}
use Rattle.tb_twig.proofs.hits.chosen.Given as goal

-- the items at the places so far
abbrev pub invariant-places : goal.invariant-places
invariant-places l = l.kept.items ≡ map (item_at l.items) (filter (λ j. get_or l.hits j false) (places l.place))
