use Rattle.std.proofs.Common.{◌≡◌, [], ◌∷◌, ◌++◌}
use Rattle.std.specs.Vec.Iter.{into_iter_items}
use Rattle.tb_twig.specs.Grown.{with_each}
use Rattle.tb_twig.proofs.offers.push_moved.Given as goal

-- the rows so far, with those of the offers that are left and of the last
abbrev pub invariant-others : goal.invariant-others
invariant-others l = l.all.items ++ with_each (into_iter_items l.offer-iterator ++ l.last-inside.items.items ∷ []) l.fn.row ≡ l.initial.all.items ++ with_each l.fn.offers.items l.fn.row
