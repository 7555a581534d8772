use Rattle.std.proofs.Common.{◌≡◌, [], ◌∷◌, ◌++◌}
use Rattle.std.specs.Vec.Iter.{into_iter_items}
use Rattle.tb_twig.specs.Grown.{grown}
use Rattle.tb_twig.proofs.offers.product.Given as goal

-- the rows so far, with those of the rows that are left and of the last
abbrev pub invariant-others : goal.invariant-others
invariant-others l = l.all.items ++ grown (into_iter_items l.row-iterator ++ l.last-inside.items.items ∷ []) l.offers.items ≡ grown l.fn.rows.items l.offers.items
