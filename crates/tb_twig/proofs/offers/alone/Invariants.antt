use Rattle.std.proofs.Common.{◌≡◌, [], ◌∷◌, ◌++◌, map}
use Rattle.std.specs.Vec.Iter.{into_iter_items}
use Rattle.tb_twig.proofs.offers.alone.Given as goal

-- the offers so far, with those of the witnesses that are left
abbrev pub invariant-witnesses : goal.invariant-witnesses
invariant-witnesses l = l.offers.items ++ map (λ w. w ∷ []) (into_iter_items l.w-iterator) ≡ map (λ w. w ∷ []) l.fn.witnesses.items
