use Rattle.std.proofs.Common.{◌≡◌, take}
use Rattle.tb_twig.proofs.copies.+copy_row.Given as goal

-- the offers and the witnesses so far
abbrev pub invariant-offers : goal.invariant-offers
invariant-offers l = l.offers.items ≡ take l.offer-index l.row

abbrev pub invariant-witnesses : goal.invariant-witnesses
invariant-witnesses l = l.witnesses.items ≡ take l.w-index l.w-items
