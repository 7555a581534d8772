use Rattle.std.proofs.Common.{◌≡◌, take}
use Rattle.tb_twig.proofs.copies.copy_offer.Given as goal

-- the witnesses so far
abbrev pub invariant-witnesses : goal.invariant-witnesses
invariant-witnesses l = l.witnesses.items ≡ take l.w-index l.offer
