use Rattle.std.proofs.Common.{◌≡◌, ◌++◌, take}
use Rattle.tb_twig.specs.Grown.{with_each}
use Rattle.tb_twig.proofs.offers.push_copied.Given as goal

-- the rows so far
abbrev pub invariant-others : goal.invariant-others
invariant-others l = l.all.items ≡ l.initial.all.items ++ with_each (take l.offer-index l.others) l.fn.row
