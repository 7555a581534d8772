use Rattle.std.proofs.Common.{◌≡◌, ◌≤◌, length, All}
use Rattle.tb_twig.specs.Links.{IsRising, lists_in}
use Rattle.tb_twig.specs.Trimmed.{trimmed}
use Rattle.tb_twig.proofs.trim.trim.Given as goal

-- the first f edges are left to do
abbrev pub invariant-edges : goal.invariant-edges
invariant-edges l = record {
  within : l.f ≤ length l.laid;
  edges : length l.laid ≡ length l.links.items;
  above : All (λ b. b.up ≤ length l.links.items) l.laid;
  rise : All (λ ls. IsRising ls.items) l.links.items;
  trimmed : trimmed l.laid l.f (lists_in l.links.items) ≡ trimmed l.laid (length l.laid) (lists_in l.initial.links.items);
}

abbrev pub decreases-edges : goal.decreases-edges
decreases-edges l = l.f
