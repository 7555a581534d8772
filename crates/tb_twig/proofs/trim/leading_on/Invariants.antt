use Rattle.std.proofs.Common.{◌≡◌, take}
use Rattle.tb_twig.specs.Trimmed.{leading_on}
use Rattle.tb_twig.proofs.trim.leading_on.Given as goal

-- those of the links so far
abbrev pub invariant-links : goal.invariant-links
invariant-links l = l.kept.items ≡ leading_on l.others (take l.link-index l.links)
