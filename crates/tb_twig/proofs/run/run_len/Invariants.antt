use Rattle.std.proofs.Common.{◌≡◌, ◌+◌, nat_eq, drop}
use Rattle.std.specs.List.{prefix_len}
use Rattle.tb_twig.proofs.run.run_len.Given as goal

-- as many as links so far, with those that follow
abbrev pub invariant-links : goal.invariant-links
invariant-links l = (l.len ≡ l.link-index) × (l.len + prefix_len (λ link. nat_eq link.above l.n) (drop l.link-index l.links) ≡ prefix_len (λ link. nat_eq link.above l.n) l.links)
