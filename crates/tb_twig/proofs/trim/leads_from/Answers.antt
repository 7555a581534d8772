-- The link at the partition point tells.
use Rattle.std.proofs.Common.{nat_eq, ap, ◌∙◌}
use Rattle.tb_twig.specs.declared.link.Link.{Link}
use Rattle.tb_twig.proofs.RunLaws.{leads-at, leads-none}
use Rattle.tb_twig.proofs.trim.leads_from.Goals as goal

pub returns-in-Some : goal.returns-in-Some
returns-in-Some c =
    ap (λ (l : Link). nat_eq l.above c.args.n) c.in-Some.ensures.lookup.1
    ∙ leads-at c.args.n c.args.links.now c.start_of.result c.in-Some.link.now c.start_of.ensures.point c.requires c.in-Some.ensures.lookup.3.0

pub returns-in-None : goal.returns-in-None
returns-in-None c = leads-none c.args.n c.args.links.now c.start_of.result c.start_of.ensures.point c.in-None.ensures.lookup.3
