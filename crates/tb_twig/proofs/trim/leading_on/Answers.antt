-- What is kept of links that rise does so.
use Rattle.std.proofs.Common.{sym, ap, ◌∙◌, subst}
use Rattle.std.proofs.lemmas.List.{take_all}
use Rattle.tb_twig.specs.Links.{IsRising}
use Rattle.tb_twig.specs.Narrowed.{leads_from}
use Rattle.tb_twig.specs.Trimmed.{leading_on}
use Rattle.tb_twig.specs.declared.link.Link.{Link}
use Rattle.tb_twig.proofs.RunLaws.{rising-filter}
use Rattle.tb_twig.proofs.trim.leading_on.Goals as goal

pub returns-clause-rise : goal.returns-clause-rise
returns-clause-rise c =
    subst IsRising (sym (c.links.invariant ∙ ap (leading_on c.args.others.now) (take_all c.links.link-index c.args.links.now c.links-test.false)))
    (rising-filter (λ (l : Link). leads_from c.args.others.now l.below) c.args.links.now c.requires.links)
