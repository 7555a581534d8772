-- One edge trims the one above it.
use Rattle.std.proofs.Common.{◌-◌, sym, ap, ap₂, ◌∙◌}
use Rattle.tb_twig.specs.Links.{links_at}
use Rattle.tb_twig.specs.Trimmed.{laid_at, leading_on}
use Rattle.tb_twig.proofs.TrimLaws.{trim-is}
use Rattle.tb_twig.proofs.trim.trim_above.Goals as goal

pub returns-clause-trimmed : goal.returns-clause-trimmed
returns-clause-trimmed c =
    trim-is c.args.laid.now c.args.f c.args.links.now.items c.in_ok-kept.kept (sym c.asks_above.ensures ∙ c.if-not-asks_above.false)
    (c.in_ok-kept.ensures.kept
    ∙ ap₂ leading_on (c.links_of.ensures.are ∙ ap (λ found. links_at found c.args.f) c.deref.ensures.value)
    (c.links_of-2.ensures.are ∙ ap (λ found. links_at found ((laid_at c.args.laid.now c.args.f).up - 1)) c.deref-2.ensures.value))
