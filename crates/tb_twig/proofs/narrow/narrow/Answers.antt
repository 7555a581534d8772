-- The hits by place are hits by number.
use Rattle.std.proofs.Common.{sym, ap, ◌∙◌}
use Rattle.tb_twig.specs.Narrowed.{upper_left}
use Rattle.tb_twig.specs.Hits.{chosen}
use Rattle.tb_twig.proofs.HitLaws.{chosen-below}
use Rattle.tb_twig.proofs.narrow.narrow.Goals as goal

pub returns-clause-above : goal.returns-clause-above
returns-clause-above c = c.in_ok-above.ensures c.args.d.now ∙ ap (λ links. upper_left c.args.mark links c.args.a.now) (sym c.in_ok-links.ensures)

pub returns-clause-below : goal.returns-clause-below
returns-clause-below c =
    c.in_ok-below.ensures ∙ ap (chosen c.args.d.now) c.as_slice.ensures.value
    ∙ chosen-below c.args.a.now c.args.d.now c.args.pairs.now c.in_ok-links.links.items c.in_ok-hits.hits.items c.in_ok-links.ensures c.requires.numbered_below c.requires.below c.in_ok-hits.ensures
