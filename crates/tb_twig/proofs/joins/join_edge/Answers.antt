-- The links of the edge take their place.
use Rattle.std.proofs.Common.{Vec, Global, set, map, ap, ap₂, ◌∙◌}
use Rattle.std.proofs.lemmas.List.{map-set, get_or_default}
use Rattle.tb_twig.specs.Links.{lists_in}
use Rattle.tb_twig.specs.Lists.{items_in}
use Rattle.tb_twig.specs.Joins.{links_found}
use Rattle.tb_twig.specs.Trimmed.{no_laid}
use Rattle.tb_twig.specs.declared.link.Link.{Link}
use Rattle.tb_twig.proofs.joins.join_edge.Goals as goal

pub returns-clause-links : goal.returns-clause-links
returns-clause-links g c =
    let found = lists_in c.args.joins.now.links.items in
    map-set (λ (v : Vec Link Global). v.items) c.args.joins.now.links.items c.args.e c.in_ok-narrowed.narrowed.links
    ∙ ap (set found c.args.e)
    (c.in_ok-narrowed.ensures.links
    ∙ ap₂ (λ branch lists. links_found branch c.args.e (map items_in lists))
    (c.index.ensures ∙ get_or_default c.args.joins.now.laid.items c.args.e c.index.result.now no_laid c.requires.within) c.as_slice.ensures.value)
