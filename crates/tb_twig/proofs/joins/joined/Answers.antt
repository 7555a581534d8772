-- The pairs lie in the two lists, and are their links.
use Rattle.std.proofs.Common.{◌∙◌}
use Rattle.tb_twig.proofs.JoinedLaws.{within-above, within-below, links-are}
use Rattle.tb_twig.proofs.joins.joined.Goals as goal

pub narrow-requires-clause-above : goal.narrow-requires-clause-above
narrow-requires-clause-above g c = within-above c.args.branch.now.axis c.args.a.now c.args.d.now c.as_slice.result.now (c.as_slice.ensures.value ∙ c.in_ok-joined.ensures.pairs)

pub narrow-requires-clause-below : goal.narrow-requires-clause-below
narrow-requires-clause-below g c = within-below c.args.branch.now.axis c.args.a.now c.args.d.now c.as_slice.result.now (c.as_slice.ensures.value ∙ c.in_ok-joined.ensures.pairs)

pub returns-clause-links : goal.returns-clause-links
returns-clause-links g c =
    links-are c.args.branch.now.axis c.args.a.now c.args.d.now c.as_slice.result.now c.in_ok-narrowed.narrowed.links.items (c.as_slice.ensures.value ∙ c.in_ok-joined.ensures.pairs) c.in_ok-narrowed.ensures.links
