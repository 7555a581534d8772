-- The upper list is narrowed where the mark asks for something.
use Rattle.std.proofs.Common.{map, refl, sym, ap, ◌∙◌}
use Rattle.tb_twig.specs.Hits.{link_at, chosen}
use Rattle.tb_twig.proofs.HitLaws.{chosen-above, above-none, above-some}
use Rattle.tb_twig.proofs.narrow.narrowed_above.Goals as goal

pub returns-then-not-asks : goal.returns-then-not-asks
returns-then-not-asks c = λ d. above-none c.args.mark (map (link_at c.args.a.now d) c.args.pairs.now) c.args.a.now (sym c.asks.ensures ∙ c.if-not-asks.true)

pub returns : goal.returns
returns c = λ d.
    let links = map (link_at c.args.a.now d) c.args.pairs.now in
    c.in_ok-above.ensures ∙ ap (chosen c.args.a.now) c.as_slice.ensures.value
    ∙ chosen-above c.args.a.now d c.args.pairs.now links c.in_ok-hits.hits.items refl c.requires.numbered c.requires.above c.in_ok-hits.ensures
    ∙ above-some c.args.mark links c.args.a.now (sym c.asks.ensures ∙ c.if-not-asks.false)
