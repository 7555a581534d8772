-- One place more, hit or not.
use Rattle.std.proofs.Common.{◌++◌, ◌∷◌, [], ap, ◌∙◌}
use Rattle.tb_twig.proofs.HitLaws.{chosen-no, chosen-yes}
use Rattle.tb_twig.proofs.hits.chosen.Goals as goal

pub places-preserved-then-not-hits-place : goal.places-preserved-then-not-hits-place
places-preserved-then-not-hits-place c = chosen-no c.args.items.now c.args.hits.now c.places.kept.items c.places.place c.if-not-hits-place.true c.places.invariant

pub places-preserved : goal.places-preserved
places-preserved c =
    chosen-yes c.args.items.now c.args.hits.now c.places.kept.items c.push.new.self.items c.places.place c.if-not-hits-place.false
    (c.in_ok-push.ensures.items ∙ ap (λ x. c.places.kept.items ++ x ∷ []) c.item_at.ensures) c.places.invariant
