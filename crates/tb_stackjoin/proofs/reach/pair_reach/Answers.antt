use Rattle.std.proofs.Common.{◌++◌, ◌∷◌, [], map, sym, ap, ◌∙◌, arith, append_assoc}
use Rattle.std.proofs.lemmas.List.{map_push}
use Rattle.tb_span.specs.Seeds.{range, places_in}
use Rattle.tb_tree.proofs.lists.Ranges.{range_more}
use Rattle.tb_stackjoin.specs.Pairs.{pair}
use Rattle.tb_stackjoin.proofs.reach.pair_reach.Goals as goal

pub places-preserved : goal.places-preserved
places-preserved c =
    let x = c.args.reach.now in
    let had = c.args.pairs.now.items in
    let place = c.places.place in
    let so_far = places_in (range x.first place) in
    record {
      pairs =
          c.in_ok-push.ensures.items
          ∙ ap (λ ps. ps ++ pair x.a place ∷ []) c.places.invariant.pairs
          ∙ append_assoc had (map (λ j. pair x.a j) so_far) (pair x.a place ∷ [])
          ∙ ap (λ ps. had ++ ps) (sym (map_push (λ j. pair x.a j) so_far place) ∙ ap (λ js. map (λ j. pair x.a j) js) (sym (range_more x.first place (omega arith))));
      none = λ e. absurd (omega (arith, c.places.invariant.none e, c.places-test.true, e));
    }
