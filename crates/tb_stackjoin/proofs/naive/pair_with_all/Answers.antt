use Rattle.std.proofs.Common.{◌≡◌, ◌++◌, ◌∷◌, [], ◌∙◌, sym, ap, false, true}
use Rattle.tb_span.specs.Seeds.{label_at, places}
use Rattle.tb_span.specs.Lists.{is_related}
use Rattle.tb_stackjoin.specs.Pairs.{pair, paired, related_places}
use Rattle.tb_stackjoin.proofs.PairLaws.{related-yes, related-no, paired-push}
use Rattle.tb_stackjoin.proofs.naive.pair_with_all.Goals as goal

pub ancestors-preserved-then-not-has_on_axis : goal.ancestors-preserved-then-not-has_on_axis
ancestors-preserved-then-not-has_on_axis g c =
    let a = c.args.a.now in
    let v = c.args.label.now in
    let axis = c.args.axis in
    let i = c.ancestors.ancestor in
    let unrelated : is_related axis (label_at a i) v ≡ false = ap (λ u. is_related axis u v) (sym c.label_of.ensures.is) ∙ sym c.has_on_axis.ensures ∙ c.if-not-has_on_axis.true in
    c.ancestors.invariant ∙ ap (λ xs. c.args.pairs.now.items ++ paired xs c.args.place) (sym (related-no axis a v i unrelated))

pub ancestors-preserved : goal.ancestors-preserved
ancestors-preserved g c =
    let a = c.args.a.now in
    let v = c.args.label.now in
    let axis = c.args.axis in
    let i = c.ancestors.ancestor in
    let had = c.args.pairs.now.items in
    let related : is_related axis (label_at a i) v ≡ true = ap (λ u. is_related axis u v) (sym c.label_of.ensures.is) ∙ sym c.has_on_axis.ensures ∙ c.if-not-has_on_axis.false in
    c.in_ok-push.ensures.items
    ∙ ap (λ ps. ps ++ pair i c.args.place ∷ []) c.ancestors.invariant
    ∙ paired-push had (related_places axis a v (places i)) i c.args.place
    ∙ ap (λ xs. had ++ paired xs c.args.place) (sym (related-yes axis a v i related))
