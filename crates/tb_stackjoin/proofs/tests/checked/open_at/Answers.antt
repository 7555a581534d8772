use Rattle.std.proofs.Common.{◌≡◌, ◌∷◌, [], ◌++◌, ◌∙◌, true, false, sym, ap, map, arith}
use Rattle.tb_span.specs.Seeds.{label_at, is_open_at}
use Rattle.tb_stackjoin.proofs.PlaceLaws.{filter_places-yes, filter_places-no, label_at-map}
use Rattle.tb_stackjoin.specs.declared.tests.checked.Known.{Known}
use Rattle.tb_stackjoin.proofs.tests.checked.open_at.Goals as goal

pub all-preserved-then-not-is_open : goal.all-preserved-then-not-is_open
all-preserved-then-not-is_open c =
    let xs = map (λ (u : Known). u.item) c.args.list.now in
    let point = c.args.point in
    let i = c.all.place in
    let at = label_at-map (λ (u : Known). u.item) c.args.list.now i c.index-list-place.result (omega arith) c.index-list-place.is in
    let closed : is_open_at point (label_at xs i) ≡ false = ap (λ u. is_open_at point u) at ∙ sym c.is_open.ensures ∙ c.if-not-is_open.true in
    c.all.invariant ∙ sym (filter_places-no (λ k. is_open_at point (label_at xs k)) i closed)

pub all-preserved : goal.all-preserved
all-preserved c =
    let xs = map (λ (u : Known). u.item) c.args.list.now in
    let point = c.args.point in
    let i = c.all.place in
    let at = label_at-map (λ (u : Known). u.item) c.args.list.now i c.index-list-place.result (omega arith) c.index-list-place.is in
    let opens : is_open_at point (label_at xs i) ≡ true = ap (λ u. is_open_at point u) at ∙ sym c.is_open.ensures ∙ c.if-not-is_open.false in
    c.in_ok-push.ensures.items ∙ ap (λ ks. ks ++ i ∷ []) c.all.invariant ∙ sym (filter_places-yes (λ k. is_open_at point (label_at xs k)) i opens)
