use Rattle.std.proofs.Common.{◌<◌, List, [], ◌∷◌, All, AllPairs, map, get_or}
use Rattle.std.proofs.lemmas.List.Elements.{All-map}
use Rattle.std.proofs.lemmas.List.Kept.{AllPairs-cons}
use Rattle.tb_span.specs.Span.{Nests}
use Rattle.tb_span.specs.Lists.{Nest}
use Rattle.tb_span.specs.declared.item.Item.{Item}
use Rattle.tb_tree.proofs.lists.Pairs.{AllPairs-nil, AllPairs-head, AllPairs-tail}
use Rattle.tb_stackjoin.specs.declared.tests.checked.Known.{Known}
use Rattle.tb_stackjoin.proofs.tests.checked.are_joinable.Goals as goal

AllPairs-map : {X Y : Type 0} (R : Y → Y → Type 0) (f : X → Y) (xs : List X) → AllPairs (λ x y. R (f x) (f y)) xs → AllPairs R (map f xs)
AllPairs-map R f [] h = AllPairs-nil R
AllPairs-map R f (x ∷ xs) h =
    AllPairs-cons R (f x) (map f xs) (All-map (R (f x)) f xs (AllPairs-head (λ a b. R (f a) (f b)) x xs h)) (AllPairs-map R f xs (AllPairs-tail (λ a b. R (f a) (f b)) x xs h))

nest-map : (us vs : List Known) → All (λ u. All (λ v. Nests u.item.label v.item.label) vs) us → Nest (map (λ u. u.item) us) (map (λ u. u.item) vs)
nest-map us vs h =
    All-map (λ x. All (λ y. Nests x.label y.label) (map (λ (u : Known). u.item) vs)) (λ (u : Known). u.item) us
    (λ k d within. All-map (λ y. Nests (get_or us k d).item.label y.label) (λ (u : Known). u.item) vs (h k d within))

pub returns : goal.returns
returns c = λ told.
    let a = c.args.a.now in
    let d = c.args.d.now in
    record {
      ancestors_sorted = AllPairs-map (λ (x y : Item). x.label.start < y.label.start) (λ (u : Known). u.item) a (c.rises.ensures c.if-not-rises.false);
      descendants_sorted = AllPairs-map (λ (x y : Item). x.label.start < y.label.start) (λ (u : Known). u.item) d (c.rises-2.ensures c.if-not-rises-2.false);
      ancestors_nest = nest-map a a (c.all_nest.ensures c.if-not-all_nest.false);
      descendants_nest = nest-map d d (c.all_nest-2.ensures c.if-not-all_nest-2.false);
      both_nest = nest-map a d (c.all_nest-3.ensures told);
    }
