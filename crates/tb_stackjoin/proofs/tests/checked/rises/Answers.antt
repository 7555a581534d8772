use Rattle.std.proofs.Common.{◌≡◌, ℕ, ◌+◌, ◌-◌, ◌<◌, All, List, length, get_or, drop, ap, ◌∙◌, subst, arith, get_or-drop, length-drop}
use Rattle.std.proofs.lemmas.List.{take_rest, get_or_default}
use Rattle.tb_stackjoin.proofs.PlaceLaws.{below-more}
use Rattle.tb_stackjoin.specs.declared.tests.checked.Known.{Known}
use Rattle.tb_stackjoin.proofs.tests.checked.rises.Goals as goal

-- an element that stands in the relation to all behind it
one-more : (R : Known → Known → Type 0) (us : List Known) (n : ℕ) (u : Known) → n < length us → u ≡ get_or us n u → All (R u) (drop (n + 1) us)
    → (j : ℕ) (d : Known) → n < j → j < length us → R (get_or us n d) (get_or us j d)
one-more R us n u here is all j d less within =
    let place : n + 1 + (j - (n + 1)) ≡ j = omega arith in
    let long = length-drop (n + 1) us in
    let at : get_or (drop (n + 1) us) (j - (n + 1)) d ≡ get_or us j d = get_or-drop (n + 1) us (j - (n + 1)) d ∙ ap (λ k. get_or us k d) place in
    subst (λ v. R v (get_or us j d)) (is ∙ get_or_default us n u d here) (subst (λ v. R u v) at (all (j - (n + 1)) d (omega arith)))

pub all-preserved : goal.all-preserved
all-preserved c =
    let us = c.args.us.now in
    let n = c.all.place in
    let u = c.index-us-place.result in
    let R = λ (v w : Known). v.item.label.start < w.item.label.start in
    let rest : All (R u) (drop (n + 1) us) = subst (λ xs. All (R u) xs) (take_rest us (n + 1)) (c.starts_before_all.ensures c.if-not-starts_before_all.false) in
    λ i j d before less within.
    below-more (λ i. (j : ℕ) (d : Known) → i < j → j < length us → R (get_or us i d) (get_or us j d)) n
    (λ i before j d less within. c.all.invariant i j d before less within)
    (one-more R us n u (omega arith) c.index-us-place.is rest) i before j d less within
