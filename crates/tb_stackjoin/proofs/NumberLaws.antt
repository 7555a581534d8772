-- Numbers of reaches on a stack: which reaches they are when one has ended or was opened, and which ancestors last.
use Rattle.std.proofs.Common.{◌≡◌, ℕ, ◌+◌, ◌-◌, ◌<◌, ◌≤◌, Bool, true, false, ◌&&◌, cond, nat_eq, List, [], ◌∷◌, ◌++◌, set, take, length, get_or, All, AllPairs, refl, ap, ap₂, ◌∙◌, subst, arith}
use Rattle.std.proofs.lemmas.Bool.{eqb-true, and_parts}
use Rattle.std.proofs.lemmas.List.{length-set, length_push, length-take-le, get_or-take, get_or-set_other, get_or_append_left, get_or_at, get_or-map, length-map, map_push}
use Rattle.std.proofs.lemmas.List.Elements.{All-push}
use Rattle.tb_span.specs.Span.{IsAbove}
use Rattle.tb_span.specs.Seeds.{label_at}
use Rattle.tb_span.specs.declared.item.Item.{Item}
use Rattle.tb_tree.proofs.lists.Maps.{map_same, All-unmap}
use Rattle.tb_tree.proofs.lists.Pairs.{AllPairs-last}
use Rattle.tb_stackjoin.specs.Reaches.{no_reach, reach_at, ended, reaches_ended, ancestors_of}
use Rattle.tb_stackjoin.specs.Stacks.{IsStack, lasts}
use Rattle.tb_stackjoin.specs.declared.reach.Reach.{Reach}
use Rattle.tb_stackjoin.proofs.StackLaws.{all_last}

-- the numbers below the top are others
pub below_top-others : (a : List Item) (n top : ℕ) (reaches : List Reach) (rest : List ℕ) → IsStack a n (ancestors_of reaches (rest ++ top ∷ [])) → All (λ k. k ≡ top → ⊥) rest
below_top-others a n top reaches rest h =
    let up = λ (k : ℕ). (reach_at reaches k).a in
    let inside = AllPairs-last (λ i k. IsAbove (label_at a i) (label_at a k)) (ancestors_of reaches rest) (up top)
    (subst (λ is. AllPairs (λ i k. IsAbove (label_at a i) (label_at a k)) is) (map_push up rest top) h.inside) in
    let all = All-unmap (λ i. IsAbove (label_at a i) (label_at a (up top))) up rest inside in
    λ k e less is. omega (arith, (all k e less).starts_before, ap (λ m. (label_at a (up m)).start) is)

was-newest : (place top : ℕ) (reaches : List Reach) → (nat_eq (reach_at reaches top).first place && nat_eq (top + 1) (length reaches)) ≡ true → top + 1 ≡ length reaches
was-newest place top reaches e = eqb-true (top + 1) (length reaches) (and_parts (nat_eq (reach_at reaches top).first place) (nat_eq (top + 1) (length reaches)) e).1

-- and have the ancestors that they had
pub ancestors_of-ended : (place top : ℕ) (reaches : List Reach) (rest : List ℕ) → All (λ k. k < length reaches) rest → All (λ k. k ≡ top → ⊥) rest
    → ancestors_of (reaches_ended place top reaches) rest ≡ ancestors_of reaches rest
ancestors_of-ended place top reaches rest numbered others =
    at (nat_eq (reach_at reaches top).first place && nat_eq (top + 1) (length reaches)) (was-newest place top reaches)
  where
    at : (b : Bool) → (b ≡ true → top + 1 ≡ length reaches) → ancestors_of (cond b (take top reaches) (set reaches top (ended place (reach_at reaches top)))) rest ≡ ancestors_of reaches rest
    at true newest_is =
        map_same (λ k. (reach_at (take top reaches) k).a) (λ k. (reach_at reaches k).a) rest
        (λ k e less. ap (λ (x : Reach). x.a) (get_or-take top reaches _ no_reach (omega (arith, newest_is refl, numbered k e less, others k e less))))
    at false newest_is =
        map_same (λ k. (reach_at (set reaches top (ended place (reach_at reaches top))) k).a) (λ k. (reach_at reaches k).a) rest
        (λ k e less. ap (λ (x : Reach). x.a) (get_or-set_other reaches top _ (ended place (reach_at reaches top)) no_reach (others k e less)))

-- and are still numbers of reaches
pub numbered-ended : (place top : ℕ) (reaches : List Reach) (rest : List ℕ) → top < length reaches → All (λ k. k < length reaches) rest → All (λ k. k ≡ top → ⊥) rest
    → All (λ k. k < length (reaches_ended place top reaches)) rest × (length (reaches_ended place top reaches) ≤ length reaches)
numbered-ended place top reaches rest less numbered others =
    at (nat_eq (reach_at reaches top).first place && nat_eq (top + 1) (length reaches)) (was-newest place top reaches)
  where
    at : (b : Bool) → (b ≡ true → top + 1 ≡ length reaches) → All (λ k. k < length (cond b (take top reaches) (set reaches top (ended place (reach_at reaches top))))) rest
        × (length (cond b (take top reaches) (set reaches top (ended place (reach_at reaches top)))) ≤ length reaches)
    at true newest_is =
        let long = length-take-le top reaches (omega (arith, less)) in
        (λ k e inside. omega (arith, long, newest_is refl, numbered k e inside, others k e inside), omega (arith, long, less))
    at false newest_is =
        let long = length-set reaches top (ended place (reach_at reaches top)) in
        (λ k e inside. omega (arith, long, numbered k e inside), omega (arith, long))

-- and when one is opened
pub ancestors_of-opened : (reaches : List Reach) (stack : List ℕ) (x : Reach) → All (λ k. k < length reaches) stack
    → ancestors_of (reaches ++ x ∷ []) (stack ++ length reaches ∷ []) ≡ ancestors_of reaches stack ++ x.a ∷ []
ancestors_of-opened reaches stack x within =
    map_push (λ k. (reach_at (reaches ++ x ∷ []) k).a) stack (length reaches)
    ∙ ap₂ (λ is i. is ++ i ∷ [])
    (map_same (λ k. (reach_at (reaches ++ x ∷ []) k).a) (λ k. (reach_at reaches k).a) stack
    (λ k e less. ap (λ (y : Reach). y.a) (get_or_append_left reaches (x ∷ []) no_reach _ (within k e less))))
    (ap (λ (y : Reach). y.a) (get_or_at reaches x [] no_reach (length reaches) refl))

pub numbered-opened : (reaches : List Reach) (stack : List ℕ) (x : Reach) → All (λ k. k < length reaches) stack → All (λ k. k < length (reaches ++ x ∷ [])) (stack ++ length reaches ∷ [])
numbered-opened reaches stack x within =
    let long = length_push reaches x in
    All-push (λ k. k < length (reaches ++ x ∷ [])) stack (length reaches) (λ k e less. omega (arith, long, within k e less)) (omega (arith, long))

-- where the ancestor of the top lasts, all do
pub top_lasts : (a : List Item) (n point : ℕ) (reaches : List Reach) (stack : List ℕ) (top : ℕ) → IsStack a n (ancestors_of reaches stack) → 0 < length stack
    → get_or stack (length stack - 1) top ≡ top → point ≤ (label_at a (reach_at reaches top).a).end → All (λ i. lasts a point i ≡ true) (ancestors_of reaches stack)
top_lasts a n point reaches stack top h some last lasting =
    let up = λ (k : ℕ). (reach_at reaches k).a in
    let long = length-map stack up in
    let at : length (ancestors_of reaches stack) - 1 ≡ length stack - 1 = omega (arith, long) in
    all_last a n point (ancestors_of reaches stack) (up top) h (omega (arith, long, some))
    (ap (λ m. get_or (ancestors_of reaches stack) m (up top)) at ∙ get_or-map up stack (length stack - 1) top (up top) (omega (arith, some)) ∙ ap up last) lasting
