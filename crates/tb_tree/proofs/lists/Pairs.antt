-- Lists whose elements stand in a relation pair by pair.
use Rattle.std.proofs.Common.{zero, suc, List, [], ◌∷◌, ◌++◌, length, get_or, All, AllPairs, refl, subst, arith}
use Rattle.std.proofs.lemmas.List.{get_or_append_left, get_or_at, length_push}
use Rattle.std.proofs.lemmas.List.Elements.{All-nil, All-head, All-tail, All-append, All-push}
use Rattle.std.proofs.lemmas.List.Kept.{AllPairs-cons}

pub AllPairs-nil : {X : Type 0} (R : X → X → Type 0) → AllPairs R []
AllPairs-nil R = λ i j d less within. absurd (omega arith)

pub AllPairs-head : {X : Type 0} (R : X → X → Type 0) (x : X) (xs : List X) → AllPairs R (x ∷ xs) → All (R x) xs
AllPairs-head R x xs h = λ k d within. h zero (suc k) d (omega arith) (omega arith)

pub AllPairs-tail : {X : Type 0} (R : X → X → Type 0) (x : X) (xs : List X) → AllPairs R (x ∷ xs) → AllPairs R xs
AllPairs-tail R x xs h = λ i j d less within. h (suc i) (suc j) d (omega arith) (omega arith)

pub AllPairs-push : {X : Type 0} (R : X → X → Type 0) (xs : List X) (y : X) → AllPairs R xs → All (λ x. R x y) xs → AllPairs R (xs ++ y ∷ [])
AllPairs-push R [] y pairs last = AllPairs-cons R y [] (All-nil (R y)) (AllPairs-nil R)
AllPairs-push R (x ∷ xs) y pairs last =
    AllPairs-cons R x (xs ++ y ∷ [])
    (All-push (R x) xs y (AllPairs-head R x xs pairs) (All-head (λ z. R z y) x xs last))
    (AllPairs-push R xs y (AllPairs-tail R x xs pairs) (All-tail (λ z. R z y) x xs last))

pub AllPairs-last : {X : Type 0} (R : X → X → Type 0) (xs : List X) (y : X) → AllPairs R (xs ++ y ∷ []) → All (λ x. R x y) xs
AllPairs-last R xs y h = λ k d within.
    let long = length_push xs y in
    subst (λ x. R x y) (get_or_append_left xs (y ∷ []) d k within)
    (subst (λ z. R (get_or (xs ++ y ∷ []) k d) z) (get_or_at xs y [] d (length xs) refl) (h k (length xs) d within (omega arith)))

pub AllPairs-append : {X : Type 0} (R : X → X → Type 0) (xs ys : List X) → AllPairs R xs → AllPairs R ys → All (λ x. All (R x) ys) xs → AllPairs R (xs ++ ys)
AllPairs-append R [] ys first second across = second
AllPairs-append R (x ∷ xs) ys first second across =
    AllPairs-cons R x (xs ++ ys)
    (All-append (R x) xs ys (AllPairs-head R x xs first) (All-head (λ z. All (R z) ys) x xs across))
    (AllPairs-append R xs ys (AllPairs-tail R x xs first) second (All-tail (λ z. All (R z) ys) x xs across))
