-- Lists that are joined, and their parts.
use Rattle.std.proofs.Common.{◌≡◌, ◌+◌, ◌-◌, ◌<◌, List, [], ◌∷◌, ◌++◌, length, take, get_or, refl, sym, ap, ap₂, ◌∙◌, arith, take-append-drop}
use Rattle.std.proofs.lemmas.List.{drop_more, drop_all}
use Rattle.std.proofs.Math.Seq.{take-append_seam}
use Rattle.std.proofs.lemmas.List.{length-append, append_cancel_left}

pub first-same : {X : Type 0} (x y : X) (xs ys : List X) → x ∷ xs ≡ y ∷ ys → x ≡ y
first-same x y xs ys e = cc

-- what stands behind the same part begins alike
pub head-same : {X : Type 0} (before : List X) (x y : X) (xs ys : List X) → before ++ x ∷ xs ≡ before ++ y ∷ ys → x ≡ y
head-same before x y xs ys e = first-same x y xs ys (append_cancel_left before (x ∷ xs) (y ∷ ys) e)

-- two parts of the same lengths
pub parts-same : {X : Type 0} (xs ys zs ws : List X) → length xs ≡ length zs → xs ++ ys ≡ zs ++ ws → (xs ≡ zs) × (ys ≡ ws)
parts-same [] ys [] ws long e = (refl, e)
parts-same [] ys (z ∷ zs) ws long e = absurd (omega (arith, long))
parts-same (x ∷ xs) ys [] ws long e = absurd (omega (arith, long))
parts-same (x ∷ xs) ys (z ∷ zs) ws long e =
    let tails : xs ++ ys ≡ zs ++ ws = cc in
    let heads : x ≡ z = first-same x z (xs ++ ys) (zs ++ ws) e in
    let rest = parts-same xs ys zs ws (omega (arith, long)) tails in
    (cc, rest.1)

-- the part before the rest
pub prefix_is : {X : Type 0} (whole before rest : List X) → whole ≡ before ++ rest → take (length whole - length rest) whole ≡ before
prefix_is whole before rest e =
    let long = ap length e ∙ length-append before rest in
    let here : length whole - length rest ≡ length before = omega (arith, long) in
    rw (here, e) (take-append_seam before rest)

-- the last element, and those before it
pub last-split : {X : Type 0} (xs : List X) (x : X) → 0 < length xs → x ≡ get_or xs (length xs - 1) x → xs ≡ take (length xs - 1) xs ++ x ∷ []
last-split xs x some is =
    sym (take-append-drop (length xs - 1) xs)
    ∙ ap (λ l. take (length xs - 1) xs ++ l) (drop_more xs (length xs - 1) x (omega arith) ∙ ap₂ (λ y l. y ∷ l) (sym is) (drop_all (length xs - 1 + 1) xs (omega arith)))
