-- What functions give of the elements of lists.
use Rattle.std.proofs.Common.{◌≡◌, Bool, true, false, cond, List, [], ◌∷◌, ◌++◌, All, map, filter, flat_map, length, Option, Some, refl, sym, ap, ap₂, ◌∙◌, arith}
use Rattle.std.proofs.lemmas.List.{map-append}
use Rattle.std.proofs.lemmas.List.Elements.{All-nil, All-cons, All-head, All-tail, All-append}

-- two functions that agree
pub map-alike : {X Y : Type 0} (f g : X → Y) → ((x : X) → f x ≡ g x) → (xs : List X) → map f xs ≡ map g xs
map-alike f g alike [] = refl
map-alike f g alike (x ∷ xs) = ap₂ (λ y ys. y ∷ ys) (alike x) (map-alike f g alike xs)

-- two functions that agree on the list
pub map_same : {X Y : Type 0} (f g : X → Y) (xs : List X) → All (λ x. f x ≡ g x) xs → map f xs ≡ map g xs
map_same f g [] h = refl
map_same f g (x ∷ xs) h = ap₂ (λ y ys. y ∷ ys) (All-head (λ y. f y ≡ g y) x xs h) (map_same f g xs (All-tail (λ y. f y ≡ g y) x xs h))

pub All-unmap : {X Y : Type 0} (P : Y → Type 0) (f : X → Y) (xs : List X) → All P (map f xs) → All (λ x. P (f x)) xs
All-unmap P f [] h = All-nil (λ x. P (f x))
All-unmap P f (x ∷ xs) h = All-cons (λ y. P (f y)) x xs (All-head P (f x) (map f xs) h) (All-unmap P f xs (All-tail P (f x) (map f xs) h))

pub All-flat_map : {X Y : Type 0} (P : Y → Type 0) (f : X → List Y) (xs : List X) → All (λ x. All P (f x)) xs → All P (flat_map f xs)
All-flat_map P f [] h = All-nil P
All-flat_map P f (x ∷ xs) h =
    All-append P (f x) (flat_map f xs) (All-head (λ y. All P (f y)) x xs h) (All-flat_map P f xs (All-tail (λ y. All P (f y)) x xs h))

-- two functions that agree on the list
pub flat_map_same : {X Y : Type 0} (f g : X → List Y) (xs : List X) → All (λ x. f x ≡ g x) xs → flat_map f xs ≡ flat_map g xs
flat_map_same f g [] h = refl
flat_map_same f g (x ∷ xs) h = ap₂ (λ a b. a ++ b) (All-head (λ y. f y ≡ g y) x xs h) (flat_map_same f g xs (All-tail (λ y. f y ≡ g y) x xs h))

pub flat_map_none : {X Y : Type 0} (f : X → List Y) (xs : List X) → All (λ x. f x ≡ []) xs → flat_map f xs ≡ []
flat_map_none f [] h = refl
flat_map_none f (x ∷ xs) h = ap₂ (λ ys zs. ys ++ zs) (All-head (λ y. f y ≡ []) x xs h) (flat_map_none f xs (All-tail (λ y. f y ≡ []) x xs h))

-- a filter that leaves out what gives nothing
pub flat_map-filter : {X Y : Type 0} (f : X → List Y) (test : X → Bool) (xs : List X) → All (λ x. test x ≡ false → f x ≡ []) xs → flat_map f (filter test xs) ≡ flat_map f xs
flat_map-filter f test [] h = refl
flat_map-filter f test (x ∷ xs) h = at (test x) refl (flat_map-filter f test xs (All-tail (λ y. test y ≡ false → f y ≡ []) x xs h))
  where
    at : (b : Bool) → test x ≡ b → flat_map f (filter test xs) ≡ flat_map f xs → flat_map f (cond b (x ∷ filter test xs) (filter test xs)) ≡ f x ++ flat_map f xs
    at true e rest = ap (λ ys. f x ++ ys) rest
    at false e rest = rest ∙ ap (λ ys. ys ++ flat_map f xs) (sym (All-head (λ y. test y ≡ false → f y ≡ []) x xs h e))

pub map-flat_map : {X Y Z : Type 0} (g : Y → Z) (f : X → List Y) (xs : List X) → map g (flat_map f xs) ≡ flat_map (λ x. map g (f x)) xs
map-flat_map g f [] = refl
map-flat_map g f (x ∷ xs) = map-append g (f x) (flat_map f xs) ∙ ap (λ ys. map g (f x) ++ ys) (map-flat_map g f xs)

-- the same list once for each element depends on how many there are
pub flat_map-fixed : {X Y Z : Type 0} (t : List Z) (xs : List X) (ys : List Y) → length xs ≡ length ys → flat_map (λ x. t) xs ≡ flat_map (λ y. t) ys
flat_map-fixed t [] [] e = refl
flat_map-fixed t [] (y ∷ ys) e = absurd (omega (arith, e))
flat_map-fixed t (x ∷ xs) [] e = absurd (omega (arith, e))
flat_map-fixed t (x ∷ xs) (y ∷ ys) e = ap (λ r. t ++ r) (flat_map-fixed t xs ys (omega (arith, e)))

-- a list is told by its elements
pub somes-same : {X : Type 0} (xs ys : List X) → map (λ x. Some x) xs ≡ map (λ y. Some y) ys → xs ≡ ys
somes-same [] [] e = refl
somes-same [] (y ∷ ys) e = absurd (let d : ◌≡◌ {A = List (Option _)} [] (Some y ∷ map (λ z. Some z) ys) = e in cc)
somes-same (x ∷ xs) [] e = absurd (let d : ◌≡◌ {A = List (Option _)} (Some x ∷ map (λ z. Some z) xs) [] = e in cc)
somes-same (x ∷ xs) (y ∷ ys) e =
    let d : ◌≡◌ {A = List (Option _)} (Some x ∷ map (λ z. Some z) xs) (Some y ∷ map (λ z. Some z) ys) = e in
    let first : x ≡ y = cc in
    let rest : map (λ z. Some z) xs ≡ map (λ z. Some z) ys = cc in
    ap₂ (λ z zs. z ∷ zs) first (somes-same xs ys rest)
