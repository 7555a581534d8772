-- Which lists have an element, and what an edge offers where there is none.
use Rattle.std.proofs.Common.{◌≡◌, Bool, true, false, cond, ◌&&◌, ◌||◌, List, [], ◌∷◌, ◌++◌, map, filter, flat_map, refl, sym, ap, ap₂, ◌∙◌}
use Rattle.std.specs.List.{AllByRecursion, list_any}
use Rattle.std.proofs.lemmas.Bool.{false≢true, or_cases, or_left, or_right}
use Rattle.std.proofs.Common.{◌⊎◌, inl, inr}
use Rattle.tb_pattern.specs.Witness.{Witness, offered}
use Rattle.tb_twig.specs.Narrowed.{is_met}
use Rattle.tb_pattern.specs.declared.pattern.Mark.{Mark}
use Rattle.tb_pattern.specs.declared.pattern.Mark.TheVariants.{One, Optional, Some, Any}

-- the list has an element
abbrev pub has : {X : Type 0} → List X → Bool
has [] = false
has (x ∷ xs) = true

pub has-append : {X : Type 0} (xs ys : List X) → has (xs ++ ys) ≡ (has xs || has ys)
has-append [] ys = refl
has-append (x ∷ xs) ys = refl

pub has-map : {X Y : Type 0} (f : X → Y) (xs : List X) → has (map f xs) ≡ has xs
has-map f [] = refl
has-map f (x ∷ xs) = refl

pub has-none : {X : Type 0} (xs : List X) → has xs ≡ false → xs ≡ []
has-none [] e = refl
has-none (x ∷ xs) e = absurd (false≢true (sym e))

pub has-flat_map : {X Y : Type 0} (f : X → List Y) (xs : List X) → has (flat_map f xs) ≡ list_any (λ x. has (f x)) xs
has-flat_map f [] = refl
has-flat_map f (x ∷ xs) = has-append (f x) (flat_map f xs) ∙ ap (λ b. has (f x) || b) (has-flat_map f xs)

and-false : (b : Bool) → false ≡ (b && false)
and-false true = refl
and-false false = refl

one_product : (a b : Bool) → (a || (a && b)) ≡ (a && true)
one_product true b = refl
one_product false b = refl

-- a choice from each of two lists
pub has-product : {X Y Z : Type 0} (f : X → Y → Z) (xs : List X) (ys : List Y) → has (flat_map (λ x. map (f x) ys) xs) ≡ (has ys && has xs)
has-product f [] ys = and-false (has ys)
has-product f (x ∷ xs) ys =
    has-append (map (f x) ys) (flat_map (λ z. map (f z) ys) xs)
    ∙ ap₂ (λ a b. a || b) (has-map (f x) ys) (has-product f xs ys)
    ∙ one_product (has ys) (has xs)

pub has-offered : (mark : Mark) (ws : List Witness) → has (offered mark ws) ≡ is_met mark (has ws)
has-offered One [] = refl
has-offered One (w ∷ ws) = refl
has-offered Optional [] = refl
has-offered Optional (w ∷ ws) = refl
has-offered Some [] = refl
has-offered Some (w ∷ ws) = refl
has-offered Any [] = refl
has-offered Any (w ∷ ws) = refl

pub met-more : (mark : Mark) (a b : Bool) → (a ≡ true → b ≡ true) → is_met mark a ≡ true → is_met mark b ≡ true
met-more One a b more e = more e
met-more Optional a b more e = refl
met-more Some a b more e = more e
met-more Any a b more e = refl

one-filtered : {X : Type 0} (p : X → Bool) (x : X) (xs : List X) (kept others : Bool) (rest : List X) → list_any p rest ≡ others → list_any p (cond kept (x ∷ rest) rest) ≡ ((kept && p x) || others)
one-filtered p x xs true others rest e = ap (λ b. p x || b) e
one-filtered p x xs false others rest e = e

pub any-filter : {X : Type 0} (p q : X → Bool) (xs : List X) → list_any p (filter q xs) ≡ list_any (λ x. q x && p x) xs
any-filter p q [] = refl
any-filter p q (x ∷ xs) = one-filtered p x xs (q x) (list_any (λ y. q y && p y) xs) (filter q xs) (any-filter p q xs)

pub any-map : {X Y : Type 0} (p : Y → Bool) (f : X → Y) (xs : List X) → list_any p (map f xs) ≡ list_any (λ x. p (f x)) xs
any-map p f [] = refl
any-map p f (x ∷ xs) = ap (λ b. p (f x) || b) (any-map p f xs)

pub any-same : {X : Type 0} (p q : X → Bool) (xs : List X) → AllByRecursion (λ x. p x ≡ q x) xs → list_any p xs ≡ list_any q xs
any-same p q [] same = refl
any-same p q (x ∷ xs) same = ap₂ (λ a b. a || b) same.0 (any-same p q xs same.1)

pub any-more : {X : Type 0} (p q : X → Bool) (xs : List X) → AllByRecursion (λ x. p x ≡ true → q x ≡ true) xs → list_any p xs ≡ true → list_any q xs ≡ true
any-more p q [] more e = e
any-more p q (x ∷ xs) more e = at (or_cases (p x) (list_any p xs) e) (λ f. any-more p q xs more.1 f)
  where
    at : (p x ≡ true) ⊎ (list_any p xs ≡ true) → (list_any p xs ≡ true → list_any q xs ≡ true) → (q x || list_any q xs) ≡ true
    at (inl f) rest = or_left (q x) (list_any q xs) (more.0 f)
    at (inr f) rest = or_right (q x) (list_any q xs) (rest f)
