-- Lists of terminals.
use Rattle.std.proofs.Common.{◌≡◌, ◌⊎◌, inl, inr, ℕ, Bool, true, false, not, ◌&&◌, ◌||◌, ◌==◌, List, [], ◌∷◌, ◌++◌, refl, sym, ◌∙◌, eqb-true}
use Rattle.std.proofs.lemmas.Bool.{and_parts, and_from, or_left, or_right, not_from_false, not-true}
use Rattle.std.proofs.lemmas.Bool.Decides.{Decides-eqb}
use Rattle.tb_token.specs.grammar.Grammar.{has}
use Rattle.tb_token.specs.grammar.LL1.{all_in, are_apart}

pub none-true : {P : Type 0} (x : Bool) → x ≡ false → x ≡ true → P
none-true x e is = absurd (let d : ◌≡◌ {A = Bool} false true = sym e ∙ is in cc)

pub and-false : (x : Bool) → (x && false) ≡ false
and-false true = refl
and-false false = refl

pub and-three : (x y z : Bool) → (x && y && z) ≡ true → (x ≡ true) × (y ≡ true) × (z ≡ true)
and-three x y z is =
    let last = and_parts (x && y) z is in
    let prefix = and_parts x y last.0 in
    (prefix.0, prefix.1, last.1)

pub and-five : (x y z u w : Bool) → (x && y && z && u && w) ≡ true → (x ≡ true) × (y ≡ true) × (z ≡ true) × (u ≡ true) × (w ≡ true)
and-five x y z u w is =
    let last = and_parts (x && y && z && u) w is in
    let fourth = and_parts (x && y && z) u last.0 in
    let prefix = and-three x y z fourth.0 in
    (prefix.0, prefix.1, prefix.2, fourth.1, last.1)

pub has-first : (x : ℕ) (c : List ℕ) → has (x ∷ c) x ≡ true
has-first x c = or_left (x == x) (has c x) ((Decides-eqb x x).1 refl)

pub has-only : (c x : ℕ) → has (c ∷ []) x ≡ true → x ≡ c
has-only c x is = by (c == x) refl is
  where
    by : (same : Bool) → (c == x) ≡ same → (same || false) ≡ true → x ≡ c
    by true e same = sym (eqb-true c x e)
    by false e same = none-true false refl same

-- all terminals of the first are terminals of the second
abbrev pub Within : List ℕ → List ℕ → Type 0
Within xs ys = (x : ℕ) → has xs x ≡ true → has ys x ≡ true

pub has-left : (xs ys : List ℕ) (x : ℕ) → has xs x ≡ true → has (xs ++ ys) x ≡ true
has-left [] ys x is = none-true false refl is
has-left (c ∷ cs) ys x is = has-left-by (c == x) cs ys x (has-left cs ys x) is
  where
    has-left-by : (here : Bool) (cs ys : List ℕ) (x : ℕ) → (has cs x ≡ true → has (cs ++ ys) x ≡ true) → (here || has cs x) ≡ true → (here || has (cs ++ ys) x) ≡ true
    has-left-by true cs ys x more is = refl
    has-left-by false cs ys x more is = more is

pub has-right : (xs ys : List ℕ) (x : ℕ) → has ys x ≡ true → has (xs ++ ys) x ≡ true
has-right [] ys x is = is
has-right (c ∷ cs) ys x is = or_right (c == x) (has (cs ++ ys) x) (has-right cs ys x is)

pub has-either : (xs ys : List ℕ) (x : ℕ) → has (xs ++ ys) x ≡ true → (has xs x ≡ true) ⊎ (has ys x ≡ true)
has-either [] ys x is = inr is
has-either (c ∷ cs) ys x is = has-either-by (c == x) cs ys x (has-either cs ys x) is
  where
    has-either-by : (here : Bool) (cs ys : List ℕ) (x : ℕ) → (has (cs ++ ys) x ≡ true → (has cs x ≡ true) ⊎ (has ys x ≡ true)) → (here || has (cs ++ ys) x) ≡ true
        → ((here || has cs x) ≡ true) ⊎ (has ys x ≡ true)
    has-either-by true cs ys x more is = inl refl
    has-either-by false cs ys x more is = more is

pub within-append : (xs xs' ys ys' : List ℕ) → Within xs xs' → Within ys ys' → Within (xs ++ ys) (xs' ++ ys')
within-append xs xs' ys ys' one two x is = by (has-either xs ys x is)
  where
    by : (has xs x ≡ true) ⊎ (has ys x ≡ true) → has (xs' ++ ys') x ≡ true
    by (inl here) = has-left xs' ys' x (one x here)
    by (inr there) = has-right xs' ys' x (two x there)

pub within-all_in : (xs ys : List ℕ) → all_in xs ys ≡ true → Within xs ys
within-all_in [] ys all x is = none-true false refl is
within-all_in (c ∷ cs) ys all x is =
    let parts = and_parts (has ys c) (all_in cs ys) all in
    within-by (c == x) refl parts.0 (within-all_in cs ys parts.1 x) is
  where
    within-by : (here : Bool) → (c == x) ≡ here → has ys c ≡ true → (has cs x ≡ true → has ys x ≡ true) → (here || has cs x) ≡ true → has ys x ≡ true
    within-by true e first more is = let same = eqb-true c x e in rw (← same) first
    within-by false e first more is = more is

pub all_in-of : (xs ys : List ℕ) → Within xs ys → all_in xs ys ≡ true
all_in-of [] ys within = refl
all_in-of (c ∷ cs) ys within =
    let here : (c == c) ≡ true = (Decides-eqb c c).1 refl in
    and_from (has ys c) (all_in cs ys) (within c (or_left (c == c) (has cs c) here)) (all_in-of cs ys (λ x is. within x (or_right (c == x) (has cs x) is)))

pub apart-none : (xs ys : List ℕ) (x : ℕ) → are_apart xs ys ≡ true → has xs x ≡ true → has ys x ≡ false
apart-none [] ys x apart is = none-true false refl is
apart-none (c ∷ cs) ys x apart is =
    let parts = and_parts (not (has ys c)) (are_apart cs ys) apart in
    apart-by (c == x) refl (not-true (has ys c) parts.0) (apart-none cs ys x parts.1) is
  where
    apart-by : (here : Bool) → (c == x) ≡ here → has ys c ≡ false → (has cs x ≡ true → has ys x ≡ false) → (here || has cs x) ≡ true → has ys x ≡ false
    apart-by true e first more is = let same = eqb-true c x e in rw (← same) first
    apart-by false e first more is = more is

none-within : (xs ys : List ℕ) (x : ℕ) → Within xs ys → has ys x ≡ false → has xs x ≡ false
none-within xs ys x within none = by (has xs x) refl
  where
    by : (is : Bool) → has xs x ≡ is → is ≡ false
    by true e = none-true (has ys x) none (within x e)
    by false e = refl

pub apart-within : (xs ys zs : List ℕ) → Within ys zs → are_apart xs zs ≡ true → are_apart xs ys ≡ true
apart-within [] ys zs within apart = refl
apart-within (x ∷ xs) ys zs within apart =
    let parts = and_parts (not (has zs x)) (are_apart xs zs) apart in
    let none = none-within ys zs x within (not-true (has zs x) parts.0) in
    and_from (not (has ys x)) (are_apart xs ys) (not_from_false (has ys x) none) (apart-within xs ys zs within parts.1)
