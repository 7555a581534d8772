-- Digits with a sign: what is kept of them, how they are compared, and their text.
use Rattle.std.proofs.Common.{◌≡◌, ℕ, zero, suc, ◌+◌, ◌<◌, Bool, true, false, ◌==◌, List, [], ◌∷◌, length, ℤ, pos, neg_ℤ, refl, sym, ap, ◌∙◌, arith, Less, Greater, Ordering}
use Rattle.std.specs.Ordering.{nat_cmp, int_cmp}
use Rattle.std.proofs.lemmas.Bool.Decides.{nat_tests}
use Rattle.tb_number.specs.IntText.{with_digit, number_of, signed}
use Rattle.tb_number.specs.Reduced.{is_reduced, without_zeros, keeps_minus, digits_cmp}
use Rattle.tb_number.specs.Canonical.{decimal_text, canonical_text}
use Rattle.tb_number.proofs.DigitLaws.{fold-ge, reduced-first, number_of-without_zeros, digits_cmp-number_of}
use Rattle.tb_number.proofs.CanonicalLaws.{decimal_text-number_of}

some-digit : (d : ℕ) (ds : List ℕ) → (length (d ∷ ds) == 0) ≡ false
some-digit d ds = grind (arith, nat_tests)

-- a minus that is not kept stood before zero
signed-kept : (sign : Bool) (ds : List ℕ) → signed (keeps_minus sign ds) (number_of ds) ≡ signed sign (number_of ds)
signed-kept true [] = refl
signed-kept false [] = refl
signed-kept true (d ∷ ds) = rw (some-digit d ds) refl
signed-kept false (d ∷ ds) = refl

-- leading zeros and a minus before zero do not count
pub signed-without_zeros : (sign : Bool) (ds : List ℕ) → signed (keeps_minus sign (without_zeros ds)) (number_of (without_zeros ds)) ≡ signed sign (number_of ds)
signed-without_zeros sign ds = signed-kept sign (without_zeros ds) ∙ ap (signed sign) (number_of-without_zeros ds)

-- digits with a minus are above 0
pub number_of-positive : (ds : List ℕ) → is_reduced true ds ≡ true → 0 < number_of ds
number_of-positive [] reduced = absurd (let d : ◌≡◌ {A = Bool} false true = reduced in cc)
number_of-positive (d ∷ ds) reduced = omega (arith, reduced-first true d ds reduced, fold-ge (with_digit 0 d) ds)

int_cmp-pos : (m n : ℕ) → nat_cmp m n ≡ int_cmp (pos m) (pos n)
int_cmp-pos m n = grind (arith, nat_tests)

int_cmp-neg : (m n : ℕ) → nat_cmp n m ≡ int_cmp (neg_ℤ (pos m)) (neg_ℤ (pos n))
int_cmp-neg zero zero = refl
int_cmp-neg zero (suc n) = grind (arith, nat_tests)
int_cmp-neg (suc m) zero = grind (arith, nat_tests)
int_cmp-neg (suc m) (suc n) = grind (arith, nat_tests)

int_cmp-above : (m n : ℕ) → 0 < n → Greater ≡ int_cmp (pos m) (neg_ℤ (pos n))
int_cmp-above m zero some = absurd (omega arith)
int_cmp-above m (suc n) some = refl

int_cmp-below : (m n : ℕ) → 0 < m → Less ≡ int_cmp (neg_ℤ (pos m)) (pos n)
int_cmp-below zero n some = absurd (omega arith)
int_cmp-below (suc m) n some = refl

-- the order of two signed lists of digits
abbrev pub signed_digits_cmp : Bool → Bool → List ℕ → List ℕ → Ordering
signed_digits_cmp false false xs ys = digits_cmp xs ys
signed_digits_cmp true true xs ys = digits_cmp ys xs
signed_digits_cmp false true xs ys = Greater
signed_digits_cmp true false xs ys = Less

int_cmp-signed : (a b : Bool) (xs ys : List ℕ) → is_reduced a xs ≡ true → is_reduced b ys ≡ true
    → signed_digits_cmp a b xs ys ≡ int_cmp (signed a (number_of xs)) (signed b (number_of ys))
int_cmp-signed false false xs ys p q = digits_cmp-number_of false false xs ys p q ∙ int_cmp-pos (number_of xs) (number_of ys)
int_cmp-signed true true xs ys p q = digits_cmp-number_of true true ys xs q p ∙ int_cmp-neg (number_of xs) (number_of ys)
int_cmp-signed false true xs ys p q = int_cmp-above (number_of xs) (number_of ys) (number_of-positive ys q)
int_cmp-signed true false xs ys p q = int_cmp-below (number_of xs) (number_of ys) (number_of-positive xs p)

-- the order of two numbers that are kept so, with these signs
pub signed_digits_cmp-is : (p q a b : Bool) (xs ys : List ℕ) (y z : ℤ) → a ≡ p → b ≡ q → is_reduced a xs ≡ true → is_reduced b ys ≡ true
    → signed a (number_of xs) ≡ y → signed b (number_of ys) ≡ z → signed_digits_cmp p q xs ys ≡ int_cmp y z
signed_digits_cmp-is p q a b xs ys y z first second left right m n =
    ap (λ t. signed_digits_cmp t q xs ys) (sym first) ∙ ap (λ t. signed_digits_cmp a t xs ys) (sym second)
    ∙ int_cmp-signed a b xs ys left right ∙ ap (λ t. int_cmp t (signed b (number_of ys))) m ∙ ap (int_cmp y) n

canonical_text-negative : (n : ℕ) → 0 < n → canonical_text (neg_ℤ (pos n)) ≡ 45 ∷ decimal_text n
unfolding canonical_text
canonical_text-negative zero some = absurd (omega arith)
canonical_text-negative (suc n) some = let more : n + 1 ≡ suc n = omega arith in rw more refl

canonical_text-positive : (n : ℕ) → canonical_text (pos n) ≡ decimal_text n
unfolding canonical_text
canonical_text-positive n = refl

-- no digits are zero
pub canonical_text-zero : (a : Bool) (ds : List ℕ) (z : ℤ) → (length ds == 0) ≡ true → is_reduced a ds ≡ true → signed a (number_of ds) ≡ z → canonical_text z ≡ 48 ∷ []
unfolding canonical_text
canonical_text-zero true [] z none p is = absurd (let d : ◌≡◌ {A = Bool} false true = p in cc)
canonical_text-zero false [] z none p is = ap canonical_text (sym is)
canonical_text-zero a (d ∷ ds) z none p is = absurd (let e : ◌≡◌ {A = Bool} false true = sym (some-digit d ds) ∙ none in cc)

-- digits without a minus are the text
pub canonical_text-digits : (a : Bool) (ds : List ℕ) (z : ℤ) → (length ds == 0) ≡ false → a ≡ false → is_reduced a ds ≡ true → signed a (number_of ds) ≡ z → canonical_text z ≡ ds
canonical_text-digits a [] z some plain p is = absurd (let e : ◌≡◌ {A = Bool} true false = some in cc)
canonical_text-digits true (d ∷ ds) z some plain p is = absurd (let e : ◌≡◌ {A = Bool} true false = plain in cc)
canonical_text-digits false (d ∷ ds) z some plain p is =
    ap canonical_text (sym is) ∙ canonical_text-positive (number_of (d ∷ ds)) ∙ decimal_text-number_of false d ds p

-- and with one they stand behind `-`
pub canonical_text-minus : (a : Bool) (ds : List ℕ) (z : ℤ) → a ≡ true → is_reduced a ds ≡ true → signed a (number_of ds) ≡ z → canonical_text z ≡ 45 ∷ ds
canonical_text-minus false ds z below p is = absurd (let e : ◌≡◌ {A = Bool} false true = below in cc)
canonical_text-minus true [] z below p is = absurd (let e : ◌≡◌ {A = Bool} false true = p in cc)
canonical_text-minus true (d ∷ ds) z below p is =
    ap canonical_text (sym is) ∙ canonical_text-negative (number_of (d ∷ ds)) (number_of-positive (d ∷ ds) p)
    ∙ ap (λ t. 45 ∷ t) (decimal_text-number_of true d ds p)
