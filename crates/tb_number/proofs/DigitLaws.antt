-- Digits without leading zeros are ordered as their numbers: a shorter list first, and lists of one length by bytes.
use Rattle.std.proofs.Common.{◌≡◌, ℕ, zero, suc, ◌+◌, ◌≤◌, ◌<◌, Bool, true, false, cond, ◌==◌, not, List, [], ◌∷◌, length, drop, refl, sym, ap, ◌∙◌, arith, eqb-true, Less, Equal, Greater, Ordering}
use Rattle.std.specs.Ordering.{nat_cmp, ordering_then}
use Rattle.std.specs.Cmp.{nat_cmp_is}
use Rattle.std.specs.Cmp.Lexicographic.{slice_cmp}
use Rattle.std.specs.List.{fold, prefix_len, list_all}
use Rattle.std.proofs.lemmas.Cmp.{ranked, by_ranked}
use Rattle.std.proofs.lemmas.Bool.{and_parts, and_from}
use Rattle.std.proofs.lemmas.Bool.Decides.{nat_tests}
use Rattle.tb_number.specs.IntText.{is_digit, with_digit, number_of}
use Rattle.tb_number.specs.Reduced.{is_zero, is_reduced, without_zeros, keeps_minus, digits_cmp}
use Rattle.tb_number.proofs.Prefixes.{stops, drop-prefix_len}

-- a digit is from 48 to 57
pub record IsDigit (b : ℕ) : Type 0 where
  pub low : 48 ≤ b
  pub high : b ≤ 57

pub is_digit-bounds : (b : ℕ) → is_digit b ≡ true → IsDigit b
is_digit-bounds b is = record { low = grind (arith, nat_tests); high = grind (arith, nat_tests) }

pub digits-parts : (d : ℕ) (ds : List ℕ) → list_all is_digit (d ∷ ds) ≡ true → IsDigit d × (list_all is_digit ds ≡ true)
digits-parts d ds all = let parts = and_parts (is_digit d) (list_all is_digit ds) all in (is_digit-bounds d parts.0, parts.1)

ordering_then-Equal : (o : Ordering) → ordering_then o Equal ≡ o
ordering_then-Equal Less = refl
ordering_then-Equal Equal = refl
ordering_then-Equal Greater = refl

ordering_then-assoc : (o p q : Ordering) → ordering_then (ordering_then o p) q ≡ ordering_then o (ordering_then p q)
ordering_then-assoc Less p q = refl
ordering_then-assoc Equal p q = refl
ordering_then-assoc Greater p q = refl

nat_cmp-with_digit : (m n x y : ℕ) → IsDigit x → IsDigit y → nat_cmp (with_digit m x) (with_digit n y) ≡ ordering_then (nat_cmp m n) (nat_cmp x y)
nat_cmp-with_digit m n x y p q = grind (arith, nat_tests)

-- two lists of one length: first by what stands before them, then by bytes
nat_cmp-fold : (m n : ℕ) (xs ys : List ℕ) → length xs ≡ length ys → list_all is_digit xs ≡ true → list_all is_digit ys ≡ true
    → nat_cmp (fold with_digit m xs) (fold with_digit n ys) ≡ ordering_then (nat_cmp m n) (slice_cmp nat_cmp xs ys)
nat_cmp-fold m n [] [] same p q = sym (ordering_then-Equal (nat_cmp m n))
nat_cmp-fold m n [] (y ∷ ys) same p q = absurd (omega arith)
nat_cmp-fold m n (x ∷ xs) [] same p q = absurd (omega arith)
nat_cmp-fold m n (x ∷ xs) (y ∷ ys) same p q =
    let first = digits-parts x xs p in
    let second = digits-parts y ys q in
    nat_cmp-fold (with_digit m x) (with_digit n y) xs ys (omega arith) first.1 second.1
    ∙ ap (λ o. ordering_then o (slice_cmp nat_cmp xs ys)) (nat_cmp-with_digit m n x y first.0 second.0)
    ∙ ordering_then-assoc (nat_cmp m n) (nat_cmp x y) (slice_cmp nat_cmp xs ys)

-- digits behind a number make it no smaller
pub fold-ge : (n : ℕ) (ds : List ℕ) → n ≤ fold with_digit n ds
fold-ge n [] = omega arith
fold-ge n (d ∷ ds) = omega (arith, fold-ge (with_digit n d) ds)

-- what is smaller before no more digits stays smaller
fold-less : (m n : ℕ) (xs ys : List ℕ) → m < n → length xs ≤ length ys → list_all is_digit xs ≡ true → fold with_digit m xs < fold with_digit n ys
fold-less m n [] ys less short all = omega (arith, fold-ge n ys)
fold-less m n (x ∷ xs) [] less short all = absurd (omega arith)
fold-less m n (x ∷ xs) (y ∷ ys) less short all =
    let parts = digits-parts x xs all in
    fold-less (with_digit m x) (with_digit n y) xs ys (omega arith) (omega arith) parts.1

pub reduced-digits : (minus : Bool) (ds : List ℕ) → is_reduced minus ds ≡ true → list_all is_digit ds ≡ true
reduced-digits minus [] reduced = refl
reduced-digits minus (d ∷ ds) reduced = (and_parts (not (is_zero d)) (list_all is_digit (d ∷ ds)) reduced).1

-- the first digit is above 0
pub reduced-first : (minus : Bool) (d : ℕ) (ds : List ℕ) → is_reduced minus (d ∷ ds) ≡ true → 48 < d
reduced-first minus d ds reduced =
    let parts = and_parts (not (is_zero d)) (list_all is_digit (d ∷ ds)) reduced in
    let digit = (digits-parts d ds parts.1).0 in
    let other : not (d == 48) ≡ true = parts.0 in
    grind (arith, nat_tests)

number_of-shorter : (a b : Bool) (xs ys : List ℕ) → is_reduced a xs ≡ true → is_reduced b ys ≡ true → length xs < length ys → number_of xs < number_of ys
number_of-shorter a b xs [] p q less = absurd (omega arith)
number_of-shorter a b xs (y ∷ ys) p q less =
    let first = reduced-first b y ys q in
    fold-less 0 (with_digit 0 y) xs ys (omega arith) (omega arith) (reduced-digits a xs p)

pub digits_cmp-number_of : (a b : Bool) (xs ys : List ℕ) → is_reduced a xs ≡ true → is_reduced b ys ≡ true → digits_cmp xs ys ≡ nat_cmp (number_of xs) (number_of ys)
digits_cmp-number_of a b xs ys p q =
    let order = nat_cmp (length xs) (length ys) in
    by_ranked (length xs < length ys) (length xs ≡ length ys) (length ys < length xs) order (ranked (length xs) (length ys) order refl)
    (λ is less. rw is (nat_cmp_is (number_of xs) (number_of ys) Less (number_of-shorter a b xs ys p q less)))
    (λ is same. rw is (sym (nat_cmp-fold 0 0 xs ys same (reduced-digits a xs p) (reduced-digits b ys q))))
    (λ is more. rw is (nat_cmp_is (number_of xs) (number_of ys) Greater (number_of-shorter b a ys xs q p more)))

-- Leading zeros do not count.

zero-dropped : (b : ℕ) (ds : List ℕ) (zero : Bool) → is_zero b ≡ zero → number_of (without_zeros ds) ≡ number_of ds
    → number_of (drop (cond zero (1 + prefix_len is_zero ds) 0) (b ∷ ds)) ≡ number_of (b ∷ ds)
zero-dropped b ds true is rest =
    let here = eqb-true b 48 is in
    let more : 1 + prefix_len is_zero ds ≡ suc (prefix_len is_zero ds) = omega arith in
    rw (more, here) rest
zero-dropped b ds false is rest = refl

pub number_of-without_zeros : (ds : List ℕ) → number_of (without_zeros ds) ≡ number_of ds
number_of-without_zeros [] = refl
number_of-without_zeros (b ∷ ds) = zero-dropped b ds (is_zero b) refl (number_of-without_zeros ds)

list_all-drop : (test : ℕ → Bool) (n : ℕ) (xs : List ℕ) → list_all test xs ≡ true → list_all test (drop n xs) ≡ true
list_all-drop test zero xs all = all
list_all-drop test (suc n) [] all = refl
list_all-drop test (suc n) (x ∷ xs) all = list_all-drop test n xs (and_parts (test x) (list_all test xs) all).1

reduced-kept : (minus : Bool) (ds : List ℕ) → stops is_zero ds ≡ true → list_all is_digit ds ≡ true → is_reduced (keeps_minus minus ds) ds ≡ true
reduced-kept true [] stop all = refl
reduced-kept false [] stop all = refl
reduced-kept minus (d ∷ ds) stop all = and_from (not (is_zero d)) (list_all is_digit (d ∷ ds)) stop all

pub reduced-without_zeros : (minus : Bool) (ds : List ℕ) → list_all is_digit ds ≡ true → is_reduced (keeps_minus minus (without_zeros ds)) (without_zeros ds) ≡ true
reduced-without_zeros minus ds all =
    reduced-kept minus (without_zeros ds) (drop-prefix_len is_zero ds) (list_all-drop is_digit (prefix_len is_zero ds) ds all)
