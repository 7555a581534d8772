-- The digits that an integer text keeps are its canonical text, and a canonical text reads back.
use Rattle.std.proofs.Common.{◌≡◌, ℕ, zero, suc, ◌+◌, ◌-◌, ◌*◌, ◌/◌, ◌%◌, ◌<◌, Bool, true, false, ◌==◌, List, [], ◌∷◌, ◌++◌, length, Option, Some, map, ℤ, pos, negsuc, refl, sym, ap, ◌∙◌, arith, append_assoc, append-nil}
use Rattle.std.specs.List.{fold, list_all}
use Rattle.std.specs.Int.Digits.{digits_of, number_from_digits_after, AllBelowBase}
use Rattle.std.proofs.lemmas.List.{map-append, length-map}
use Rattle.std.proofs.lemmas.Bool.{and_from}
use Rattle.std.proofs.lemmas.Bool.Decides.{nat_tests}
use Rattle.std.proofs.lemmas.Int.Digits.{digits_of_step, length-digits_of_step, all_below_base_digits_of, number_digits_of}
use Rattle.tb_number.specs.IntText.{is_digit, with_digit, number_of, signed, StandsFor, none, minus}
use Rattle.tb_number.specs.Reading.{integer_of}
use Rattle.tb_number.specs.Reduced.{is_reduced}
use Rattle.tb_number.specs.Canonical.{decimal_text, canonical_text}
use Rattle.tb_number.proofs.DigitLaws.{IsDigit, digits-parts, reduced-digits, reduced-first, fold-ge}
use Rattle.tb_number.proofs.ReadingLaws.{stands-integer_of}

abbrev digits_text : ℕ → List ℕ
digits_text n = map (λ d. 48 + d) (digits_of 10 n)

-- one digit more
digits_text-with_digit : (n d : ℕ) → IsDigit d → 0 < with_digit n d → digits_text (with_digit n d) ≡ digits_text n ++ d ∷ []
digits_text-with_digit n d digit some =
    let m = with_digit n d in
    let tens : m / 10 ≡ n = omega arith in
    let ones : m % 10 ≡ d - 48 = omega arith in
    let back : 48 + (d - 48) ≡ d = omega arith in
    rw (digits_of_step 10 m (omega arith) some, tens, ones, map-append (λ d. 48 + d) (digits_of 10 n) ((d - 48) ∷ []), back) refl

digits_text-fold : (n : ℕ) (ds : List ℕ) → 0 < n → list_all is_digit ds ≡ true → digits_text (fold with_digit n ds) ≡ digits_text n ++ ds
digits_text-fold n [] some all = sym (append-nil (digits_text n))
digits_text-fold n (d ∷ ds) some all =
    let parts = digits-parts d ds all in
    let m = with_digit n d in
    digits_text-fold m ds (omega arith) parts.1
    ∙ ap (λ t. t ++ ds) (digits_text-with_digit n d parts.0 (omega arith))
    ∙ append_assoc (digits_text n) (d ∷ []) ds

decimal_text-some : (n : ℕ) → 0 < n → decimal_text n ≡ digits_text n
decimal_text-some n some = let e : (n == 0) ≡ false = grind (arith, nat_tests) in rw e refl

-- the digits kept are those of the number
pub decimal_text-number_of : (below : Bool) (d : ℕ) (ds : List ℕ) → is_reduced below (d ∷ ds) ≡ true → decimal_text (number_of (d ∷ ds)) ≡ d ∷ ds
decimal_text-number_of below d ds reduced =
    let first = reduced-first below d ds reduced in
    let parts = digits-parts d ds (reduced-digits below (d ∷ ds) reduced) in
    let m = with_digit 0 d in
    let some : 0 < m = omega arith in
    decimal_text-some (fold with_digit m ds) (omega (arith, fold-ge m ds))
    ∙ digits_text-fold m ds some parts.1
    ∙ ap (λ t. t ++ ds) (digits_text-with_digit 0 d parts.0 some)

-- The digits of a number, read.

fold-digits : (n : ℕ) (ds : List ℕ) → fold with_digit n (map (λ d. 48 + d) ds) ≡ number_from_digits_after 10 n ds
fold-digits n [] = refl
fold-digits n (d ∷ ds) =
    let e : with_digit n (48 + d) ≡ n * 10 + d = omega arith in
    ap (λ m. fold with_digit m (map (λ d. 48 + d) ds)) e ∙ fold-digits (n * 10 + d) ds

all-digits : (ds : List ℕ) → AllBelowBase 10 ds → list_all is_digit (map (λ d. 48 + d) ds) ≡ true
all-digits [] below = refl
all-digits (d ∷ ds) below =
    let low : d < 10 = below.0 in
    and_from (is_digit (48 + d)) (list_all is_digit (map (λ d. 48 + d) ds)) (grind (arith, nat_tests)) (all-digits ds below.1)

record IsDecimal (n : ℕ) : Type 0 where
  some_digit : 0 < length (decimal_text n)
  all_digits : list_all is_digit (decimal_text n) ≡ true
  number_is : number_of (decimal_text n) ≡ n

is-decimal-some : (n : ℕ) → 0 < n → IsDecimal n
is-decimal-some n some = record {
  some_digit = rw (decimal_text-some n some) (omega (arith, length-map {A = ℕ} {B = ℕ}, length-digits_of_step 10 n (omega arith) some));
  all_digits = rw (decimal_text-some n some) (all-digits (digits_of 10 n) (all_below_base_digits_of 10 n (omega arith)));
  number_is = rw (decimal_text-some n some) (fold-digits 0 (digits_of 10 n) ∙ number_digits_of 10 n (omega arith));
}

is-decimal : (n : ℕ) → IsDecimal n
is-decimal zero = record { some_digit = omega arith; all_digits = refl; number_is = refl }
is-decimal (suc n) = is-decimal-some (suc n) (omega arith)

-- The canonical text of a number stands for it.
pub canonical_text-stands : (number : ℤ) → StandsFor (canonical_text number) number
unfolding canonical_text
canonical_text-stands (pos n) =
    let is = is-decimal n in
    record {
      before = [];
      sign = none;
      digits = decimal_text n;
      behind = [];
      whole = sym (append-nil (decimal_text n));
      blank_before = refl;
      some_digit = is.some_digit;
      all_digits = is.all_digits;
      blank_behind = refl;
      number_is = ap pos (sym is.number_is);
    }
canonical_text-stands (negsuc n) =
    let is = is-decimal (n + 1) in
    let more : n + 1 ≡ suc n = omega arith in
    record {
      before = [];
      sign = minus;
      digits = decimal_text (n + 1);
      behind = [];
      whole = ap (λ t. 45 ∷ t) (sym (append-nil (decimal_text (n + 1))));
      blank_before = refl;
      some_digit = is.some_digit;
      all_digits = is.all_digits;
      blank_behind = refl;
      number_is = sym (ap (signed true) (is.number_is ∙ more));
    }

pub integer_of-canonical_text : (number : ℤ) → integer_of (canonical_text number) ≡ Some number
integer_of-canonical_text number = stands-integer_of (canonical_text number) number (canonical_text-stands number)

-- Two numbers with one canonical text are the same.
pub canonical_text-injective : (m n : ℤ) → canonical_text m ≡ canonical_text n → m ≡ n
canonical_text-injective m n e =
    let same : ◌≡◌ {A = Option ℤ} (Some m) (Some n) = sym (integer_of-canonical_text m) ∙ ap integer_of e ∙ integer_of-canonical_text n in cc
