-- An integer text has one reading, which is the number that `integer_of` gives.
use Rattle.std.proofs.Common.{◌≡◌, ℕ, ◌<◌, Bool, true, false, ◌==◌, ◌||◌, ◌&&◌, not, List, [], ◌∷◌, ◌++◌, length, take, drop, Option, Some, None, refl, sym, ap, ◌∙◌, arith, ℤ, take-append-drop, eqb-true, ltb-true}
use Rattle.std.proofs.Math.Seq.{take-append_seam, drop-append_seam}
use Rattle.std.proofs.lemmas.List.Sums.{prefix_len-le-length}
use Rattle.std.specs.Prelude.{nat_lt, option_map}
use Rattle.std.specs.List.{prefix_len, list_all}
use Rattle.std.proofs.lemmas.Bool.{and_parts}
use Rattle.std.proofs.lemmas.Bool.Decides.{nat_tests}
use Rattle.std.proofs.lemmas.Option.{cond_some}
use Rattle.std.proofs.lemmas.List.{length-take-le}
use Rattle.tb_number.specs.IntText.{is_blank, is_digit, number_of, signed, Sign, none, plus, minus, sign_text, is_minus, StandsFor, IsIntText, Reads}
use Rattle.tb_number.specs.Reading.{integer_of, without_blanks, without_sign, begins_with_minus, leading_digits}
use Rattle.tb_number.proofs.Prefixes.{stops, prefix_len-stops, take-prefix_len}

digit-no_blank : (b : ℕ) → is_digit b ≡ true → not (is_blank b) ≡ true
digit-no_blank b is = grind (arith, nat_tests)

blank-no_digit : (b : ℕ) → is_blank b ≡ true → not (is_digit b) ≡ true
blank-no_digit b is = grind (arith, nat_tests)

digit-no_sign : (b : ℕ) → is_digit b ≡ true → (b == 43 || b == 45) ≡ false
digit-no_sign b is = grind (arith, nat_tests)

digit-no_minus : (b : ℕ) → is_digit b ≡ true → (b == 45) ≡ false
digit-no_minus b is = grind (arith, nat_tests)

blanks-stop : (behind : List ℕ) → list_all is_blank behind ≡ true → stops is_digit behind ≡ true
blanks-stop [] all = refl
blanks-stop (b ∷ behind) all = blank-no_digit b (and_parts (is_blank b) (list_all is_blank behind) all).0

-- digits with blanks behind them
leading_digits-whole : (digits behind : List ℕ) → 0 < length digits → list_all is_digit digits ≡ true → list_all is_blank behind ≡ true → leading_digits (digits ++ behind) ≡ Some digits
leading_digits-whole digits behind some all blank =
    let first : nat_lt 0 (length digits) ≡ true = grind (arith, nat_tests) in
    rw (prefix_len-stops is_digit digits behind all (blanks-stop behind blank), drop-append_seam digits behind, blank, first, take-append_seam digits behind) refl

without_blanks-whole : (before text : List ℕ) → list_all is_blank before ≡ true → stops is_blank text ≡ true → without_blanks (before ++ text) ≡ text
without_blanks-whole before text all stop = rw (prefix_len-stops is_blank before text all stop) (drop-append_seam before text)

-- the digits stand behind a sign or none
module _ (d : ℕ) (rest : List ℕ) (digit : is_digit d ≡ true) where
  signed-stops : (sign : Sign) → stops is_blank (sign_text sign ++ d ∷ rest) ≡ true
  signed-stops none = digit-no_blank d digit
  signed-stops plus = refl
  signed-stops minus = refl

  without_sign-whole : (sign : Sign) → without_sign (sign_text sign ++ d ∷ rest) ≡ d ∷ rest
  without_sign-whole none = rw (digit-no_sign d digit) refl
  without_sign-whole plus = refl
  without_sign-whole minus = refl

  begins_with_minus-whole : (sign : Sign) → begins_with_minus (sign_text sign ++ d ∷ rest) ≡ is_minus sign
  begins_with_minus-whole none = digit-no_minus d digit
  begins_with_minus-whole plus = refl
  begins_with_minus-whole minus = refl

-- the number of digits that were found
abbrev pub with_sign : Bool → Option (List ℕ) → Option ℤ
with_sign sign digits = option_map (λ ds. signed sign (number_of ds)) digits

abbrev pub of_text : List ℕ → Option ℤ
of_text text = with_sign (begins_with_minus text) (leading_digits (without_sign text))

pub integer_of-text : (bytes : List ℕ) → integer_of bytes ≡ of_text (without_blanks bytes)
unfolding integer_of
integer_of-text bytes = refl

integer_of-parts : (before : List ℕ) (sign : Sign) (digits behind : List ℕ) → list_all is_blank before ≡ true → 0 < length digits → list_all is_digit digits ≡ true → list_all is_blank behind ≡ true
    → integer_of (before ++ (sign_text sign ++ (digits ++ behind))) ≡ Some (signed (is_minus sign) (number_of digits))
integer_of-parts before sign [] behind blank some all blanks = absurd (omega arith)
integer_of-parts before sign (d ∷ ds) behind blank some all blanks =
    let digit = (and_parts (is_digit d) (list_all is_digit ds) all).0 in
    let rest = ds ++ behind in
    let text = sign_text sign ++ d ∷ rest in
    integer_of-text (before ++ text)
    ∙ ap of_text (without_blanks-whole before text blank (signed-stops d rest digit sign))
    ∙ ap (λ r. with_sign (begins_with_minus text) (leading_digits r)) (without_sign-whole d rest digit sign)
    ∙ ap (λ m. with_sign m (leading_digits (d ∷ rest))) (begins_with_minus-whole d rest digit sign)
    ∙ ap (with_sign (is_minus sign)) (leading_digits-whole (d ∷ ds) behind some all blanks)

-- The number that bytes stand for is the one that `integer_of` gives.
pub stands-integer_of : (bytes : List ℕ) (number : ℤ) → StandsFor bytes number → integer_of bytes ≡ Some number
stands-integer_of bytes number s =
    ap integer_of s.whole ∙ integer_of-parts s.before s.sign s.digits s.behind s.blank_before s.some_digit s.all_digits s.blank_behind ∙ ap Some (sym s.number_is)

-- What `integer_of` gives, the bytes stand for.

mapped : {A B : Type 0} (f : A → B) (o : Option A) (y : B) → option_map f o ≡ Some y → (x : A) × (o ≡ Some x) × (f x ≡ y)
mapped f None y e = absurd (let d : ◌≡◌ {A = Option _} None (Some y) = e in cc)
mapped f (Some x) y e = (x, refl, let d : ◌≡◌ {A = Option _} (Some (f x)) (Some y) = e in cc)

pub record PrefixParts (bytes digits : List ℕ) : Type 0 where
  pub behind : List ℕ
  pub whole : bytes ≡ digits ++ behind
  pub some_digit : 0 < length digits
  pub all_digits : list_all is_digit digits ≡ true
  pub blank_behind : list_all is_blank behind ≡ true

pub prefix-parts : (bytes digits : List ℕ) → leading_digits bytes ≡ Some digits → PrefixParts bytes digits
prefix-parts bytes digits e =
    let len = prefix_len is_digit bytes in
    let found = cond_some (nat_lt 0 len && list_all is_blank (drop len bytes)) (take len bytes) digits e in
    let parts = and_parts (nat_lt 0 len) (list_all is_blank (drop len bytes)) found.0 in
    let same : take len bytes ≡ digits = found.1 in
    let within = prefix_len-le-length is_digit bytes in
    let some : 0 < length (take len bytes) = rw (length-take-le len bytes within) (ltb-true 0 len parts.0) in
    record {
      behind = drop len bytes;
      whole = sym (take-append-drop len bytes) ∙ ap (λ ds. ds ++ drop len bytes) same;
      some_digit = rw same at some;
      all_digits = rw same at (take-prefix_len is_digit bytes);
      blank_behind = parts.1;
    }

record SignParts (text : List ℕ) : Type 0 where
  sign : Sign
  whole : text ≡ sign_text sign ++ without_sign text
  is : begins_with_minus text ≡ is_minus sign

sign-by : (is_plus is_minus : Bool) (b : ℕ) (bs : List ℕ) → (b == 43) ≡ is_plus → (b == 45) ≡ is_minus → SignParts (b ∷ bs)
sign-by true m b bs p q =
    let here = eqb-true b 43 p in
    record { sign = plus; whole = rw (p, here) refl; is = rw here refl }
sign-by false true b bs p q =
    let here = eqb-true b 45 q in
    record { sign = minus; whole = rw (p, q, here) refl; is = q }
sign-by false false b bs p q = record { sign = none; whole = rw (p, q) refl; is = q }

sign-parts : (text : List ℕ) → SignParts text
sign-parts [] = record { sign = none; whole = refl; is = refl }
sign-parts (b ∷ bs) = sign-by (b == 43) (b == 45) b bs refl refl

pub integer_of-stands : (bytes : List ℕ) (number : ℤ) → integer_of bytes ≡ Some number → StandsFor bytes number
integer_of-stands bytes number e =
    let text = without_blanks bytes in
    let found = mapped (λ ds. signed (begins_with_minus text) (number_of ds)) (leading_digits (without_sign text)) number (sym (integer_of-text bytes) ∙ e) in
    let prefix = prefix-parts (without_sign text) found.0 found.1 in
    let signs = sign-parts text in
    let len = prefix_len is_blank bytes in
    record {
      before = take len bytes;
      sign = signs.sign;
      digits = found.0;
      behind = prefix.behind;
      whole = sym (take-append-drop len bytes) ∙ ap (λ t. take len bytes ++ t) (signs.whole ∙ ap (λ r. sign_text signs.sign ++ r) prefix.whole);
      blank_before = take-prefix_len is_blank bytes;
      some_digit = prefix.some_digit;
      all_digits = prefix.all_digits;
      blank_behind = prefix.blank_behind;
      number_is = sym found.2 ∙ ap (λ m. signed m (number_of found.0)) signs.is;
    }

-- An integer text has one number.
pub stands-unique : (bytes : List ℕ) (m n : ℤ) → StandsFor bytes m → StandsFor bytes n → m ≡ n
stands-unique bytes m n first second =
    let same : ◌≡◌ {A = Option ℤ} (Some m) (Some n) = sym (stands-integer_of bytes m first) ∙ stands-integer_of bytes n second in cc

none-reads : (bytes : List ℕ) → integer_of bytes ≡ None → ¬ IsIntText bytes
none-reads bytes e text = absurd (let d : ◌≡◌ {A = Option ℤ} None (Some text.0) = sym e ∙ stands-integer_of bytes text.0 text.1 in cc)

reads-by : (bytes : List ℕ) (number : Option ℤ) → integer_of bytes ≡ number → Reads bytes number
reads-by bytes None e = none-reads bytes e
reads-by bytes (Some number) e = integer_of-stands bytes number e

-- `integer_of` reads.
pub reads-integer_of : (bytes : List ℕ) (number : Option ℤ) → number ≡ integer_of bytes → Reads bytes number
reads-integer_of bytes number e = reads-by bytes number (sym e)
