-- The number of a literal: what its sign and its digits stand for.
use Rattle.std.proofs.Common.{◌≡◌, ℕ, ◌<◌, Bool, true, false, List, [], ◌∷◌, length, refl, sym, ap, arith, append-nil}
use Rattle.std.proofs.lemmas.Bool.{and_parts}
use Rattle.std.specs.Prelude.{nat_lt}
use Rattle.std.specs.List.{list_all}
use Rattle.std.specs.Option.{option_and_then}
use Rattle.tb_number.specs.IntText.{is_digit, number_of, signed, none, minus, StandsFor}
use Rattle.tb_number.specs.Range.{within_range}
use Rattle.tb_number.proofs.ReadingLaws.{stands-integer_of}
use Rattle.tb_token.specs.tokens.Kinds.{is_number}
use Rattle.tb_pattern.specs.Faults.{with_sign, literal_in}

number-some : (digits : List ℕ) → is_number digits ≡ true → 0 < length digits
number-some [] e = absurd (let g : ◌≡◌ {A = Bool} false true = e in cc)
number-some (d ∷ ds) e = omega arith

number-digits : (digits : List ℕ) → is_number digits ≡ true → list_all is_digit digits ≡ true
number-digits digits e = (and_parts (nat_lt 0 (length digits)) (list_all is_digit digits) e).1

-- digits behind their sign stand for their number
pub literal-stands : (below : Bool) (digits : List ℕ) → is_number digits ≡ true → StandsFor (with_sign below digits) (signed below (number_of digits))
literal-stands false digits e = record {
  before = [];
  sign = none;
  digits = digits;
  behind = [];
  whole = sym (append-nil digits);
  blank_before = refl;
  some_digit = number-some digits e;
  all_digits = number-digits digits e;
  blank_behind = refl;
  number_is = refl;
}
literal-stands true digits e = record {
  before = [];
  sign = minus;
  digits = digits;
  behind = [];
  whole = ap (λ bytes. 45 ∷ bytes) (sym (append-nil digits));
  blank_before = refl;
  some_digit = number-some digits e;
  all_digits = number-digits digits e;
  blank_behind = refl;
  number_is = refl;
}

-- the number of a literal is the one that its query's tree stands for, where it is in the range
pub literal-number : (below : Bool) (digits : List ℕ) → is_number digits ≡ true → literal_in below digits ≡ within_range (signed below (number_of digits))
literal-number below digits e =
    ap (λ o. option_and_then within_range o) (stands-integer_of (with_sign below digits) (signed below (number_of digits)) (literal-stands below digits e))
