-- Integer texts, and the number that each stands for.
use Rattle.std.specs.Prelude.{◌≡◌, ℕ, ◌+◌, ◌-◌, ◌*◌, ◌<◌, Bool, true, false, ◌&&◌, ◌||◌, ◌==◌, nat_le, IsTrue, List, [], ◌∷◌, ◌++◌, length, ℤ, pos, neg_ℤ, Option, Some, None}
use Rattle.std.specs.List.{fold, list_all}

-- tab, line end, return or space
abbrev pub is_blank : ℕ → Bool
is_blank b = b == 9 || b == 10 || b == 13 || b == 32

-- `0` to `9`
abbrev pub is_digit : ℕ → Bool
is_digit b = nat_le 48 b && nat_le b 57

-- the number of some digits and one more behind them
abbrev pub with_digit : ℕ → ℕ → ℕ
with_digit n b = 10 * n + (b - 48)

-- the number that digits write
abbrev pub number_of : List ℕ → ℕ
number_of digits = fold with_digit 0 digits

-- what stands before the digits: nothing, `+` or `-`
pub data Sign : Type 0 where
  none : Sign
  plus : Sign
  minus : Sign

abbrev pub sign_text : Sign → List ℕ
sign_text none = []
sign_text plus = 43 ∷ []
sign_text minus = 45 ∷ []

abbrev pub is_minus : Sign → Bool
is_minus none = false
is_minus plus = false
is_minus minus = true

-- the number, below 0 where there is a minus
abbrev pub signed : Bool → ℕ → ℤ
signed false n = pos n
signed true n = neg_ℤ (pos n)

-- The bytes are any blanks, a sign or none, one digit or more, any blanks, and nothing else. The
-- number is that of the digits, with the sign.
pub record StandsFor (bytes : List ℕ) (number : ℤ) : Type 0 where
  pub before : List ℕ
  pub sign : Sign
  pub digits : List ℕ
  pub behind : List ℕ
  pub whole : bytes ≡ before ++ (sign_text sign ++ (digits ++ behind))
  pub blank_before : IsTrue (list_all is_blank before)
  pub some_digit : 0 < length digits
  pub all_digits : IsTrue (list_all is_digit digits)
  pub blank_behind : IsTrue (list_all is_blank behind)
  pub number_is : number ≡ signed (is_minus sign) (number_of digits)

-- the bytes stand for some number
abbrev pub IsIntText : List ℕ → Type 0
IsIntText bytes = (number : ℤ) × StandsFor bytes number

-- what was read: a number that the bytes stand for, or none, and then they are no integer text
abbrev pub Reads : List ℕ → Option ℤ → Type 0
Reads bytes None = ¬ IsIntText bytes
Reads bytes (Some number) = StandsFor bytes number
