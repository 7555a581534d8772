-- The key of a value in parts that are compared as they stand, so that keys can be hashed: equal
-- keys have the same parts.
use Rattle.std.specs.Prelude.{ℕ, Bool, ◌&&◌, ◌==◌, if◌then◌else◌, List, [], Option, Some, None}
use Rattle.std.specs.Str.{bytes_eq}
use Rattle.tb_number.specs.Reading.{without_blanks, begins_with_minus, without_sign, leading_digits}
use Rattle.tb_number.specs.Reduced.{without_zeros, keeps_minus}

pub record KeyParts : Type 0 where
  -- 0 no value, 1 a number not below 0, 2 a number below 0, 3 another value
  pub kind : ℕ
  -- of a number its digits without leading zeros; of another value the value
  pub bytes : List ℕ

-- both parts are the same
abbrev pub same_parts : KeyParts → KeyParts → Bool
same_parts a b = a.kind == b.kind && bytes_eq a.bytes b.bytes

-- of a number with these digits, which have no leading zeros
abbrev pub number_kind : Bool → List ℕ → ℕ
number_kind minus digits = if keeps_minus minus digits then 2 else 1

-- the parts of a number with these digits, which may have leading zeros
abbrev pub number_parts : Bool → List ℕ → KeyParts
number_parts minus digits =
    let digits = without_zeros digits in
    record { kind = number_kind minus digits; bytes = digits }

-- the parts of another value
abbrev pub other_parts : List ℕ → KeyParts
other_parts bytes = record { kind = 3; bytes = bytes }

-- the parts of a value, by the digits of its number, or by its bytes where it has none
abbrev pub value_parts : Bool → List ℕ → Option (List ℕ) → KeyParts
value_parts minus bytes None = other_parts bytes
value_parts minus bytes (Some digits) = number_parts minus digits

-- the parts of a value that is there
abbrev pub text_parts : List ℕ → KeyParts
text_parts bytes =
    let text = without_blanks bytes in
    value_parts (begins_with_minus text) bytes (leading_digits (without_sign text))

-- the parts of a key
abbrev pub parts_of : Option (List ℕ) → KeyParts
parts_of None = record { kind = 0; bytes = [] }
parts_of (Some bytes) = text_parts bytes
