-- The key of a value from the bytes that it prints as.
use Rattle.std.specs.Prelude.{ℕ, Bool, false, ◌&&◌, ◌||◌, ◌==◌, if◌then◌else◌, List, [], ◌∷◌, Option, Some, None}
use Rattle.std.specs.Option.{option_map}
use Rattle.tb_tree.specs.Printed.{escaped}
use Rattle.tb_number.specs.Reading.{without_blanks, begins_with_minus, without_sign, leading_digits}
use Rattle.tb_number.specs.KeyParts.{KeyParts, value_parts, parts_of}

-- the parts of a value's key: of a number those of `Key`, and of another value its printed bytes
abbrev pub printed_parts : List ℕ → KeyParts
printed_parts value =
    let text = without_blanks value in
    value_parts (begins_with_minus text) (escaped value) (leading_digits (without_sign text))

-- the parts of a value, or of none
abbrev pub printed_key : Option (List ℕ) → KeyParts
printed_key None = parts_of None
printed_key (Some value) = printed_parts value

-- the sign and digits of a text that has no blank before them, where it is an integer text
abbrev pub number_in : List ℕ → Option (Bool × List ℕ)
number_in text = option_map (λ digits. (begins_with_minus text, digits)) (leading_digits (without_sign text))

-- behind `\0`: the escapes of a tab and of a return go on so
abbrev pub is_blank_octal : List ℕ → Bool
is_blank_octal (a ∷ b ∷ rest) = a == 49 && (b == 49 || b == 53)
is_blank_octal _ = false

-- how many bytes an escaped blank takes whose backslash stands before these bytes, or 0
abbrev pub escaped_blank : List ℕ → ℕ
escaped_blank [] = 0
escaped_blank (b ∷ rest) = if b == 110 then 2 else (if b == 48 && is_blank_octal rest then 4 else 0)

-- how many bytes the blank takes that stands first, as it prints, or 0
abbrev pub printed_blank : List ℕ → ℕ
printed_blank [] = 0
printed_blank (b ∷ rest) = if b == 32 then 1 else (if b == 92 then escaped_blank rest else 0)
