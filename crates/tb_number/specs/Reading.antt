-- The number of an integer text as a function of its bytes.
use Rattle.std.specs.Prelude.{ℕ, Bool, false, ◌&&◌, ◌||◌, ◌==◌, nat_lt, if◌then◌else◌, List, [], ◌∷◌, take, drop, ℤ, Option, Some, None, option_map}
use Rattle.std.specs.List.{prefix_len, list_all}
use Rattle.tb_number.specs.IntText.{is_blank, is_digit, number_of, signed}

-- the bytes from the first one on that is no blank
abbrev pub without_blanks : List ℕ → List ℕ
without_blanks bytes = drop (prefix_len is_blank bytes) bytes

abbrev pub begins_with_minus : List ℕ → Bool
begins_with_minus [] = false
begins_with_minus (b ∷ bs) = b == 45

-- the bytes behind a sign, where they begin with one
abbrev pub without_sign : List ℕ → List ℕ
without_sign [] = []
without_sign (b ∷ bs) = if b == 43 || b == 45 then bs else b ∷ bs

-- how many digits stand behind a sign, those digits, and what is behind them
abbrev pub signed_digits_len : List ℕ → ℕ
signed_digits_len bytes = prefix_len is_digit (without_sign bytes)

abbrev pub signed_digits : List ℕ → List ℕ
signed_digits bytes = take (signed_digits_len bytes) (without_sign bytes)

abbrev pub behind_digits : List ℕ → List ℕ
behind_digits bytes = drop (signed_digits_len bytes) (without_sign bytes)

-- the digits at the start; none where there is no digit, or another byte than a blank behind them
abbrev pub leading_digits : List ℕ → Option (List ℕ)
leading_digits bytes =
    let len = prefix_len is_digit bytes in
    if nat_lt 0 len && list_all is_blank (drop len bytes) then Some (take len bytes) else None

-- the number that the bytes stand for, or none where they are no integer text
unfoldable pub integer_of : List ℕ → Option ℤ
integer_of bytes =
    let text = without_blanks bytes in
    option_map (λ digits. signed (begins_with_minus text) (number_of digits))
    (leading_digits (without_sign text))
