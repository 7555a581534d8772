-- What single bytes are.
use Rattle.std.specs.Prelude.{ℕ, Bool, ◌&&◌, ◌||◌, ◌==◌, nat_le}

-- tab, line end, return or space
abbrev pub is_blank : ℕ → Bool
is_blank b = b == 9 || b == 10 || b == 13 || b == 32

-- `0` to `9`
abbrev pub is_digit : ℕ → Bool
is_digit b = nat_le 48 b && nat_le b 57

-- `"` or `'`
abbrev pub is_quote : ℕ → Bool
is_quote b = b == 34 || b == 39

-- what a name begins with: a letter, `_`, or a byte of 128 and more
abbrev pub starts_name : ℕ → Bool
starts_name b =
    (nat_le 65 b && nat_le b 90) || (nat_le 97 b && nat_le b 122) || b == 95 || nat_le 128 b
