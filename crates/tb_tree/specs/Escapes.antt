-- Escapes in data and in values: what the bytes of a line stand for.
use Rattle.std.specs.Prelude.{ℕ, zero, suc, ◌+◌, ◌*◌, ◌-◌, Bool, false, ◌&&◌, not, nat_le, ◌==◌, if◌then◌else◌, List, [], ◌∷◌, ◌++◌, length, take, drop, Option, Some, None, encode_utf8}
use Rattle.std.specs.List.{prefix_len}
use Rattle.std.specs.Option.{option_map}
use lib.Utf8.{scalar}
use Rattle.tb_tree.specs.Sound.{is_empty_list}
use Rattle.tb_tree.specs.Steps.{◌>>=◌}

-- what an escape gives, and how many bytes it takes behind its backslash
pub record Escape : Type 0 where
  pub gives : List ℕ
  pub takes : ℕ

-- 0 to 9
abbrev pub is_digit : ℕ → Bool
is_digit b = nat_le 48 b && nat_le b 57

-- 0 to 7
abbrev pub is_octal : ℕ → Bool
is_octal b = nat_le 48 b && nat_le b 55

-- the number that decimal digits write, behind the digits of n
abbrev pub number_from : ℕ → List ℕ → ℕ
number_from n [] = n
number_from n (d ∷ ds) = number_from (n * 10 + (d - 48)) ds

-- the end of a scalar's digits
abbrev pub begins_with_end : List ℕ → Bool
begins_with_end [] = false
begins_with_end (b ∷ rest) = b == 59

-- `\#n;`: the UTF-8 of the Unicode scalar n, where `;` stands behind its digits
abbrev pub scalar_escape : List ℕ → List ℕ → Option Escape
scalar_escape digits behind =
    if not (is_empty_list digits) && begins_with_end behind && scalar (number_from 0 digits)
    then Some (record { gives = encode_utf8 (number_from 0 digits); takes = 2 + length digits })
    else None

-- the number that three octal digits write
abbrev pub octal_number : ℕ → ℕ → ℕ → ℕ
octal_number a b c = ((a - 48) * 8 + (b - 48)) * 8 + (c - 48)

-- byte 10 isn't given
abbrev pub octal_bytes : ℕ → List ℕ
octal_bytes b = if b == 10 then [] else b ∷ []

-- `\012` gives nothing, and other three octal digits of at most 377 give their byte
abbrev pub octal_escape : List ℕ → Option Escape
octal_escape (a ∷ b ∷ c ∷ rest) =
    if is_octal a && is_octal b && is_octal c && nat_le (octal_number a b c) 255
    then Some (record { gives = octal_bytes (octal_number a b c); takes = 3 })
    else None
octal_escape _ = None

-- the escape whose backslash stands before these bytes
abbrev pub escape_of : List ℕ → Option Escape
escape_of [] = None
escape_of (b ∷ rest) =
    if b == 92 then Some (record { gives = 92 ∷ []; takes = 1 })
    else (if b == 110 then Some (record { gives = 10 ∷ []; takes = 1 })
    else (if b == 124 then Some (record { gives = []; takes = 1 })
    else (if b == 35
    then scalar_escape (take (prefix_len is_digit rest) rest) (drop (prefix_len is_digit rest) rest)
    else octal_escape (b ∷ rest))))

-- What the bytes give behind the first k, which an escape has taken; none where a backslash begins no
-- escape.
abbrev pub unescaped_behind : ℕ → List ℕ → Option (List ℕ)
unescaped_behind k [] = Some []
unescaped_behind (suc k) (b ∷ bs) = unescaped_behind k bs
unescaped_behind zero (b ∷ bs) =
    if b == 92
    then (escape_of bs >>= λ e.
    option_map (λ given. e.gives ++ given) (unescaped_behind e.takes bs))
    else option_map (λ given. b ∷ given) (unescaped_behind zero bs)

-- what data or a value gives, with its escapes read
abbrev pub unescaped : List ℕ → Option (List ℕ)
unescaped = unescaped_behind 0
