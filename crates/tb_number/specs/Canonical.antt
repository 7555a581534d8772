-- The canonical text of a number.
use Rattle.std.specs.Prelude.{ℕ, ◌+◌, ◌==◌, if◌then◌else◌, List, [], ◌∷◌, map, ℤ, pos, negsuc}
use Rattle.std.specs.Int.Digits.{digits_of}

-- the digits, the highest first; `0` has one
abbrev pub decimal_text : ℕ → List ℕ
decimal_text n = if n == 0 then 48 ∷ [] else map (λ d. 48 + d) (digits_of 10 n)

-- a `-` where the number is below 0, and its digits without leading zeros
unfoldable pub canonical_text : ℤ → List ℕ
canonical_text (pos n) = decimal_text n
canonical_text (negsuc n) = 45 ∷ decimal_text (n + 1)
