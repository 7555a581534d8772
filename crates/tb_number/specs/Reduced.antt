-- Digits as an integer text keeps them.
use Rattle.std.specs.Prelude.{ℕ, Bool, ◌&&◌, not, ◌==◌, List, [], ◌∷◌, drop, length}
use Rattle.std.specs.List.{prefix_len, list_all}
use Rattle.std.specs.Ordering.{nat_cmp, ordering_then}
use Rattle.std.specs.Cmp.Lexicographic.{slice_cmp}
use Rattle.std.specs.declared.cmp.Ordering.{Ordering}
use Rattle.tb_number.specs.IntText.{is_digit}

abbrev pub is_zero : ℕ → Bool
is_zero b = b == 48

-- the digits from the first one on that is no `0`
abbrev pub without_zeros : List ℕ → List ℕ
without_zeros digits = drop (prefix_len is_zero digits) digits

-- a minus is kept where there is a digit
abbrev pub keeps_minus : Bool → List ℕ → Bool
keeps_minus minus digits = minus && not (length digits == 0)

-- digits without leading zeros, so none for zero, and then there is no minus
abbrev pub is_reduced : Bool → List ℕ → Bool
is_reduced minus [] = not minus
is_reduced minus (d ∷ ds) = not (is_zero d) && list_all is_digit (d ∷ ds)

-- by length, then by bytes
abbrev pub digits_cmp : List ℕ → List ℕ → Ordering
digits_cmp xs ys = ordering_then (nat_cmp (length xs) (length ys)) (slice_cmp nat_cmp xs ys)
