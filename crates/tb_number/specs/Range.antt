-- The range of signed numbers of 128 bits, and sums that stay within it.
use Rattle.std.specs.Prelude.{◌^◌, Bool, nat_lt, if◌then◌else◌, List, [], ◌∷◌, ℤ, pos, negsuc, ◌+ℤ◌, Option, Some, None, option_and_then}

-- at least -2^127 and below 2^127
abbrev pub is_in_range : ℤ → Bool
is_in_range (pos n) = nat_lt n (2 ^ 127)
is_in_range (negsuc n) = nat_lt n (2 ^ 127)

-- the number, or none where it is outside
abbrev pub within_range : ℤ → Option ℤ
within_range number = if is_in_range number then Some number else None

-- the total with the number added, or none where the number or the new total is outside
abbrev pub sum_with : ℤ → ℤ → Option ℤ
sum_with total number = option_and_then (λ n. within_range (total +ℤ n)) (within_range number)

-- the total with numbers added one after the other, or none where a number or a total is outside
abbrev pub sum_from : ℤ → List ℤ → Option ℤ
sum_from total [] = Some total
sum_from total (number ∷ numbers) =
    option_and_then (λ sum. sum_from sum numbers) (sum_with total number)

-- the sum of numbers in their order, from 0
abbrev pub running_sum : List ℤ → Option ℤ
running_sum numbers = sum_from (pos 0) numbers
