-- What private helpers say to each other of marked entries: 2^31 is added to them.
use Rattle.std.specs.Prelude.{ℕ, ◌+◌, ◌-◌, ◌^◌, Bool, nat_lt, nat_eq, cond, List, length, map, slice_index_or}
use Rattle.std.specs.List.{range_with_len, list_any}

-- whether the number is in the list
abbrev pub has : List ℕ → ℕ → Bool
has xs n = list_any (λ x. nat_eq x n) xs

-- what is added to the entry at place k once the numbers in `seen` have marked theirs
abbrev pub mark : List ℕ → ℕ → ℕ
mark seen k = cond (has seen k) (2 ^ 31) 0

-- the entries, marked at each place that is in `seen`
abbrev pub marked : List ℕ → List ℕ → List ℕ
marked seen entries = map (λ k. slice_index_or entries k 0 + mark seen k) (range_with_len 0 (length entries))

-- an entry without its mark
abbrev pub unmarked : ℕ → ℕ
unmarked entry = cond (nat_lt entry (2 ^ 31)) entry (entry - 2 ^ 31)
