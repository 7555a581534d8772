-- What ran of a join: its pieces, each a range of places in the list of descendants.
use Rattle.std.specs.Prelude.{◌≡◌, ℕ, ◌<◌, nat_lt, cond, List, [], ◌∷◌}
use Rattle.std.specs.List.Sorted.{IsPermutation}
use Rattle.tb_parjoin.specs.declared.trace.Ran.{Ran}

-- what a contract sees of a trace: how many descendants the join had, and the pieces that were worked
pub record Trace : Type 0 where
  pub size : ℕ
  pub ran : List Ran

-- the pieces follow each other from one place up to another, and none is empty
abbrev pub Follow : ℕ → ℕ → List Ran → Type 0
Follow from to [] = from ≡ to
Follow from to (r ∷ rs) = (r.lo ≡ from) × (r.lo < r.hi) × Follow r.hi to rs

-- put in the order of their first places, the pieces have each place below the size once
pub record Partition (size : ℕ) (ran : List Ran) : Type 0 where
  pub by_lo : List Ran
  pub moved : IsPermutation ran by_lo
  pub follow : Follow 0 size by_lo

-- all places in one piece, worked by worker 0, and no piece where there is no place
abbrev pub whole_ran : ℕ → List Ran
whole_ran size = cond (nat_lt 0 size) (record { lo = 0; hi = size; worker = 0 } ∷ []) []

abbrev pub whole_trace : ℕ → Trace
whole_trace size = record { size = size; ran = whole_ran size }
