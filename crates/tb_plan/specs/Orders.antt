-- The numbers of a pattern's edges, and the orders in which they may be joined.
use Rattle.std.specs.Prelude.{ℕ, List, length, reverse}
use Rattle.std.specs.List.{range_with_len}
use Rattle.std.specs.List.Sorted.{IsPermutation}
use Rattle.tb_pattern.specs.Plain.{PlainEdges, numbered_edges}

-- how many edges there are, with those below them
abbrev pub edge_count : PlainEdges → ℕ
edge_count es = length (numbered_edges es)

-- the numbers below n, from 0
abbrev pub numbers : ℕ → List ℕ
numbers n = range_with_len 0 n

-- the list has each number below its length once
abbrev pub IsOrder : List ℕ → Type 0
IsOrder order = IsPermutation (numbers (length order)) order

-- the list has the number of each edge once, and no other number
abbrev pub IsOrderOf : List ℕ → PlainEdges → Type 0
IsOrderOf order es = IsPermutation (numbers (edge_count es)) order

-- the edges as they are written, and from the last to the first
abbrev pub written_order : PlainEdges → List ℕ
written_order es = numbers (edge_count es)

abbrev pub reverse_order : PlainEdges → List ℕ
reverse_order es = reverse (numbers (edge_count es))
