-- Stacks of places, and what a join knows of its own: which places are on it for each point still to come.
use Rattle.std.specs.Prelude.{◌≡◌, ℕ, ◌+◌, ◌-◌, ◌<◌, ◌≤◌, Bool, nat_le, List, ◌++◌, All, AllPairs, length, drop, filter}
use Rattle.std.specs.List.{range_with_len, prefix_len}
use Rattle.tb_span.specs.Span.{Span, IsAbove}
use Rattle.tb_span.specs.Seeds.{label_at}
use Rattle.tb_span.specs.declared.item.Item.{Item}
use Rattle.tb_stackjoin.specs.Turns.{starts_before}

-- the item at the place has not ended before the point
abbrev pub lasts : List Item → ℕ → ℕ → Bool
lasts a point i = nat_le point (label_at a i).end

-- places below `next`, each inside the one before it
pub record IsStack (a : List Item) (next : ℕ) (stack : List ℕ) : Type 0 where
  pub below : All (λ i. i < next) stack
  pub inside : AllPairs (λ i k. IsAbove (label_at a i) (label_at a k)) stack

-- the items at these places are ancestors of the label
abbrev pub AreAbove : List Item → List ℕ → Span → Type 0
AreAbove a stack v = All (λ i. IsAbove (label_at a i) v) stack

-- how many items in a row, from the place on, start before the point
abbrev pub run : List Item → ℕ → ℕ → ℕ
run a from point = prefix_len (starts_before point) (drop from a)

-- what is counted, and one step more for each place on the stack, which its popping will take
abbrev pub spent : ℕ → List ℕ → ℕ
spent steps stack = steps + length stack

-- What pushing all that starts before the point comes to, for the place of the next ancestor. For each later
-- point the stack has what it had, and what was passed, of what lasts till then.
pub record HasPushed (a : List Item) (first point : ℕ) (old new : List ℕ) (next : ℕ) : Type 0 where
  pub is : next ≡ first + run a first point
  pub stack : IsStack a next new
  pub kept : (q : ℕ) → point ≤ q → filter (lasts a q) new ≡ filter (lasts a q) old ++ filter (lasts a q) (range_with_len first (next - first))
