-- Places of items in lists, ranges of places, and the items of a list that are open where a range of
-- descendants starts: joins of such a range, and the pieces that a join is cut into, begin with these.
use Rattle.std.specs.Prelude.{◌≡◌, ℕ, ◌-◌, ◌<◌, Bool, ◌&&◌, nat_lt, List, [], length, filter, slice_index_or}
use Rattle.std.specs.List.{range_with_len}
use Rattle.tb_span.specs.Span.{Span}
use Rattle.tb_span.specs.declared.item.Item.{Item}

-- what `item_at` reads past the end of a list
abbrev pub no_item : Item
no_item = record { label = record { start = 0; end = 0; level = 0 }; node = 0 }

-- the item at a place, from 0
abbrev pub item_at : List Item → ℕ → Item
item_at xs place = slice_index_or xs place no_item

-- and its label
abbrev pub label_at : List Item → ℕ → Span
label_at xs place = (item_at xs place).label

-- the first n places of a list, in order
abbrev pub places : ℕ → List ℕ
places n = range_with_len 0 n

-- the places of a list from `lo` up to `hi`, which is not one of them
pub record Range : Type 0 where
  pub lo : ℕ
  pub hi : ℕ

abbrev pub range : ℕ → ℕ → Range
range lo hi = record { lo = lo; hi = hi }

-- all places of a list
abbrev pub all_of : List Item → Range
all_of xs = range 0 (length xs)

-- the places of a range, in order
abbrev pub places_in : Range → List ℕ
places_in r = range_with_len r.lo (r.hi - r.lo)

-- the point lies inside the label
abbrev pub is_open_at : ℕ → Span → Bool
is_open_at point u = nat_lt u.start point && nat_lt point u.end

-- the places below `from` whose items contain the point; by start, so the outermost stands first
abbrev pub open_places : List Item → ℕ → ℕ → List ℕ
open_places xs from point = filter (λ i. is_open_at point (label_at xs i)) (places from)

-- What a join knows of `a` before it looks at the descendants of a range of `d`: the items before `from` start
-- before the first of these, and the seed is the places of those among them that contain it.
pub record IsSeed (a d : List Item) (seed : List ℕ) (from : ℕ) (r : Range) : Type 0 where
  pub started : r.lo < r.hi → (i : ℕ) → i < from → (label_at a i).start < (label_at d r.lo).start
  pub holds : r.lo < r.hi → seed ≡ open_places a from (label_at d r.lo).start
  pub none : r.lo ≡ r.hi → seed ≡ []
