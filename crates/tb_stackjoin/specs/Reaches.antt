-- The reach of an ancestor: the part of a range of descendants that is below it. On the axis of descendants these
-- stand side by side, so two places tell them.
use Rattle.std.specs.Prelude.{◌≡◌, ℕ, ◌+◌, ◌<◌, ◌≤◌, ◌⊎◌, Bool, ◌&&◌, cond, nat_eq, List, [], ◌∷◌, ◌++◌, All, length, map, filter, flat_map, take, set, slice_index_or}
use Rattle.tb_span.specs.Seeds.{label_at, places, Range, range, places_in}
use Rattle.tb_span.specs.declared.item.Axis.TheVariants.{Descendant}
use Rattle.tb_span.specs.declared.item.Item.{Item}
use Rattle.tb_span.specs.declared.item.Pair.{Pair}
use Rattle.tb_stackjoin.specs.Pairs.{pair, below}
use Rattle.tb_stackjoin.specs.declared.reach.Reach.{Reach}

-- what `reach_at` reads past the end of a list
abbrev pub no_reach : Reach
no_reach = record { a = 0; first = 0; last = 0 }

abbrev pub reach_at : List Reach → ℕ → Reach
reach_at reaches k = slice_index_or reaches k no_reach

-- the pairs of a reach
abbrev pub pairs_in : Reach → List Pair
pairs_in x = map (λ j. pair x.a j) (places_in (range x.first x.last))

-- An open reach goes on to the end of the range, so one that never ends is right as it was made.
abbrev pub opened : Range → ℕ → ℕ → Reach
opened r i place = record { a = i; first = place; last = r.hi }

-- the same, ended before a place
abbrev pub ended : ℕ → Reach → Reach
ended place x = record { a = x.a; first = x.first; last = place }

-- A reach ends before a place: the newest one goes, where it has no place.
abbrev pub reaches_ended : ℕ → ℕ → List Reach → List Reach
reaches_ended place k reaches =
    cond (nat_eq (reach_at reaches k).first place && nat_eq (k + 1) (length reaches)) (take k reaches) (set reaches k (ended place (reach_at reaches k)))

-- the ancestors of all reaches, and of those whose numbers are on a stack
abbrev pub ancestors : List Reach → List ℕ
ancestors reaches = map (λ x. x.a) reaches

abbrev pub ancestors_of : List Reach → List ℕ → List ℕ
ancestors_of reaches stack = map (λ k. (reach_at reaches k).a) stack

-- the numbers of the reaches that are open
abbrev pub is_open_reach : Range → List Reach → ℕ → Bool
is_open_reach r reaches k = nat_eq (reach_at reaches k).last r.hi

abbrev pub open_reaches : Range → List Reach → List ℕ
open_reaches r reaches = filter (is_open_reach r reaches) (places (length reaches))

-- an open reach, before the descendant at a place
pub record IsOpen (a d : List Item) (r : Range) (place : ℕ) (x : Reach) : Type 0 where
  pub lasts : x.last ≡ r.hi
  pub begins : x.first ≤ place
  pub has : below Descendant d (label_at a x.a) (range r.lo place) ≡ places_in (range x.first place)

-- one that has ended: its ancestor ends before the descendant at its last place starts
pub record IsEnded (a d : List Item) (r : Range) (place : ℕ) (x : Reach) : Type 0 where
  pub within : x.last ≤ place
  pub short : x.last < r.hi
  pub past : (label_at a x.a).end < (label_at d x.last).start
  pub has : below Descendant d (label_at a x.a) (range r.lo place) ≡ places_in (range x.first x.last)

abbrev pub IsReach : List Item → List Item → Range → ℕ → Reach → Type 0
IsReach a d r place x = IsOpen a d r place x ⊎ IsEnded a d r place x

-- the first reaches are the second without some that have no place
abbrev pub Thins : List Reach → List Reach → Type 0
Thins some [] = some ≡ []
Thins some (x ∷ all) = ((rest : List Reach) × (some ≡ x ∷ rest) × Thins rest all) ⊎ ((x.last ≤ x.first) × Thins some all)

-- What a join has before the descendant at a place: each ancestor that was passed has a reach, some of these were
-- written as pairs when they had ended, and the others wait, but for some that have no place. The stack has the
-- numbers of the open ones.
pub record HasReaches (a d : List Item) (r : Range) (place : ℕ) (passed : List ℕ) (pairs : List Pair) (reaches : List Reach) (stack : List ℕ) : Type 0 where
  pub all : List Reach
  pub gone : List Reach
  pub made : ancestors all ≡ passed
  pub each : All (IsReach a d r place) all
  pub thin : Thins (gone ++ reaches) all
  pub over : All (λ x. x.last < r.hi) gone
  pub written : pairs ≡ flat_map pairs_in gone
  pub stacked : stack ≡ open_reaches r reaches
