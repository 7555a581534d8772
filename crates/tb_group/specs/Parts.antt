-- Rows with their keys, as they are sorted.
use Rattle.std.specs.Prelude.{ℕ, Bool, if◌then◌else◌, List, [], ◌∷◌, pos, Option, None, get_or}
use Rattle.std.specs.Ordering.{bool_cmp, on, then_cmp, flip_args}
use Rattle.std.specs.Cmp.Lexicographic.{slice_cmp}
use Rattle.std.specs.declared.cmp.Ordering.{Ordering}
use Rattle.tb_number.specs.Keys.{SortedAs, sorted_as, sorted_cmp}
use Rattle.tb_number.specs.declared.sort_key.SortKey.{SortKey}
use Rattle.tb_group.specs.declared.sorted.Sorted.{Sorted}
use Rattle.tb_group.specs.declared.sorted.Sorted.TheVariants.{Nothing, Number, Other}

-- what sorts before all others: no value
abbrev pub nothing : SortedAs
nothing = record { kind = 0; number = pos 0; bytes = [] }

abbrev pub sorted_of : Sorted → SortedAs
sorted_of Nothing = nothing
sorted_of (Number n) = record { kind = 1; number = n; bytes = [] }
sorted_of (Other bytes) = record { kind = 2; number = pos 0; bytes = bytes.now }

-- one key of a row, and whether its order is turned round
pub record SortPart : Type 0 where
  pub sorted : SortedAs
  pub descending : Bool

abbrev pub part_of : Option (List ℕ) → Bool → SortPart
part_of value descending = record { sorted = sorted_as value; descending = descending }

-- the key where its order is as it is, and where it is turned round
abbrev pub rising : SortPart → SortedAs
rising p = if p.descending then nothing else p.sorted

abbrev pub falling : SortPart → SortedAs
falling p = if p.descending then p.sorted else nothing

-- The order of keys. Keys of one column are all turned round, or none is.
abbrev pub part_cmp : SortPart → SortPart → Ordering
part_cmp =
    then_cmp (on (λ p. p.descending) bool_cmp)
    (then_cmp (on rising sorted_cmp) (on falling (flip_args sorted_cmp)))

-- a row by its number, with its keys
pub record KeyedRow : Type 0 where
  pub parts : List SortPart
  pub row : ℕ

-- by the keys alone
abbrev pub keyed_cmp : KeyedRow → KeyedRow → Ordering
keyed_cmp = on (λ k. k.parts) (slice_cmp part_cmp)

-- the keys of a row, of which each column has one
abbrev pub parts_at : List (List (Option (List ℕ))) → List SortKey → ℕ → List SortPart
parts_at (values ∷ columns) (k ∷ keys) row =
    part_of (get_or values row None) k.descending ∷ parts_at columns keys row
parts_at _ _ row = []

abbrev pub keyed_at : List (List (Option (List ℕ))) → List SortKey → ℕ → KeyedRow
keyed_at columns keys row = record { parts = parts_at columns keys row; row = row }
