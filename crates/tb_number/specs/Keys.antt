-- The order of keys. A key is a value, or none.
use Rattle.std.specs.Prelude.{ℕ, Bool, List, [], ℤ, pos, Option, Some, None, ⊤}
use Rattle.std.specs.Ordering.{nat_cmp, int_cmp, on, then_cmp, is_eq}
use Rattle.std.specs.declared.cmp.Ordering.{Ordering}
use Rattle.tb_number.specs.Reading.{integer_of}
use Rattle.tb_number.specs.Values.{AreEqual, bytes_cmp}

-- a key as it is sorted
pub record SortedAs : Type 0 where
  -- 0 no value, 1 an integer text, 2 another value
  pub kind : ℕ
  -- of an integer text; 0 of the others
  pub number : ℤ
  -- of another value; none of the others
  pub bytes : List ℕ

abbrev pub value_sorted_as : Option ℤ → List ℕ → SortedAs
value_sorted_as None bytes = record { kind = 2; number = pos 0; bytes = bytes }
value_sorted_as (Some number) bytes = record { kind = 1; number = number; bytes = [] }

abbrev pub sorted_as : Option (List ℕ) → SortedAs
sorted_as None = record { kind = 0; number = pos 0; bytes = [] }
sorted_as (Some bytes) = value_sorted_as (integer_of bytes) bytes

-- by kind, then by number, then by bytes
abbrev pub sorted_cmp : SortedAs → SortedAs → Ordering
sorted_cmp = then_cmp (on (λ k. k.kind) nat_cmp)
    (then_cmp (on (λ k. k.number) int_cmp) (on (λ k. k.bytes) bytes_cmp))

-- no value first, then integer texts by number, then all other values by bytes
abbrev pub key_cmp : Option (List ℕ) → Option (List ℕ) → Ordering
key_cmp = on sorted_as sorted_cmp

-- both have no value, or their values are equal
abbrev pub is_same_key : Option (List ℕ) → Option (List ℕ) → Bool
is_same_key a b = is_eq (key_cmp a b)

-- the same as a relation
abbrev pub AreEqualKeys : Option (List ℕ) → Option (List ℕ) → Type 0
AreEqualKeys None None = ⊤
AreEqualKeys None (Some b) = ⊥
AreEqualKeys (Some a) None = ⊥
AreEqualKeys (Some a) (Some b) = AreEqual a b
