-- Names by number: each name that occurs has one, from 0.
use Rattle.std.specs.Prelude.{◌≡◌, ◌⊎◌, ℕ, ◌+◌, ◌*◌, ◌%◌, ◌^◌, ◌<◌, cond, List, [], ◌∷◌, ◌++◌, length, slice_index_or, Option, Some, None}
use Rattle.std.specs.BTreeMap.{get, get_by}
use Rattle.std.specs.Option.{option_map}
use Rattle.std.specs.Ordering.{nat_cmp}
use Rattle.std.specs.Cmp.Lexicographic.{slice_cmp}
use Rattle.std.specs.Str.{bytes_eq}
use Rattle.tb_tree.specs.declared.name_index.NameIndex.{NameIndex}

-- no name stands twice
abbrev pub AreApart : List (List ℕ) → Type 0
AreApart names =
    (m n : ℕ) → m < length names → n < length names → slice_index_or names m [] ≡ slice_index_or names n [] → m ≡ n

-- the name has this number
abbrev pub IsNumber : List (List ℕ) → List ℕ → ℕ → Type 0
IsNumber names name n = (n < length names) × (slice_index_or names n [] ≡ name)

-- the number that the name has alone, or none where it has none
abbrev pub IsKnown : List (List ℕ) → List ℕ → Option ℕ → Type 0
IsKnown names name (Some n) = IsNumber names name n × ((k : ℕ) → IsNumber names name k → k ≡ n)
IsKnown names name None = (n : ℕ) → IsNumber names name n → ⊥

-- the names of before, and at most one more
pub data IsMore (old new : List (List ℕ)) : Type 0 where
  same : new ≡ old → IsMore old new
  one_more : (name : List ℕ) → new ≡ old ++ name ∷ [] → IsMore old new

-- the first place at which the name stands
abbrev pub place_of : List ℕ → List (List ℕ) → Option ℕ
place_of name [] = None
place_of name (first ∷ rest) = cond (bytes_eq name first) (Some 0) (option_map (λ n. n + 1) (place_of name rest))

-- the hash of bytes behind those that have the first
abbrev pub hash_from : ℕ → List ℕ → ℕ
hash_from hash [] = hash
hash_from hash (byte ∷ bytes) = hash_from ((hash * 31 % 2 ^ 32 + byte) % 2 ^ 32) bytes

abbrev pub hash_of : List ℕ → ℕ
hash_of name = hash_from 0 name

-- what an index has for a hash, and among the others for a name
abbrev pub first_in : NameIndex → ℕ → Option ℕ
first_in index hash = get nat_cmp index.first hash

abbrev pub other_in : NameIndex → List ℕ → Option ℕ
other_in index name = get_by (λ key. slice_cmp nat_cmp name key.items) index.others

-- The names are different. Each is found by its hash or among the others, where there are only those whose hash
-- came before.
pub record IsIndex (names : List (List ℕ)) (index : NameIndex) : Type 0 where
  pub apart : AreApart names
  pub found :
      (n : ℕ)
      → n < length names
      → (first_in index (hash_of (slice_index_or names n [])) ≡ Some n) ⊎ (other_in index (slice_index_or names n []) ≡ Some n)
  pub others_stand : (name : List ℕ) (n : ℕ) → other_in index name ≡ Some n → IsNumber names name n
  pub behind : (name : List ℕ) → first_in index (hash_of name) ≡ None → other_in index name ≡ None
