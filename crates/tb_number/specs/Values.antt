-- When two values are equal, and how two values are compared.
use Rattle.std.specs.Prelude.{◌≡◌, ◌⊎◌, ℕ, Bool, List, ℤ, Option, Some, None}
use Rattle.std.specs.Ordering.{nat_cmp, int_cmp}
use Rattle.std.specs.Cmp.Lexicographic.{slice_cmp}
use Rattle.std.specs.declared.cmp.Ordering.{Ordering}
use Rattle.tb_number.specs.IntText.{StandsFor}
use Rattle.tb_number.specs.Reading.{integer_of}
use Rattle.tb_number.specs.Comparison.{holds, number_stands}
use Rattle.tb_number.specs.declared.op.CmpOp.{CmpOp}

-- both are integer texts of one number
abbrev pub AreOneNumber : List ℕ → List ℕ → Type 0
AreOneNumber a b = (number : ℤ) × StandsFor a number × StandsFor b number

-- both are integer texts of one number, or their bytes are the same
abbrev pub AreEqual : List ℕ → List ℕ → Type 0
AreEqual a b = AreOneNumber a b ⊎ (a ≡ b)

-- the order of the bytes, a prefix first
abbrev pub bytes_cmp : List ℕ → List ℕ → Ordering
bytes_cmp a b = slice_cmp nat_cmp a b

-- the order of the numbers, or of the bytes where one has no number
abbrev pub number_or_bytes_cmp : Option ℤ → Option ℤ → List ℕ → List ℕ → Ordering
number_or_bytes_cmp (Some m) (Some n) a b = int_cmp m n
number_or_bytes_cmp (Some m) None a b = bytes_cmp a b
number_or_bytes_cmp None n a b = bytes_cmp a b

-- as numbers where both are integer texts, else by bytes, a prefix first
abbrev pub value_cmp : List ℕ → List ℕ → Ordering
value_cmp a b = number_or_bytes_cmp (integer_of a) (integer_of b) a b

-- the value stands so to a number, as an integer text: another value to none
abbrev pub stands_to_number : CmpOp → List ℕ → ℤ → Bool
stands_to_number op value n = number_stands op (integer_of value) n

-- the value stands so to some bytes, by its own
abbrev pub stands_to_bytes : CmpOp → List ℕ → List ℕ → Bool
stands_to_bytes op value bytes = holds op (bytes_cmp value bytes)

-- the value stands so to another value
abbrev pub stands_to_value : CmpOp → List ℕ → List ℕ → Bool
stands_to_value op value other = holds op (value_cmp value other)
