-- What is kept of bytes that many values are compared with.
use Rattle.std.specs.Prelude.{◌≡◌, Bool, true, false, not, ℕ, List, ℤ, Option}
use Rattle.tb_tree.specs.Printed.{escaped}
use Rattle.tb_number.specs.Reading.{integer_of}
use Rattle.tb_number.specs.declared.op.CmpOp.{CmpOp}
use Rattle.tb_number.specs.declared.op.CmpOp.TheVariants.{Eq, Ne, Lt, Le, Gt, Ge}

-- their number, or none, and how they print
pub record IsPrepared (bytes : List ℕ) (number : Option ℤ) (printed : List ℕ) : Type 0 where
  pub number_is : number ≡ integer_of bytes
  pub printed_is : printed ≡ escaped bytes

-- a comparison that asks only whether two values are the same
abbrev pub is_equality : CmpOp → Bool
is_equality Eq = true
is_equality Ne = true
is_equality Lt = false
is_equality Le = false
is_equality Gt = false
is_equality Ge = false

-- what it says of two values that are the same, or aren't
abbrev pub equality_holds : CmpOp → Bool → Bool
equality_holds Eq same = same
equality_holds Ne same = not same
equality_holds _ same = false
