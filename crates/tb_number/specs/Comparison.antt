-- What a comparison says of two values that are ordered so.
use Rattle.std.specs.Prelude.{Bool, false, ℤ, Option, Some, None}
use Rattle.std.specs.Ordering.{int_cmp, is_eq, is_ne, is_lt, is_le, is_gt, is_ge}
use Rattle.std.specs.declared.cmp.Ordering.{Ordering}
use Rattle.tb_number.specs.declared.op.CmpOp.{CmpOp}
use Rattle.tb_number.specs.declared.op.CmpOp.TheVariants.{Eq, Ne, Lt, Le, Gt, Ge}

-- equal, not equal, less, not greater, greater, not less
abbrev pub holds : CmpOp → Ordering → Bool
holds Eq order = is_eq order
holds Ne order = is_ne order
holds Lt order = is_lt order
holds Le order = is_le order
holds Gt order = is_gt order
holds Ge order = is_ge order

-- whether the number that was read stands so to another; where none was read, it doesn't
abbrev pub number_stands : CmpOp → Option ℤ → ℤ → Bool
number_stands op None n = false
number_stands op (Some m) n = holds op (int_cmp m n)
