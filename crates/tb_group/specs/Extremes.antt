-- The least and the greatest number, as they are kept one value after the other.
use Rattle.std.specs.Prelude.{◌≡◌, ℕ, Bool, true, ◌++◌, List, [], Option, Some, None, if◌then◌else◌, fold, length, ℤ}
use Rattle.std.specs.Ordering.{int_cmp}
use Rattle.tb_number.specs.Canonical.{canonical_text}
use Rattle.tb_number.specs.Comparison.{holds}
use Rattle.tb_number.specs.declared.op.CmpOp.{CmpOp}
use Rattle.tb_query.specs.Operands.{numbers_of}

-- the number is to be kept, where none is or it stands so to the one that is
abbrev pub beats : CmpOp → Option ℤ → ℤ → Bool
beats op None n = true
beats op (Some m) n = holds op (int_cmp n m)

abbrev pub kept_with : CmpOp → Option ℤ → ℤ → Option ℤ
kept_with op kept n = if beats op kept n then Some n else kept

-- the best of some numbers
abbrev pub best_of : CmpOp → List ℤ → Option ℤ
best_of op ns = fold (kept_with op) None ns

-- how what is kept is written
abbrev pub kept_text : Option ℤ → List ℕ
kept_text None = []
kept_text (Some n) = canonical_text n

-- behind so many bytes the best number of the values and of what was kept there is kept
abbrev pub Keeps : CmpOp → ℕ → List (List ℕ) → List ℕ → List ℕ → Type 0
Keeps op first values old new =
    (before : List ℕ) (kept : Option ℤ) → length before ≡ first → old ≡ before ++ kept_text kept
    → new ≡ before ++ kept_text (fold (kept_with op) kept (numbers_of values))
