-- Which values a condition holds for.
use Rattle.std.specs.Prelude.{Bool, ℕ, List}
use Rattle.std.specs.List.{list_all}
use Rattle.tb_number.specs.Values.{stands_to_number, stands_to_bytes}
use Rattle.tb_number.specs.declared.op.CmpOp.{CmpOp}
use Rattle.tb_pattern.specs.declared.cond.Cond.{Cond}
use Rattle.tb_pattern.specs.declared.cond.Literal.{Literal}
use Rattle.tb_pattern.specs.declared.cond.Literal.TheVariants.{Number, Text}

-- Whether the value stands so to the literal: to a number as an integer text, by its number, and to
-- a text by bytes.
abbrev pub stands : CmpOp → List ℕ → Literal → Bool
stands op value (Number n) = stands_to_number op value n
stands op value (Text text) = stands_to_bytes op value text

-- every condition holds for the value
abbrev pub all_hold : List Cond → List ℕ → Bool
all_hold conds value = list_all (λ cond. stands cond.op value cond.with) conds
