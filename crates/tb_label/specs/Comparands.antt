-- What the value of a node is compared with, and what a comparison says of it.
use Rattle.std.specs.Prelude.{Bool, ℕ, List}
use Rattle.tb_number.specs.Values.{stands_to_number, stands_to_bytes, stands_to_value}
use Rattle.tb_number.specs.declared.op.CmpOp.{CmpOp}
use Rattle.tb_label.specs.declared.comparand.Comparand.{Comparand}
use Rattle.tb_label.specs.declared.comparand.Comparand.TheVariants.{Number, Bytes, Value}

-- the value stands so to a number, to bytes, or to another value
abbrev pub stands_to : CmpOp → List ℕ → Comparand → Bool
stands_to op value (Number n) = stands_to_number op value n
stands_to op value (Bytes bytes) = stands_to_bytes op value bytes
stands_to op value (Value other) = stands_to_value op value other
