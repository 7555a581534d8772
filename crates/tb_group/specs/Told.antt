-- Values that are told by spans of one list of bytes.
use Rattle.std.specs.Prelude.{◌≡◌, ℕ, ◌≤◌, List, [], ◌∷◌, ◌++◌, Option, Some, None, if◌then◌else◌, nat_lt, length}
use Rattle.tb_table.specs.declared.parts.Span.{Span}
use Rattle.tb_table.specs.Layout.{span_of}

-- what a span tells: no value where it ends before it begins
abbrev pub value_at : List ℕ → Span → Option (List ℕ)
value_at bytes s = if nat_lt s.end s.first then None else Some (span_of bytes s)

-- the bytes have grown at their end, and the span tells the value
pub record IsTold (value : Option (List ℕ)) (before after : List ℕ) (span : Span) : Type 0 where
  pub more : List ℕ
  pub grown : after ≡ before ++ more
  pub within : span.end ≤ length after
  pub told : value_at after span ≡ value

-- a text, or no value where it has no byte
abbrev pub text_behind : List ℕ → Option (List ℕ)
text_behind [] = None
text_behind (b ∷ bs) = Some (b ∷ bs)

-- of what may be past the range it is given, and told
abbrev pub IsToldOf : Option (Option (List ℕ)) → List ℕ → List ℕ → Span → Type 0
IsToldOf None before after span = ⊥
IsToldOf (Some value) before after span = IsTold value before after span
