-- What an escape comes to in the program: words of private clauses.
use Rattle.std.specs.Prelude.{◌≡◌, ℕ, Bool, true, false, List, [], ◌∷◌, ◌++◌, Some, None, encode_utf8}
use Rattle.tb_tree.specs.declared.unescaped.Given.{Given}
use Rattle.tb_tree.specs.declared.unescaped.Given.TheVariants.{Nothing, Byte, Scalar}
use Rattle.tb_tree.specs.Escapes.{Escape, unescaped}

abbrev pub bytes_given : Given → List ℕ
bytes_given Nothing = []
bytes_given (Byte b) = b ∷ []
bytes_given (Scalar c) = encode_utf8 c

abbrev pub escape_given : Given → ℕ → Escape
escape_given given takes = record { gives = bytes_given given; takes = takes }

-- the bytes grew by what the raw ones give, or a backslash among these begins no escape
abbrev pub Unescapes : List ℕ → List ℕ → List ℕ → Bool → Type 0
Unescapes raw old new true = (given : List ℕ) × (unescaped raw ≡ Some given) × (new ≡ old ++ given)
Unescapes raw old new false = unescaped raw ≡ None
