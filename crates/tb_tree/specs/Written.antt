-- What the printer appends, and how it cuts a value at the bytes that are escaped.
use Rattle.std.specs.Prelude.{◌≡◌, ℕ, Bool, true, false, ◌&&◌, not, nat_le, ◌==◌, List, [], ◌∷◌, ◌++◌, Option, Some, None}
use Rattle.std.specs.List.{list_all}

-- the new bytes are the old ones and more
abbrev pub IsGrown : List ℕ → List ℕ → Type 0
IsGrown old new = (more : List ℕ) × (new ≡ old ++ more)

-- a line of a leading byte and a name
abbrev pub named_line : ℕ → List ℕ → List ℕ
named_line lead name = lead ∷ (name ++ 10 ∷ [])

-- a byte that prints as it is
abbrev pub is_plain : ℕ → Bool
is_plain b = nat_le 32 b && not (b == 127) && not (b == 92)

-- the bytes have one that is escaped where they print
abbrev pub has_escape : List ℕ → Bool
has_escape value = not (list_all is_plain value)

-- the bytes are a run of plain ones, the first byte that is escaped, and what follows it
pub record CutsEscape (bytes run : List ℕ) (byte : ℕ) (behind : List ℕ) : Type 0 where
  pub whole : bytes ≡ run ++ byte ∷ behind
  pub plain : list_all is_plain run ≡ true
  pub escaped : is_plain byte ≡ false

-- such a cut, or none where all bytes are plain
abbrev pub NextEscape : List ℕ → Option (List ℕ × ℕ × List ℕ) → Type 0
NextEscape bytes (Some cut) = CutsEscape bytes cut.0 cut.1 cut.2
NextEscape bytes None = list_all is_plain bytes ≡ true
