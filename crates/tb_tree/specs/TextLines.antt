-- The lines of a text: each ends with byte 10, before which one byte 13 is no part of the line.
use Rattle.std.specs.Prelude.{◌≡◌, ◌≢◌, ◌++◌, ◌⊎◌, ℕ, ◌-◌, ◌<◌, ◌≤◌, Bool, false, ◌&&◌, ◌==◌, if◌then◌else◌, List, [], ◌∷◌, Option, Some, None, length, take, drop, slice_index}

-- the bytes begin with a line's end
abbrev pub begins_with_end : List ℕ → Bool
begins_with_end [] = false
begins_with_end (b ∷ bs) = b == 10

-- the first line with one byte more before it
abbrev pub before_first : ℕ → List (List ℕ) → List (List ℕ)
before_first b [] = (b ∷ []) ∷ []
before_first b (line ∷ lines) = (b ∷ line) ∷ lines

-- the lines without their ends; a last line without an end counts where it isn't empty
abbrev pub lines_in : List ℕ → List (List ℕ)
lines_in [] = []
lines_in (b ∷ bs) =
    if b == 10 then [] ∷ lines_in bs
    else (if b == 13 && begins_with_end bs then lines_in bs else before_first b (lines_in bs))

-- The line stands first, and the rest follows its end. With its end it has the first `taken` bytes.
pub record CutsLine (bytes line rest : List ℕ) : Type 0 where
  pub taken : ℕ
  pub kept : ℕ
  pub some : 0 < taken
  pub within : taken ≤ length bytes
  pub fits : kept ≤ taken
  pub ended : (slice_index bytes (taken - 1) ≡ 10) ⊎ (taken ≡ length bytes)
  pub line_is : line ≡ take kept bytes
  pub rest_is : rest ≡ drop taken bytes
  pub lines : lines_in bytes ≡ line ∷ lines_in rest

-- the first line and the rest, or none where there is no byte
abbrev pub NextLine : List ℕ → Option (List ℕ × List ℕ) → Type 0
NextLine bytes (Some found) = CutsLine bytes found.0 found.1
NextLine bytes None = bytes ≡ []

-- what follows the line and its byte 10, or none where the bytes begin otherwise
abbrev pub BehindLine : List ℕ → List ℕ → Option (List ℕ) → Type 0
BehindLine bytes line (Some rest) = bytes ≡ line ++ 10 ∷ rest
BehindLine bytes line None = (rest : List ℕ) → bytes ≢ line ++ 10 ∷ rest

-- what stands before byte 10, without one byte 13 at its end
abbrev pub without_return : List ℕ → List ℕ
without_return line =
    if slice_index line (length line - 1) == 13 then take (length line - 1) line else line
