-- Where a body may end: lines that begin with a dot.
use Rattle.std.specs.Prelude.{◌≡◌, ℕ, ◌+◌, ◌<◌, ◌≤◌, Bool, true, false, not, ◌&&◌, ◌==◌, List, [], ◌∷◌, ◌++◌, Option, Some, None, length, take}
use Rattle.tb_script.specs.Lines.{whole_lines}
use Rattle.tb_script.specs.Entries.{load_body, left_open, entries}

-- no line begins with a dot, where one begins at the first byte or not
abbrev pub is_dotless : Bool → List ℕ → Bool
is_dotless begins [] = true
is_dotless begins (b ∷ bs) = not (begins && b == 46) && is_dotless (b == 10) bs

abbrev pub begins_with_dot : List ℕ → Bool
begins_with_dot [] = false
begins_with_dot (b ∷ bs) = b == 46

-- a line begins behind the bytes
abbrev pub begins_behind : Bool → List ℕ → Bool
begins_behind begins [] = begins
begins_behind begins (b ∷ bs) = begins_behind (b == 10) bs

-- the first line that begins with a dot begins there, or none does
abbrev pub NextDot : List ℕ → Option ℕ → Type 0
NextDot bytes (Some at) =
    (at < length bytes) × (is_dotless true (take at bytes) ≡ true) × (begins_behind true (take at bytes) ≡ true)
NextDot bytes None = is_dotless true bytes ≡ true

-- The bytes from a line on, and its number.
pub record FromLine : Type 0 where
  pub rest : List ℕ
  pub line : ℕ

-- A load's body goes on at that line with the bytes passed in it, none of which ends it.
pub record Passes (bytes : List ℕ) (n : ℕ) (from : FromLine) : Type 0 where
  pub passed : List ℕ
  pub joined : bytes ≡ passed ++ from.rest
  pub same :
      (at : ℕ) (name kept : List ℕ)
      → entries (load_body at name kept) n (whole_lines bytes)
      ≡ entries (load_body at name (kept ++ passed)) from.line (whole_lines from.rest)
  pub some : 0 < length from.rest
  pub numbers : from.line + length from.rest ≤ n + length bytes
  pub later : n ≤ from.line

-- a line that may end the body, or none where the body has no end
abbrev pub NextDotted : List ℕ → ℕ → Option FromLine → Type 0
NextDotted bytes n (Some from) = Passes bytes n from
NextDotted bytes n None =
    (at : ℕ) (name kept : List ℕ)
    → entries (load_body at name kept) n (whole_lines bytes) ≡ left_open (load_body at name (kept ++ bytes))
