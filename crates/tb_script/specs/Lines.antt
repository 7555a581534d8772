-- The lines of a script with their ends, so that a body can be kept as it was read.
use Rattle.std.specs.Prelude.{ℕ, ◌&&◌, ◌==◌, if◌then◌else◌, List, [], ◌∷◌}
use Rattle.tb_tree.specs.TextLines.{begins_with_end, before_first}

-- each line with its end; a last line without an end counts where it isn't empty
abbrev pub whole_lines : List ℕ → List (List ℕ)
whole_lines [] = []
whole_lines (b ∷ bs) =
    if b == 10 then (10 ∷ []) ∷ whole_lines bs else before_first b (whole_lines bs)

-- the line without its end, byte 10 and one byte 13 before it
abbrev pub text_of : List ℕ → List ℕ
text_of [] = []
text_of (b ∷ bs) =
    if b == 10 then [] else (if b == 13 && begins_with_end bs then [] else b ∷ text_of bs)
