-- Names of elements and attributes.
use Rattle.std.specs.Prelude.{ℕ, Bool, false, ◌&&◌, not, nat_le, ◌==◌, List, [], ◌∷◌}
use Rattle.std.specs.List.{list_all}

-- a byte of a name: no blank or control byte, not 127, and not the backslash
abbrev pub is_name_byte : ℕ → Bool
is_name_byte b = nat_le 33 b && not (b == 127) && not (b == 92)

-- one byte of a name or more
abbrev pub is_name : List ℕ → Bool
is_name [] = false
is_name (b ∷ bs) = is_name_byte b && list_all is_name_byte bs
