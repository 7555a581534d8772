-- The forms of a line, and the names in it.
use Rattle.std.specs.Prelude.{ℕ, Bool, true, ◌&&◌, ◌||◌, nat_le, nat_eq, ◌==◌, if◌then◌else◌, List, [], ◌∷◌, length, drop, codes}
use Rattle.std.specs.List.{list_all, starts_with}
use Rattle.std.specs.Str.{bytes_eq}
use Rattle.tb_script.specs.declared.form.Form.{Form}
use Rattle.tb_script.specs.declared.form.Form.TheVariants.{Passed, Unknown, Session, Load, Query, Tell, Hear}

-- a letter, a digit, `_`, `-` or `.`
abbrev pub is_label_byte : ℕ → Bool
is_label_byte b =
    (nat_le 97 b && nat_le b 122) || (nat_le 65 b && nat_le b 90) || (nat_le 48 b && nat_le b 57)
    || b == 95 || b == 45 || b == 46

-- a name of a document or a mark: 1 to 64 such bytes
abbrev pub is_label : List ℕ → Bool
is_label bytes = nat_le 1 (length bytes) && nat_le (length bytes) 64 && list_all is_label_byte bytes

-- an empty line, or one that begins with `#`
abbrev pub is_passed : List ℕ → Bool
is_passed [] = true
is_passed (b ∷ bs) = b == 35

-- the body ends at a line that is `.` alone
abbrev pub is_dot : List ℕ → Bool
is_dot line = bytes_eq line (codes ".")

-- what a line outside a body is; anything may follow the one space
abbrev pub form_of : List ℕ → Form
form_of line =
    if is_passed line then Passed
    else (if bytes_eq line (codes "session") then Session
    else (if bytes_eq line (codes "query") then Query
    else (if starts_with nat_eq line (codes "load ") then Load
    else (if starts_with nat_eq line (codes "tell ") then Tell
    else (if starts_with nat_eq line (codes "hear ") then Hear else Unknown)))))

-- what follows the five bytes `load `, `tell ` or `hear `
abbrev pub name_in : List ℕ → List ℕ
name_in line = drop 5 line
