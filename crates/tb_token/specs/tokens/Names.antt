-- Names, and the keywords of the language.
use Rattle.std.specs.Prelude.{ℕ, Bool, true, false, ◌&&◌, ◌||◌, ◌==◌, List, [], ◌∷◌, map, codes}
use Rattle.std.specs.Char.{to_ascii_lowercase}
use Rattle.std.specs.List.{list_any}
use Rattle.std.specs.Str.{bytes_eq}
use Rattle.tb_token.specs.tokens.Bytes.{is_digit, starts_name}

-- a byte stands at the beginning that a name begins with
abbrev pub begins_name : List ℕ → Bool
begins_name [] = false
begins_name (b ∷ bs) = starts_name b

-- whether a name goes on with the byte: a byte that may begin one, a digit, `-` or `.`; or `:`,
-- where a byte that may begin a name follows
abbrev pub goes_on : ℕ → List ℕ → Bool
goes_on b behind =
    starts_name b || is_digit b || b == 45 || b == 46 || (b == 58 && begins_name behind)

-- a name goes on to the end of the bytes
abbrev pub all_go_on : List ℕ → Bool
all_go_on [] = true
all_go_on (b ∷ bs) = goes_on b bs && all_go_on bs

abbrev pub is_name : List ℕ → Bool
is_name [] = false
is_name (b ∷ bs) = starts_name b && all_go_on bs

-- the keywords in capitals
abbrev pub keywords : List (List ℕ)
keywords =
    codes "FOR" ∷ codes "LET" ∷ codes "IN" ∷ codes "ALLOWING" ∷ codes "EMPTY" ∷ codes "WHERE"
    ∷ codes "AND" ∷ codes "GROUP" ∷ codes "ORDER" ∷ codes "BY" ∷ codes "ASCENDING"
    ∷ codes "DESCENDING" ∷ codes "RETURN" ∷ codes "MATCH" ∷ codes "DOCUMENT" ∷ codes "COUNT"
    ∷ codes "SUM" ∷ codes "MIN" ∷ codes "MAX" ∷ []

-- the bytes are one of these texts
abbrev pub is_among : List ℕ → List (List ℕ) → Bool
is_among bytes texts = list_any (bytes_eq bytes) texts

-- a keyword, all of it in capitals or all in small letters
abbrev pub is_keyword : List ℕ → Bool
is_keyword bytes = is_among bytes keywords || is_among bytes (map (map to_ascii_lowercase) keywords)
