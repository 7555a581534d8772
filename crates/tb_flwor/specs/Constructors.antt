-- The constructors of a query of clauses, over the tokens behind its keyword RETURN: there each `<`
-- begins one, `/>` and `</` end it, and an attribute's name is the token directly before `=`.
use Rattle.std.specs.Prelude.{ℕ, Bool, false, ◌&&◌, ◌==◌, not, if◌then◌else◌, List, [], ◌∷◌, ◌++◌, Option, Some, None}
use Rattle.std.specs.List.{list_any}
use Rattle.std.specs.Str.{bytes_eq}
use Rattle.tb_token.specs.grammar.Grammar.{Tok, has}
use Rattle.tb_token.specs.tokens.Nesting.{is_too_nested}
use Rattle.tb_token.specs.tokens.TerminalNames as terminals

-- an axis or `@`, behind which every keyword is a name
abbrev pub before_name : ℕ → Bool
before_name x = has (terminals.SLASH ∷ terminals.DOUBLE_SLASH ∷ terminals.AT ∷ []) x

-- what stands behind the keyword RETURN, where the token before is of that terminal
abbrev pub behind_return : ℕ → List Tok → List Tok
behind_return before [] = []
behind_return before (t ∷ s) =
    if t.terminal == terminals.RETURN && not (before_name before) then s
    else behind_return t.terminal s

-- what a query of clauses returns
abbrev pub results : List Tok → List Tok
results s = behind_return terminals.FOR s

-- more than 32 constructors are inside each other
abbrev pub is_nested : List Tok → Bool
is_nested s =
    is_too_nested (terminals.LESS ∷ []) (terminals.SELF_CLOSE ∷ terminals.END_TAG ∷ []) s

-- the bytes and the number of the next token
abbrev pub next_bytes : List Tok → List ℕ
next_bytes [] = []
next_bytes (t ∷ s) = t.bytes

abbrev pub next_number : List Tok → ℕ
next_number [] = 0
next_number (t ∷ s) = t.number

-- the constructor that was opened last has this name, where these are open, the last one first
abbrev pub is_ended_by : List (List ℕ) → List ℕ → Bool
is_ended_by [] name = false
is_ended_by (n ∷ started) name = bytes_eq n name

-- without the one that was opened last
abbrev pub closed : List (List ℕ) → List (List ℕ)
closed [] = []
closed (n ∷ started) = started

-- the first end tag's name token that is not the name of its start, where these are open
abbrev pub wrong_behind : List (List ℕ) → List Tok → Option ℕ
wrong_behind started [] = None
wrong_behind started (t ∷ s) =
    if t.terminal == terminals.LESS then wrong_behind (next_bytes s ∷ started) s
    else (if t.terminal == terminals.SELF_CLOSE then wrong_behind (closed started) s
    else (if t.terminal == terminals.END_TAG
    then (if is_ended_by started (next_bytes s) then wrong_behind (closed started) s else Some (next_number s))
    else wrong_behind started s))

-- the first end tag's name token that is not the name of its start
abbrev pub first_wrong_tag : List Tok → Option ℕ
first_wrong_tag s = wrong_behind [] s

-- `=` comes next
abbrev pub is_named : List Tok → Bool
is_named [] = false
is_named (t ∷ s) = t.terminal == terminals.EQUAL

-- the first attribute's name token that is among these names of its constructor, or stands earlier
-- in it
abbrev pub repeated_in : List (List ℕ) → List Tok → Option ℕ
repeated_in names [] = None
repeated_in names (t ∷ s) =
    if t.terminal == terminals.LESS then repeated_in [] s
    else (if is_named s
    then (if list_any (bytes_eq t.bytes) names then Some t.number else repeated_in (names ++ t.bytes ∷ []) s)
    else repeated_in names s)

-- the first attribute's name token that stands earlier in the same constructor
abbrev pub first_repeated_attribute : List Tok → Option ℕ
first_repeated_attribute s = repeated_in [] s
