-- The variables of a query of clauses, over its tokens. A variable is bound where IN, ALLOWING or
-- `:=` follows it; everywhere else it is used.
use Rattle.std.specs.Prelude.{ℕ, ◌-◌, Bool, false, ◌&&◌, ◌==◌, if◌then◌else◌, List, [], ◌∷◌, ◌++◌, length, take, Option, Some, None}
use Rattle.std.specs.List.{list_any}
use Rattle.std.specs.Str.{bytes_eq}
use Rattle.tb_token.specs.grammar.Grammar.{Tok, has}
use Rattle.tb_token.specs.tokens.TerminalNames as terminals

-- the tokens begin with the keyword MATCH
abbrev pub is_match : List Tok → Bool
is_match [] = false
is_match (t ∷ s) = t.terminal == terminals.MATCH

-- the tokens of a query of clauses; a `MATCH` query has neither variables nor constructors
abbrev pub clauses_in : List Tok → List Tok
clauses_in s = if is_match s then [] else s

abbrev pub is_variable : ℕ → Bool
is_variable x = x == terminals.VARIABLE

-- IN, ALLOWING or `:=` comes next
abbrev pub binds : List Tok → Bool
binds [] = false
binds (t ∷ s) =
    has (terminals.IN ∷ terminals.ALLOWING
    ∷ terminals.ASSIGN ∷ []) t.terminal

-- the names that are bound, in order, each with its `$`
abbrev pub bound : List Tok → List (List ℕ)
bound [] = []
bound (t ∷ s) = if is_variable t.terminal && binds s then t.bytes ∷ bound s else bound s

-- the name is among these
abbrev pub is_known : List (List ℕ) → List ℕ → Bool
is_known known name = list_any (bytes_eq name) known

-- the first binding of a name that is among these or was bound before
abbrev pub repeated_behind : List (List ℕ) → List Tok → Option ℕ
repeated_behind known [] = None
repeated_behind known (t ∷ s) =
    if is_variable t.terminal && binds s
    then (if is_known known t.bytes then Some t.number else repeated_behind (known ++ t.bytes ∷ []) s)
    else repeated_behind known s

-- the first binding of a name that an earlier binding has
abbrev pub first_repeated : List Tok → Option ℕ
first_repeated s = repeated_behind [] s

-- IN or `:=`, behind which a path begins: that of the variable that was bound last
abbrev pub begins_path : ℕ → Bool
begins_path x = has (terminals.IN ∷ terminals.ASSIGN ∷ []) x

-- The names that are known behind a token, where these are bound: a variable is not known in its
-- own path.
abbrev pub known_behind : ℕ → List (List ℕ) → List (List ℕ)
known_behind before names = if begins_path before then take (length names - 1) names else names

-- the first use of a name that is not known there, where these are bound and the token before is
-- of that terminal
abbrev pub unknown_behind : ℕ → List (List ℕ) → List Tok → Option ℕ
unknown_behind before names [] = None
unknown_behind before names (t ∷ s) =
    if is_variable t.terminal
    then (if binds s then unknown_behind t.terminal (names ++ t.bytes ∷ []) s
    else (if is_known (known_behind before names) t.bytes then unknown_behind t.terminal names s
    else Some t.number))
    else unknown_behind t.terminal names s

-- the first use of a variable with no binding whose path ends before that use
abbrev pub first_unknown : List Tok → Option ℕ
first_unknown s = unknown_behind terminals.FOR [] s
