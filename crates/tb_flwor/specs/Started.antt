-- What one token does with the constructors that are open, the last one first, where the next token
-- has this name; and with the attributes of the last one, where these tokens follow it.
use Rattle.std.specs.Prelude.{ℕ, Bool, ◌==◌, ◌&&◌, ◌||◌, not, if◌then◌else◌, List, [], ◌∷◌, ◌++◌}
use Rattle.std.specs.List.{list_any}
use Rattle.std.specs.Str.{bytes_eq}
use Rattle.tb_token.specs.grammar.Grammar.{Tok}
use Rattle.tb_token.specs.tokens.TerminalNames as terminals
use Rattle.tb_flwor.specs.Constructors.{is_ended_by, closed, is_named}

-- the token begins an end tag that has not the name of its start
abbrev pub is_wrong_end : List (List ℕ) → ℕ → List ℕ → Bool
is_wrong_end started x name = x == terminals.END_TAG && not (is_ended_by started name)

-- the constructors that are open behind the token
abbrev pub started_behind : List (List ℕ) → ℕ → List ℕ → List (List ℕ)
started_behind started x name =
    if x == terminals.LESS then name ∷ started
    else (if x == terminals.SELF_CLOSE || x == terminals.END_TAG then closed started else started)

-- the token is an attribute's name that is among these
abbrev pub is_repeated : List (List ℕ) → Tok → List Tok → Bool
is_repeated names t s =
    not (t.terminal == terminals.LESS) && (is_named s && list_any (bytes_eq t.bytes) names)

-- the names of the attributes behind the token
abbrev pub attributes_behind : List (List ℕ) → Tok → List Tok → List (List ℕ)
attributes_behind names t s =
    if t.terminal == terminals.LESS then []
    else (if is_named s then names ++ t.bytes ∷ [] else names)
