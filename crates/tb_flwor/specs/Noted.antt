-- What one token does with variables, where these tokens follow it.
use Rattle.std.specs.Prelude.{ℕ, Bool, ◌&&◌, not, if◌then◌else◌, List, [], ◌∷◌, ◌++◌}
use Rattle.tb_token.specs.grammar.Grammar.{Tok}
use Rattle.tb_flwor.specs.Variables.{is_variable, binds}

-- the token binds a variable
abbrev pub is_bound : Tok → List Tok → Bool
is_bound t s = is_variable t.terminal && binds s

-- the token uses a variable
abbrev pub is_used : Tok → List Tok → Bool
is_used t s = is_variable t.terminal && not (binds s)

-- the names, with that of the token where it binds a variable
abbrev pub noted : List (List ℕ) → Tok → List Tok → List (List ℕ)
noted names t s = if is_bound t s then names ++ t.bytes ∷ [] else names
