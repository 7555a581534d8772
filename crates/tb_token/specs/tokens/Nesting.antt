-- How many tokens are open at once, each opened by some terminals and closed by others.
use Rattle.std.specs.Prelude.{ℕ, ◌+◌, ◌-◌, Bool, false, ◌||◌, nat_lt, if◌then◌else◌, List, [], ◌∷◌}
use Rattle.tb_token.specs.grammar.Grammar.{Tok, has}
use Rattle.tb_token.specs.tokens.TerminalNames.{terminals_of}

-- how many are open behind the terminal, where so many are before it
abbrev pub open_behind : List ℕ → List ℕ → ℕ → ℕ → ℕ
open_behind opening closing depth x =
    if has opening x then depth + 1 else (if has closing x then depth - 1 else depth)

-- somewhere more than 32 are open
abbrev pub nests_past : List ℕ → List ℕ → ℕ → List ℕ → Bool
nests_past opening closing depth [] = false
nests_past opening closing depth (x ∷ xs) =
    let behind = open_behind opening closing depth x in
    nat_lt 32 behind || nests_past opening closing behind xs

abbrev pub is_too_nested : List ℕ → List ℕ → List Tok → Bool
is_too_nested opening closing s = nests_past opening closing 0 (terminals_of s)
