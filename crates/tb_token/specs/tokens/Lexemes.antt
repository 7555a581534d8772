-- Tokens as the grammar of queries sees them.
use Rattle.std.specs.Prelude.{◌≡◌, ℕ, ◌+◌, ◌-◌, true, if◌then◌else◌, List, [], ◌∷◌, take, drop, map, ⊤}
use Rattle.std.specs.Char.{to_ascii_uppercase}
use Rattle.std.specs.Str.{bytes_eq}
use Rattle.tb_token.specs.grammar.Grammar.{Tok}
use Rattle.tb_token.specs.tokens.Names.{keywords}
use Rattle.tb_token.specs.tokens.Kinds.{is_number, signs}
use Rattle.tb_token.specs.declared.lexer.token.Kind.{Kind}
use Rattle.tb_token.specs.declared.lexer.token.Kind.TheVariants.{Name, Word, Variable, Number, Quoted, TextTest, Sign}
use Rattle.tb_token.specs.declared.lexer.token.Token.{Token}

-- how far the text stands in the list, from 0; the list's length where it stands nowhere
abbrev pub place_in : List ℕ → List (List ℕ) → ℕ
place_in bytes [] = 0
place_in bytes (t ∷ ts) = if bytes_eq bytes t then 0 else 1 + place_in bytes ts

-- The terminal of a token: one for each kind but keywords and signs, of which each has its own, whatever
-- the case of a keyword.
abbrev pub terminal_of : Kind → List ℕ → ℕ
terminal_of Name bytes = 0
terminal_of Variable bytes = 1
terminal_of Number bytes = 2
terminal_of Quoted bytes = 3
terminal_of TextTest bytes = 4
terminal_of Sign bytes = 8 + place_in bytes signs
terminal_of Word bytes = 64 + place_in (map to_ascii_uppercase bytes) keywords

-- a token's bytes
abbrev pub bytes_of : List ℕ → Token → List ℕ
bytes_of text t = take (t.to - t.from) (drop t.from text)

-- the token of this number for the grammar
abbrev pub tok_of : List ℕ → Token → ℕ → Tok
tok_of text t n =
    record { terminal = terminal_of t.kind (bytes_of text t); bytes = bytes_of text t; number = n }

-- the tokens of a text for the grammar, the first of which has number n
abbrev pub toks_from : ℕ → List ℕ → List Token → List Tok
toks_from n text [] = []
toks_from n text (t ∷ ts) = tok_of text t n ∷ toks_from (n + 1) text ts

-- the tokens of a text for the grammar, with numbers from 1
abbrev pub toks_of : List ℕ → List Token → List Tok
toks_of text ts = toks_from 1 text ts

-- each token with the terminal of a number is digits
abbrev pub HaveDigits : List Tok → Type 0
HaveDigits [] = ⊤
HaveDigits (t ∷ s) = (t.terminal ≡ terminal_of Number [] → is_number t.bytes ≡ true) × HaveDigits s
