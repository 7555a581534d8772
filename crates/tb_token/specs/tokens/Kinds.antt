-- Which bytes are a token, and of which kind.
use Rattle.std.specs.Prelude.{ℕ, Bool, true, false, ◌&&◌, ◌==◌, nat_lt, not, if◌then◌else◌, List, [], ◌∷◌, length, codes}
use Rattle.std.specs.List.{list_all}
use Rattle.tb_token.specs.tokens.Bytes.{is_digit, is_quote}
use Rattle.tb_token.specs.tokens.Names.{is_name, is_keyword, is_among}
use Rattle.tb_token.specs.declared.lexer.token.Kind.{Kind}
use Rattle.tb_token.specs.declared.lexer.token.Kind.TheVariants.{Name, Word, Variable, Number, Quoted, TextTest, Sign}

-- `$` and, directly, a name
abbrev pub is_variable : List ℕ → Bool
is_variable [] = false
is_variable (b ∷ bs) = b == 36 && is_name bs

-- one digit or more
abbrev pub is_number : List ℕ → Bool
is_number bytes = nat_lt 0 (length bytes) && list_all is_digit bytes

abbrev pub is_none : List ℕ → Bool
is_none [] = true
is_none (b ∷ bs) = false

-- the first such quote is the last byte
abbrev pub is_closed : ℕ → List ℕ → Bool
is_closed q [] = false
is_closed q (b ∷ bs) = if b == q then is_none bs else is_closed q bs

-- a quote, any other bytes than this quote, and the same quote
abbrev pub is_quoted : List ℕ → Bool
is_quoted [] = false
is_quoted (q ∷ bs) = is_quote q && is_closed q bs

-- `text()` or `TEXT()`
abbrev pub is_text_test : List ℕ → Bool
is_text_test bytes = is_among bytes (codes "text()" ∷ codes "TEXT()" ∷ [])

abbrev pub signs : List (List ℕ)
signs =
    codes "//" ∷ codes "/>" ∷ codes "/" ∷ codes "</" ∷ codes "<=" ∷ codes "<"
    ∷ codes ">=" ∷ codes ">" ∷ codes "!=" ∷ codes "!" ∷ codes "=" ∷ codes ":="
    ∷ codes "(" ∷ codes ")" ∷ codes "[" ∷ codes "]" ∷ codes "{" ∷ codes "}"
    ∷ codes "," ∷ codes "@" ∷ codes "*" ∷ codes "-" ∷ codes "+" ∷ codes "?" ∷ []

-- the bytes are a token of this kind
abbrev pub is_token : Kind → List ℕ → Bool
is_token Name bytes = is_name bytes && not (is_keyword bytes)
is_token Word bytes = is_keyword bytes
is_token Variable bytes = is_variable bytes
is_token Number bytes = is_number bytes
is_token Quoted bytes = is_quoted bytes
is_token TextTest bytes = is_text_test bytes
is_token Sign bytes = is_among bytes signs
