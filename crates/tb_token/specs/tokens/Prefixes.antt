-- The longest token at the beginning of bytes, as the program finds it.
use Rattle.std.specs.Prelude.{ℕ, ◌+◌, Bool, ◌&&◌, ◌||◌, ◌==◌, nat_eq, nat_lt, if◌then◌else◌, List, [], ◌∷◌, length, take, Option, Some, None, codes}
use Rattle.std.specs.List.{prefix_len, position_or_len, starts_with, list_any}
use Rattle.tb_token.specs.tokens.Bytes.{is_digit, is_quote, starts_name}
use Rattle.tb_token.specs.tokens.Names.{goes_on, is_keyword}
use Rattle.tb_token.specs.tokens.Cuts.{IsLongest, BeginsNone}
use Rattle.tb_token.specs.declared.lexer.token.Kind.{Kind}
use Rattle.tb_token.specs.declared.lexer.token.Kind.TheVariants.{Name, Word, Variable, Number, Quoted, TextTest, Sign}
use Rattle.tb_token.specs.declared.lexer.prefix.Prefix.{Prefix}

-- what was found at the beginning: the longest token, or that there is none
abbrev pub Finds : List ℕ → Option Prefix → Type 0
Finds bytes None = BeginsNone bytes
Finds bytes (Some prefix) = IsLongest bytes prefix.kind prefix.size

abbrev pub found : Kind → ℕ → Option Prefix
found kind size = Some (record { kind = kind; size = size })

-- how many bytes go on with a name
abbrev pub rest_len : List ℕ → ℕ
rest_len [] = 0
rest_len (b ∷ bs) = if goes_on b bs then 1 + rest_len bs else 0

abbrev pub begins_text_test : List ℕ → Bool
begins_text_test bytes =
    starts_with nat_eq bytes (codes "text()") || starts_with nat_eq bytes (codes "TEXT()")

-- the token of bytes whose longest name has this size
abbrev pub named : List ℕ → ℕ → Option Prefix
named bytes size =
    if begins_text_test bytes then found TextTest 6
    else (if is_keyword (take size bytes) then found Word size else found Name size)

-- the bytes behind such a quote, up to the next one
abbrev pub quoted : ℕ → List ℕ → Option Prefix
quoted q bs =
    let inside = position_or_len (λ b. b == q) bs in
    if nat_lt inside (length bs) then found Quoted (inside + 2) else None

-- the bytes behind `$`
abbrev pub variable : List ℕ → Option Prefix
variable [] = None
variable (b ∷ bs) = if starts_name b then found Variable (2 + rest_len bs) else None

-- a sign of two bytes
abbrev pub is_pair : ℕ → ℕ → Bool
is_pair a b =
    (a == 47 && (b == 47 || b == 62)) || (a == 60 && (b == 47 || b == 61))
    || ((a == 62 || a == 33 || a == 58) && b == 61)

-- a sign of one byte
abbrev pub is_single : ℕ → Bool
is_single b = list_any (nat_eq b) (codes "/<>!=()[]{},@*-+?")

abbrev pub single : ℕ → Option Prefix
single a = if is_single a then found Sign 1 else None

abbrev pub sign : ℕ → List ℕ → Option Prefix
sign a [] = single a
sign a (b ∷ bs) = if is_pair a b then found Sign 2 else single a

-- the longest token at the beginning
abbrev pub prefix_of : List ℕ → Option Prefix
prefix_of [] = None
prefix_of (b ∷ bs) =
    if starts_name b then named (b ∷ bs) (1 + rest_len bs)
    else (if is_digit b then found Number (1 + prefix_len is_digit bs)
    else (if is_quote b then quoted b bs
    else (if b == 36 then variable bs else sign b bs)))
