-- The tokens that the grammar of queries names.
use Rattle.std.specs.Prelude.{ℕ, List, [], ◌∷◌, map, codes}
use Rattle.tb_token.specs.grammar.Grammar.{Expression, one, both, many}
use Rattle.tb_token.specs.tokens.Names.{keywords}
use Rattle.tb_token.specs.tokens.Lexemes.{terminal_of}
use Rattle.tb_token.specs.declared.lexer.token.Kind.TheVariants.{Name, Word, Variable, Number, Quoted, TextTest, Sign}

-- the keyword, in capitals or in small letters
abbrev pub keyword : List ℕ → Expression
keyword text = one (terminal_of Word text ∷ [])

-- the sign
abbrev pub sign : List ℕ → Expression
sign text = one (terminal_of Sign text ∷ [])

-- one of the signs
abbrev pub sign_among : List (List ℕ) → Expression
sign_among texts = one (map (terminal_of Sign) texts)

-- a name, or any keyword in its place
abbrev pub name : Expression
name = one (terminal_of Name [] ∷ map (terminal_of Word) keywords)

-- `$` and a name
abbrev pub variable : Expression
variable = one (terminal_of Variable [] ∷ [])

-- digits
abbrev pub number : Expression
number = one (terminal_of Number [] ∷ [])

-- bytes between quotes
abbrev pub string : Expression
string = one (terminal_of Quoted [] ∷ [])

-- `text()`
abbrev pub text_test : Expression
text_test = one (terminal_of TextTest [] ∷ [])

-- the expression once or more, with this between
abbrev pub list_of : Expression → Expression → Expression
list_of between p = both p (many (both between p))

-- what stands between the expressions of most lists
abbrev pub comma : Expression
comma = sign (codes ",")
