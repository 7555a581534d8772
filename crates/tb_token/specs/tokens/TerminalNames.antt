-- The terminals of tokens by name: what the program has in `terminals`.
use Rattle.std.specs.Prelude.{ℕ, Bool, ◌==◌, List, [], ◌∷◌, map, codes}
use Rattle.tb_token.specs.grammar.Grammar.{Tok}
use Rattle.tb_token.specs.tokens.Names.{keywords}
use Rattle.tb_token.specs.tokens.Lexemes.{terminal_of}
use Rattle.tb_token.specs.declared.lexer.token.Kind.TheVariants.{Name, Word, Variable, Number, Quoted, TextTest, Sign}

abbrev pub NAME : ℕ
NAME = terminal_of Name []

abbrev pub VARIABLE : ℕ
VARIABLE = terminal_of Variable []

abbrev pub NUMBER : ℕ
NUMBER = terminal_of Number []

abbrev pub QUOTED : ℕ
QUOTED = terminal_of Quoted []

abbrev pub TEXT_TEST : ℕ
TEXT_TEST = terminal_of TextTest []

abbrev pub DOUBLE_SLASH : ℕ
DOUBLE_SLASH = terminal_of Sign (codes "//")

abbrev pub SELF_CLOSE : ℕ
SELF_CLOSE = terminal_of Sign (codes "/>")

abbrev pub SLASH : ℕ
SLASH = terminal_of Sign (codes "/")

abbrev pub END_TAG : ℕ
END_TAG = terminal_of Sign (codes "</")

abbrev pub LESS_OR_EQUAL : ℕ
LESS_OR_EQUAL = terminal_of Sign (codes "<=")

abbrev pub LESS : ℕ
LESS = terminal_of Sign (codes "<")

abbrev pub GREATER_OR_EQUAL : ℕ
GREATER_OR_EQUAL = terminal_of Sign (codes ">=")

abbrev pub GREATER : ℕ
GREATER = terminal_of Sign (codes ">")

abbrev pub NOT_EQUAL : ℕ
NOT_EQUAL = terminal_of Sign (codes "!=")

abbrev pub BANG : ℕ
BANG = terminal_of Sign (codes "!")

abbrev pub EQUAL : ℕ
EQUAL = terminal_of Sign (codes "=")

abbrev pub ASSIGN : ℕ
ASSIGN = terminal_of Sign (codes ":=")

abbrev pub OPEN : ℕ
OPEN = terminal_of Sign (codes "(")

abbrev pub CLOSE : ℕ
CLOSE = terminal_of Sign (codes ")")

abbrev pub OPEN_CONDS : ℕ
OPEN_CONDS = terminal_of Sign (codes "[")

abbrev pub CLOSE_CONDS : ℕ
CLOSE_CONDS = terminal_of Sign (codes "]")

abbrev pub OPEN_BRACE : ℕ
OPEN_BRACE = terminal_of Sign (codes "{")

abbrev pub CLOSE_BRACE : ℕ
CLOSE_BRACE = terminal_of Sign (codes "}")

abbrev pub COMMA : ℕ
COMMA = terminal_of Sign (codes ",")

abbrev pub AT : ℕ
AT = terminal_of Sign (codes "@")

abbrev pub STAR : ℕ
STAR = terminal_of Sign (codes "*")

abbrev pub MINUS : ℕ
MINUS = terminal_of Sign (codes "-")

abbrev pub PLUS : ℕ
PLUS = terminal_of Sign (codes "+")

abbrev pub QUESTION : ℕ
QUESTION = terminal_of Sign (codes "?")

abbrev pub FOR : ℕ
FOR = terminal_of Word (codes "FOR")

abbrev pub LET : ℕ
LET = terminal_of Word (codes "LET")

abbrev pub IN : ℕ
IN = terminal_of Word (codes "IN")

abbrev pub ALLOWING : ℕ
ALLOWING = terminal_of Word (codes "ALLOWING")

abbrev pub EMPTY : ℕ
EMPTY = terminal_of Word (codes "EMPTY")

abbrev pub WHERE : ℕ
WHERE = terminal_of Word (codes "WHERE")

abbrev pub AND : ℕ
AND = terminal_of Word (codes "AND")

abbrev pub GROUP : ℕ
GROUP = terminal_of Word (codes "GROUP")

abbrev pub ORDER : ℕ
ORDER = terminal_of Word (codes "ORDER")

abbrev pub BY : ℕ
BY = terminal_of Word (codes "BY")

abbrev pub ASCENDING : ℕ
ASCENDING = terminal_of Word (codes "ASCENDING")

abbrev pub DESCENDING : ℕ
DESCENDING = terminal_of Word (codes "DESCENDING")

abbrev pub RETURN : ℕ
RETURN = terminal_of Word (codes "RETURN")

abbrev pub MATCH : ℕ
MATCH = terminal_of Word (codes "MATCH")

abbrev pub DOCUMENT : ℕ
DOCUMENT = terminal_of Word (codes "DOCUMENT")

abbrev pub COUNT : ℕ
COUNT = terminal_of Word (codes "COUNT")

abbrev pub SUM : ℕ
SUM = terminal_of Word (codes "SUM")

abbrev pub MIN : ℕ
MIN = terminal_of Word (codes "MIN")

abbrev pub MAX : ℕ
MAX = terminal_of Word (codes "MAX")

-- a name, and each keyword, which may stand where a name does
abbrev pub NAMES : List ℕ
NAMES = NAME ∷ map (terminal_of Word) keywords

abbrev pub AXES : List ℕ
AXES = SLASH ∷ DOUBLE_SLASH ∷ []

abbrev pub MARKS : List ℕ
MARKS = MINUS ∷ QUESTION ∷ PLUS ∷ STAR ∷ []

abbrev pub COMPARISONS : List ℕ
COMPARISONS = EQUAL ∷ NOT_EQUAL ∷ LESS ∷ LESS_OR_EQUAL ∷ GREATER ∷ GREATER_OR_EQUAL ∷ []

-- the terminal is that of the sign
abbrev pub is_sign : List ℕ → ℕ → Bool
is_sign text x = x == terminal_of Sign text

abbrev pub terminals_of : List Tok → List ℕ
terminals_of s = map (λ t. t.terminal) s
