-- The grammar of `MATCH` queries, line by line as docs/FORMATS.md has it.
use Rattle.std.specs.Prelude.{[], ◌∷◌, codes}
use Rattle.tb_token.specs.grammar.Grammar.{Expression, both, either, maybe, opened, row, one_of}
use Rattle.tb_token.specs.grammar.Terminals.{keyword, sign, sign_among, name, number, string, text_test, list_of, comma}
use Rattle.tb_token.specs.tokens.TerminalNames as terminals

-- DOCUMENT "(" STRING ")"
abbrev pub doc : Expression
doc = row (keyword (codes "DOCUMENT")) (sign (codes "(") ∷ string ∷ sign (codes ")") ∷ [])

-- "/" | "//"
abbrev pub axis : Expression
axis = sign_among (codes "/" ∷ codes "//" ∷ [])

-- "-" | "?" | "+" | "*"
abbrev pub mark : Expression
mark = sign_among (codes "-" ∷ codes "?" ∷ codes "+" ∷ codes "*" ∷ [])

-- NAME | "*" | "@" ( NAME | "*" ) | TEXT
abbrev pub test : Expression
test =
    one_of name (sign (codes "*") ∷ both (sign (codes "@")) (either name (sign (codes "*")))
    ∷ text_test ∷ [])

-- "=" | "!=" | "<" | "<=" | ">" | ">="
abbrev pub cmp : Expression
cmp =
    sign_among (codes "=" ∷ codes "!=" ∷ codes "<" ∷ codes "<=" ∷ codes ">" ∷ codes ">=" ∷ [])

-- STRING | [ "-" ] NUMBER
abbrev pub literal : Expression
literal = either string (both (maybe (sign (codes "-"))) number)

-- "[" cmp literal { AND cmp literal } "]"
abbrev pub conds : Expression
conds =
    row (sign (codes "[")) (list_of (keyword (codes "AND")) (both cmp literal) ∷ sign (codes "]") ∷ [])

-- "(" and rule 0, which is the rest of the edges
abbrev pub edges : Expression
edges = opened (terminals.OPEN ∷ []) 0

-- axis mark test [ conds ] [ "!" ] [ edges ]
abbrev pub edge : Expression
edge = row axis (mark ∷ test ∷ maybe conds ∷ maybe (sign (codes "!")) ∷ maybe edges ∷ [])

-- edge { "," edge } ")"
abbrev pub edges_rest : Expression
edges_rest = both (list_of comma edge) (sign (codes ")"))

-- MATCH doc edges
abbrev pub match_query : Expression
match_query = row (keyword (codes "MATCH")) (doc ∷ edges ∷ [])
