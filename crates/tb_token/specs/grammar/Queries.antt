-- The grammar of queries, line by line as docs/FORMATS.md has it but for `path`, and its rules.
use Rattle.std.specs.Prelude.{ℕ, zero, suc, List, [], ◌∷◌, map, codes}
use Rattle.tb_token.specs.grammar.Grammar.{Expression, one, both, either, maybe, many, Rules, row}
use Rattle.tb_token.specs.tokens.Lexemes.{terminal_of}
use Rattle.tb_token.specs.declared.lexer.token.Kind.TheVariants.{Word, Sign}
use Rattle.tb_token.specs.grammar.Terminals.{keyword, sign, name, variable, list_of, comma}
use Rattle.tb_token.specs.grammar.Patterns.{cmp, literal, edges_rest, match_query}
use Rattle.tb_token.specs.grammar.Paths.{longpath, path, operand}
use Rattle.tb_token.specs.grammar.Results.{cons_rest, back}
use Rattle.tb_token.specs.tokens.TerminalNames as terminals

-- VARIABLE [ ALLOWING EMPTY ] IN longpath
abbrev pub bind : Expression
bind =
    row variable (maybe (both (keyword (codes "ALLOWING")) (keyword (codes "EMPTY")))
    ∷ keyword (codes "IN") ∷ longpath ∷ [])

-- FOR bind { "," bind } | LET VARIABLE ":=" longpath
abbrev pub clause : Expression
clause =
    either (both (keyword (codes "FOR")) (list_of comma bind))
    (row (keyword (codes "LET")) (variable ∷ sign (codes ":=") ∷ longpath ∷ []))

-- operand cmp ( operand | literal )
abbrev pub cond : Expression
cond = row operand (cmp ∷ either operand literal ∷ [])

-- WHERE cond { AND cond }
abbrev pub where_part : Expression
where_part = both (keyword (codes "WHERE")) (list_of (keyword (codes "AND")) cond)

-- GROUP BY VARIABLE ":=" path
abbrev pub group : Expression
group = row (keyword (codes "GROUP")) (keyword (codes "BY") ∷ variable ∷ sign (codes ":=") ∷ path ∷ [])

-- operand [ ASCENDING | DESCENDING ]
abbrev pub key : Expression
key =
    both operand
    (maybe (one (map (terminal_of Word) (codes "ASCENDING" ∷ codes "DESCENDING" ∷ []))))

-- ORDER BY key { "," key }
abbrev pub order : Expression
order = row (keyword (codes "ORDER")) (keyword (codes "BY") ∷ list_of comma key ∷ [])

-- clause { clause } [ where ] [ group ] [ order ] RETURN back
abbrev pub flwor : Expression
flwor =
    row clause (many clause ∷ maybe where_part ∷ maybe group ∷ maybe order
    ∷ keyword (codes "RETURN") ∷ back ∷ [])

-- match | flwor
abbrev pub query : Expression
query = either match_query flwor

-- edges and constructors; no rule has another number
abbrev pub rules : Rules
rules zero = edges_rest
rules (suc zero) = cons_rest
rules (suc (suc n)) = name

-- what may stand behind the edges of an edge, and behind a constructor in another
abbrev pub follow : ℕ → List ℕ
follow zero = map (terminal_of Sign) (codes "," ∷ codes ")" ∷ [])
follow (suc zero) =
    terminals.QUOTED ∷ map (terminal_of Sign) (codes "<" ∷ codes "{" ∷ codes "</" ∷ [])
follow (suc (suc n)) = []
