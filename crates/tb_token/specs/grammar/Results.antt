-- The grammar of what a query returns, line by line as docs/FORMATS.md has it.
use Rattle.std.specs.Prelude.{[], ◌∷◌, codes}
use Rattle.tb_token.specs.grammar.Grammar.{Expression, either, many, opened, row, one_of}
use Rattle.tb_token.specs.grammar.Terminals.{sign, name, string}
use Rattle.tb_token.specs.grammar.Paths.{path, operand}
use Rattle.tb_token.specs.tokens.TerminalNames as terminals

-- "<" and rule 1, which is the rest of the constructor
abbrev pub cons : Expression
cons = opened (terminals.LESS ∷ []) 1

-- "{" operand "}"
abbrev pub braced : Expression
braced = row (sign (codes "{")) (operand ∷ sign (codes "}") ∷ [])

-- NAME "=" ( STRING | "{" operand "}" )
abbrev pub attr : Expression
attr = row name (sign (codes "=") ∷ either string braced ∷ [])

-- cons | STRING | "{" operand "}"
abbrev pub piece : Expression
piece = one_of cons (string ∷ braced ∷ [])

-- NAME { attr } ( "/>" | ">" { piece } "</" NAME ">" )
abbrev pub cons_rest : Expression
cons_rest =
    row name (many attr ∷ either (sign (codes "/>"))
    (row (sign (codes ">")) (many piece ∷ sign (codes "</") ∷ name ∷ sign (codes ">") ∷ [])) ∷ [])

-- path | cons
abbrev pub back : Expression
back = either path cons
