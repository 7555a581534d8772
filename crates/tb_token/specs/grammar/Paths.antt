-- The grammar of paths and operands, line by line as docs/FORMATS.md has it but for `path`.
use Rattle.std.specs.Prelude.{[], ◌∷◌, map, codes}
use Rattle.tb_token.specs.grammar.Grammar.{Expression, one, both, either, many, row}
use Rattle.tb_token.specs.tokens.Lexemes.{terminal_of}
use Rattle.tb_token.specs.declared.lexer.token.Kind.TheVariants.{Word}
use Rattle.tb_token.specs.grammar.Terminals.{sign, variable}
use Rattle.tb_token.specs.grammar.Patterns.{doc, axis, test}

-- axis test
abbrev pub step : Expression
step = both axis test

-- step { step }
abbrev pub steps : Expression
steps = both step (many step)

-- ( doc | VARIABLE ) step { step }
abbrev pub longpath : Expression
longpath = both (either doc variable) steps

-- longpath | VARIABLE, as it is written
abbrev pub written_path : Expression
written_path = either longpath variable

-- the same, so that the first token decides: doc step { step } | VARIABLE { step }
abbrev pub path : Expression
path = either (both doc steps) (both variable (many step))

-- COUNT | SUM | MIN | MAX
abbrev pub agg : Expression
agg = one (map (terminal_of Word) (codes "COUNT" ∷ codes "SUM" ∷ codes "MIN" ∷ codes "MAX" ∷ []))

-- path | agg "(" path ")"
abbrev pub operand : Expression
operand = either path (row agg (sign (codes "(") ∷ path ∷ sign (codes ")") ∷ []))
