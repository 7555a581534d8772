use Rattle.tb_token.proofs.lexing.LexemeLaws.{Lexed}
use Rattle.tb_token.proofs.lexer.lexeme.lexemes.Given as goal

-- the tokens passed, and those that are left
abbrev pub invariant-tokens : goal.invariant-tokens
invariant-tokens l = Lexed l.text l.tokens l.at l.lexemes.items
