-- Each token is the next.
use Rattle.std.proofs.Common.{arith}
use Rattle.tb_token.proofs.lexing.LexemeLaws.{lexed-start, token-to, lexed-next, lexed-end}
use Rattle.tb_token.proofs.lexer.lexeme.lexemes.Goals as goal

pub tokens-init : goal.tokens-init
tokens-init c =
    rw c.in_ok-lexemes.ensures.items
    (lexed-start c.args.text.now c.args.tokens.now c.requires.short c.requires.rise)

pub of-requires-clause-to : goal.of-requires-clause-to
of-requires-clause-to c = token-to c.args.text.now c.args.tokens.now c.tokens.at c.tokens.lexemes.items c.tokens.invariant (omega arith)

pub tokens-preserved : goal.tokens-preserved
tokens-preserved c =
    rw c.in_ok-push.ensures.items
    (lexed-next c.args.text.now c.args.tokens.now c.tokens.at c.tokens.lexemes.items c.tokens.invariant (omega arith) c.in_ok-of.field-0 c.in_ok-of.ensures)

pub returns : goal.returns
returns c = lexed-end c.args.text.now c.args.tokens.now c.tokens.at c.tokens.lexemes.items c.tokens.invariant (omega arith)
