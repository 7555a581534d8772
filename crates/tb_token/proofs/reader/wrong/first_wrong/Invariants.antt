use Rattle.tb_token.specs.reading.View.{expression_of, rules_of}
use Rattle.tb_token.specs.reading.Stack.{expressions_in}
use Rattle.tb_token.proofs.reading.ReadingLaws.{Going}
use Rattle.tb_token.proofs.reader.wrong.first_wrong.Given as goal

-- the reading of the tokens that are left is that of them all
abbrev pub invariant-tokens : goal.invariant-tokens
invariant-tokens l = Going (rules_of l.grammar) (expression_of l.grammar.start.now) l.tokens l.at (expressions_in l.stack.items)
