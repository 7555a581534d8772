use Rattle.std.proofs.Common.{◌≡◌, length}
use Rattle.tb_token.specs.grammar.Reading.{after}
use Rattle.tb_token.specs.reading.View.{rules_of}
use Rattle.tb_token.specs.reading.Stack.{expressions_in}
use Rattle.tb_token.proofs.reader.stack.goes_on.Given as goal

-- what is left does with the terminal what all expressions do; an expression that passes is gone
abbrev pub invariant-expressions : goal.invariant-expressions
invariant-expressions l = after (rules_of l.grammar) (expressions_in l.stack.items) l.terminal ≡ after (rules_of l.grammar) (expressions_in l.initial.stack.items) l.terminal

abbrev pub decreases-expressions : goal.decreases-expressions
decreases-expressions l = length l.stack.items
