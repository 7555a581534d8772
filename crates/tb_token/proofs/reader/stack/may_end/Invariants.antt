use Rattle.std.proofs.Common.{◌≡◌, length}
use Rattle.tb_token.specs.grammar.Reading.{may_end}
use Rattle.tb_token.specs.reading.Stack.{expressions_in}
use Rattle.tb_token.proofs.reader.stack.may_end.Given as goal

-- the expressions that were popped need no token
abbrev pub invariant-expressions : goal.invariant-expressions
invariant-expressions l = may_end (expressions_in l.stack.items) ≡ may_end (expressions_in l.initial.stack.items)

abbrev pub decreases-expressions : goal.decreases-expressions
decreases-expressions l = length l.stack.items
