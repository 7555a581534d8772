-- The expression on the top takes the terminal, passes or is stuck.
use Rattle.std.proofs.Common.{sym, ◌∙◌}
use Rattle.tb_token.specs.reading.View.{rules_of}
use Rattle.tb_token.proofs.reading.StackLaws.{gone-taken, gone-passed, gone-stuck}
use Rattle.tb_token.proofs.reader.stack.goes_on.Goals as goal

pub returns-in-Taken : goal.returns-in-Taken
returns-in-Taken c =
    sym c.expressions.invariant
    ∙ gone-taken (rules_of c.args.grammar.now) c.args.terminal c.expressions.stack.items c.pop.new.self.items c.take.new.stack.items c.in-Some.expression c.in-Some.ensures.items
    (rw c.in-Taken.is at c.in_ok-take.ensures)

pub expressions-preserved : goal.expressions-preserved
expressions-preserved c =
    gone-passed (rules_of c.args.grammar.now) c.args.terminal c.expressions.stack.items c.pop.new.self.items c.take.new.stack.items c.in-Some.expression c.in-Some.ensures.items
    (rw c.in-Passed.is at c.in_ok-take.ensures)
    ∙ c.expressions.invariant

pub returns-in-Stuck : goal.returns-in-Stuck
returns-in-Stuck c =
    sym c.expressions.invariant
    ∙ gone-stuck (rules_of c.args.grammar.now) c.args.terminal c.expressions.stack.items c.pop.new.self.items c.take.new.stack.items c.in-Some.expression c.in-Some.ensures.items
    (rw c.in-Stuck.is at c.in_ok-take.ensures)
