-- An expression that is popped needs a token, or it doesn't.
use Rattle.std.proofs.Common.{sym, ◌∙◌}
use Rattle.tb_token.proofs.reading.StackLaws.{may_end-never_empty, may_end-empty}
use Rattle.tb_token.proofs.reader.stack.may_end.Goals as goal

pub returns-then-is_never_empty : goal.returns-then-is_never_empty
returns-then-is_never_empty c =
    sym (may_end-never_empty c.expressions.stack.items c.pop.new.self.items c.in-Some.expression c.in-Some.ensures.items (sym c.is_never_empty.ensures ∙ c.if-is_never_empty.true)) ∙ c.expressions.invariant

pub expressions-preserved : goal.expressions-preserved
expressions-preserved c =
    may_end-empty c.expressions.stack.items c.pop.new.self.items c.in-Some.expression c.in-Some.ensures.items (sym c.is_never_empty.ensures ∙ c.if-is_never_empty.false) ∙ c.expressions.invariant
