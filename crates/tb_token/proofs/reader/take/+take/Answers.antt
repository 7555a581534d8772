-- An expression's own expressions take the terminal, over what was pushed for later.
use Rattle.std.proofs.Common.{◌≡◌, sym, ◌∙◌, [], ◌∷◌, refl}
use Rattle.tb_token.specs.reading.View.{expression_of, rules_of}
use Rattle.tb_token.specs.reading.Machine.{step}
use Rattle.tb_token.proofs.reading.StepLaws.{expressions_in-push}
use Rattle.tb_token.proofs.reading.TakeLaws.{step-both, step-many, step-opened, taken-first, taken-more, taken-passed, some-pushed, popped-back}
use Rattle.tb_token.proofs.reader.take.+take.Goals as goal

pub returns-then-not-is_passed : goal.returns-then-not-is_passed
returns-then-not-is_passed t c =
    rw (step-both (rules_of c.args.grammar.now) c.args.terminal c.args.expression.now c.in-Both.first c.in-Both.second c.in-Both.is)
    (taken-first c.args.stack.now.items c.push.new.self.items c.take.new.stack.items c.in-Both.second c.in_ok-push-in-Both.ensures.items
    (step (rules_of c.args.grammar.now) (expression_of c.in-Both.first.now) c.args.terminal) (step (rules_of c.args.grammar.now) (expression_of c.in-Both.second.now) c.args.terminal)
    c.in_ok-took-in-Both.took c.in_ok-took-in-Both.ensures (sym c.is_passed.ensures ∙ c.if-not-is_passed.true))

pub returns-else-not-is_passed : goal.returns-else-not-is_passed
returns-else-not-is_passed t c =
    let passed_is = taken-passed (step (rules_of c.args.grammar.now) (expression_of c.in-Both.first.now) c.args.terminal) c.push.new.self.items c.take.new.stack.items
    c.in_ok-took-in-Both.took c.in_ok-took-in-Both.ensures (sym c.is_passed.ensures ∙ c.if-not-is_passed.false) in
    let popped : c.pop-second.new.self.items ≡ c.args.stack.now.items =
    popped-back c.args.stack.now.items c.in-Both.second c.take.new.stack.items (passed_is.1 ∙ c.in_ok-push-in-Both.ensures.items) c.pop-second.new.self.items c.pop-second.result c.pop-second.ensures.items
    (c.pop-second.ensures.variant.1 (some-pushed c.args.stack.now.items c.in-Both.second c.take.new.stack.items (passed_is.1 ∙ c.in_ok-push-in-Both.ensures.items) _ c.take.new.stack.ok.0)) in
    rw (step-both (rules_of c.args.grammar.now) c.args.terminal c.args.expression.now c.in-Both.first c.in-Both.second c.in-Both.is, passed_is.0)
    (rw popped at c.take-in-Both.ensures)

pub returns-in_ok-take-in-Many : goal.returns-in_ok-take-in-Many
returns-in_ok-take-in-Many t c =
    rw (step-many (rules_of c.args.grammar.now) c.args.terminal c.args.expression.now c.in-Many.inner c.in-Many.is (sym c.if-begins-3.ensures), c.of_more.ensures)
    (taken-more c.args.stack.now.items c.push-in-Many.new.self.items c.take-in-Many.new.stack.items c.args.expression c.in_ok-push-in-Many.ensures.items
    (step (rules_of c.args.grammar.now) (expression_of c.in-Many.inner.now) c.args.terminal) c.in_ok-take-in-Many.field-0 c.in_ok-take-in-Many.ensures)

pub returns-in_ok-push-in-Opened : goal.returns-in_ok-push-in-Opened
returns-in_ok-push-in-Opened t c = (
  rules_of c.args.grammar.now c.in-Opened.rule ∷ [],
  step-opened (rules_of c.args.grammar.now) c.args.terminal c.args.expression.now c.in-Opened.terminals c.in-Opened.rule c.in-Opened.is (sym c.if-has.ensures),
  rw (c.in_ok-push-in-Opened.ensures.items, expressions_in-push c.args.stack.now.items c.rule.result, c.rule.ensures) refl,
)
