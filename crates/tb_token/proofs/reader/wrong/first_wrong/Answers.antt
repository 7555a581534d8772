-- Each token is taken, or the list is wrong there; and at the end what is left must need no token.
use Rattle.std.proofs.Common.{◌+◌, length, Some, None, sym, ap, ◌∙◌, arith}
use Rattle.tb_token.specs.reading.View.{expression_of, rules_of}
use Rattle.tb_token.specs.reading.Stack.{expressions_in}
use Rattle.tb_token.proofs.reading.ReadingLaws.{wrong-here, sentence-end, wrong-end, as-said}
use Rattle.tb_token.proofs.reader.wrong.first_wrong.Goals as goal

pub returns-then-not-branch : goal.returns-then-not-branch
returns-then-not-branch c =
    as-said c.args.grammar.now c.args.tokens.now (Some (c.tokens.at + 1))
    (wrong-here (rules_of c.args.grammar.now) (expression_of c.args.grammar.now.start.now) c.args.tokens.now c.tokens.at (expressions_in c.tokens.stack.items) c.tokens.invariant (omega arith)
    c.index-tokens-at.result c.index-tokens-at.is c.token.inside.terminal (ap (λ t. t.terminal) c.token.view_is)
    (rw c.if-not-branch.true at c.in_ok-goes_on.ensures))

pub returns-then-may_end : goal.returns-then-may_end
returns-then-may_end c =
    as-said c.args.grammar.now c.args.tokens.now None
    (sentence-end (rules_of c.args.grammar.now) (expression_of c.args.grammar.now.start.now) c.args.tokens.now c.tokens.at (expressions_in c.tokens.stack.items) c.tokens.invariant (omega arith)
    (sym c.may_end.ensures ∙ c.if-may_end.true))

pub returns : goal.returns
returns c =
    as-said c.args.grammar.now c.args.tokens.now (Some (length c.args.tokens.now + 1))
    (wrong-end (rules_of c.args.grammar.now) (expression_of c.args.grammar.now.start.now) c.args.tokens.now c.tokens.at (expressions_in c.tokens.stack.items) c.tokens.invariant (omega arith)
    (sym c.may_end.ensures ∙ c.if-may_end.false))
