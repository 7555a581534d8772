-- The next token is the test, or the `@` of an attribute.
use Rattle.std.proofs.Common.{sym, ◌∙◌}
use Rattle.tb_pattern.proofs.NodeTestLaws.{test-named, test-any, test-attribute, test-text}
use Rattle.tb_pattern.proofs.node_test.test.Goals as goal

pub returns-then-begins_name-clause-built : goal.returns-then-begins_name-clause-built
returns-then-begins_name-clause-built c =
    rw (c.in_ok-name.ensures, c.behind.ensures)
    (test-named c.args.tokens.now (sym c.begins_name.ensures ∙ c.if-begins_name.true))

pub returns-then-begins-clause-built : goal.returns-then-begins-clause-built
returns-then-begins-clause-built c =
    rw c.behind-then-begins.ensures
    (test-any c.args.tokens.now (sym c.begins_name.ensures ∙ c.if-begins_name.false) (sym c.begins.ensures ∙ c.if-begins.true))

pub returns-then-begins-2-clause-built : goal.returns-then-begins-2-clause-built
returns-then-begins-2-clause-built c =
    test-attribute c.args.tokens.now c.in_ok-test.test c.in_ok-test.left.now
    (sym c.begins_name.ensures ∙ c.if-begins_name.false) (sym c.begins.ensures ∙ c.if-begins.false) (sym c.begins-2.ensures ∙ c.if-begins-2.true)
    (rw c.behind-then-begins-2.ensures at c.in_ok-test.ensures.built)

pub returns-clause-built : goal.returns-clause-built
returns-clause-built c =
    rw c.behind-2.ensures
    (test-text c.args.tokens.now (sym c.begins_name.ensures ∙ c.if-begins_name.false) (sym c.begins.ensures ∙ c.if-begins.false)
    (sym c.begins-2.ensures ∙ c.if-begins-2.false))
