-- The next token is the name or `*`.
use Rattle.std.proofs.Common.{sym, ◌∙◌}
use Rattle.tb_pattern.proofs.NodeTestLaws.{attribute-named, attribute-any}
use Rattle.tb_pattern.proofs.node_test.attribute.Goals as goal

pub returns-then-begins_name-clause-built : goal.returns-then-begins_name-clause-built
returns-then-begins_name-clause-built c =
    rw (c.in_ok-name.ensures, c.behind.ensures)
    (attribute-named c.args.tokens.now (sym c.begins_name.ensures ∙ c.if-begins_name.true))

pub returns-clause-built : goal.returns-clause-built
returns-clause-built c =
    rw c.behind-2.ensures (attribute-any c.args.tokens.now (sym c.begins_name.ensures ∙ c.if-begins_name.false))
