-- The next token is the mark, or it is not there.
use Rattle.std.proofs.Common.{sym, ◌∙◌}
use Rattle.tb_pattern.proofs.EdgeLaws.{whole-there, whole-none}
use Rattle.tb_pattern.proofs.build.whole.Goals as goal

pub returns-then-begins-clause-built : goal.returns-then-begins-clause-built
returns-then-begins-clause-built c =
    rw c.behind.ensures (whole-there c.args.tokens.now (sym c.begins.ensures ∙ c.if-begins.true))

pub returns-clause-built : goal.returns-clause-built
returns-clause-built c = whole-none c.args.tokens.now (sym c.begins.ensures ∙ c.if-begins.false)
