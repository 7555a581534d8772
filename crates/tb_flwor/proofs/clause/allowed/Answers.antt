-- Two keywords are there, or they are not.
use Rattle.std.proofs.Common.{sym, ◌∙◌}
use Rattle.tb_flwor.proofs.ClauseLaws.{allowed-there, allowed-none}
use Rattle.tb_flwor.proofs.clause.allowed.Goals as goal

pub returns-then-begins-clause-built : goal.returns-then-begins-clause-built
returns-then-begins-clause-built c =
    rw (c.behind-then-begins.ensures, c.behind.ensures) (allowed-there c.args.tokens.now (sym c.begins.ensures ∙ c.if-begins.true))

pub returns-clause-built : goal.returns-clause-built
returns-clause-built c = allowed-none c.args.tokens.now (sym c.begins.ensures ∙ c.if-begins.false)
