-- The next token is the keyword DOCUMENT, or the variable.
use Rattle.std.proofs.Common.{sym, ◌∙◌}
use Rattle.tb_flwor.proofs.PathLaws.{start-document, start-variable}
use Rattle.tb_flwor.proofs.path.start.Goals as goal

pub returns-then-begins-clause-built : goal.returns-then-begins-clause-built
returns-then-begins-clause-built c =
    start-document c.args.names.now c.args.tokens.now c.in_ok-name.left.now c.in_ok-name.name (sym c.begins.ensures ∙ c.if-begins.true) c.in_ok-name.ensures.built

pub returns-clause-built : goal.returns-clause-built
returns-clause-built c =
    rw (c.number.ensures, c.bytes.ensures, c.behind.ensures)
    (start-variable c.args.names.now c.args.tokens.now c.args.tokens.now (sym c.begins.ensures ∙ c.if-begins.false))
