-- The next token is the keyword DOCUMENT, or the variable.
use Rattle.std.proofs.Common.{sym, ◌∙◌}
use Rattle.tb_flwor.proofs.PathLaws.{path-document, path-variable}
use Rattle.tb_flwor.proofs.path.path.Goals as goal

pub returns-then-begins-clause-built : goal.returns-then-begins-clause-built
returns-then-begins-clause-built c =
    path-document c.args.names.now c.args.tokens.now c.in_ok-steps.left.now c.in_ok-name.left.now c.in_ok-name.name c.in_ok-steps.steps
    (sym c.begins.ensures ∙ c.if-begins.true) c.in_ok-name.ensures.built c.in_ok-steps.ensures.built

pub returns-clause-built : goal.returns-clause-built
returns-clause-built c =
    rw (c.number.ensures, c.bytes.ensures)
    (path-variable c.args.names.now c.args.tokens.now c.in_ok-steps-2.left.now c.in_ok-steps-2.steps
    (sym c.begins.ensures ∙ c.if-begins.false) (rw c.behind.ensures at c.in_ok-steps-2.ensures.built))
