-- The name is the third token.
use Rattle.tb_flwor.proofs.PathLaws.{document-builds}
use Rattle.tb_flwor.proofs.path.document.Goals as goal

pub returns-clause-built : goal.returns-clause-built
returns-clause-built c = rw (c.in_ok-name.ensures, c.behind-3.ensures, c.behind-2.ensures, c.behind-string.ensures, c.behind.ensures) (document-builds c.args.tokens.now)
