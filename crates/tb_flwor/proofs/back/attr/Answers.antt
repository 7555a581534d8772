-- The content stands behind the name and `=`.
use Rattle.tb_flwor.proofs.ConsLaws.{attr-builds}
use Rattle.tb_flwor.proofs.back.attr.Goals as goal

pub returns-clause-built : goal.returns-clause-built
returns-clause-built c =
    rw c.in_ok-name.ensures
    (attr-builds c.args.names.now c.in_ok-from.from c.args.tokens.now c.in_ok-from.left.now (rw (c.behind-2.ensures, c.behind.ensures) at c.in_ok-from.ensures.built))
