-- The name is the fourth token, and the first edge begins at the seventh.
use Rattle.tb_pattern.proofs.QueryBuilding.{query-asks}
use Rattle.tb_pattern.proofs.build.pattern.Goals as goal

pub returns : goal.returns
returns c =
    query-asks c.args.tokens.now c.in_ok-edges.edges c.in_ok-edges.field-0-1.now c.in_ok-document.document
    (rw c.behind.ensures at c.in_ok-document.ensures) (rw c.behind-2.ensures at c.in_ok-edges.ensures.built)
