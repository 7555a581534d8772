-- A piece of which no byte is escaped is the value.
use Rattle.tb_tree.proofs.PieceLaws.{lent-some}
use Rattle.tb_tree.proofs.tree.Tree.lent_value.Goals as goal

pub returns-in-Some-default-false : goal.returns-in-Some-default-false
returns-in-Some-default-false c =
    lent-some _ c.in-Some-default-false.raw.now c.in-Some-default-false.field-0-1 c.in-Some-default-false.ensures c.in-Some-default-false.field-0-1-test
