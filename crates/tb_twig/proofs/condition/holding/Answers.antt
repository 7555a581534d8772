-- The prepared conditions say what the conditions say.
use Rattle.std.proofs.Common.{◌∙◌}
use Rattle.tb_tree.specs.View.{plain_of}
use Rattle.tb_twig.proofs.LayoutLaws.{holding-prepared}
use Rattle.tb_twig.proofs.condition.holding.Goals as goal

pub returns : goal.returns
returns c =
    c.in_ok-kept.ensures
    ∙ holding-prepared (plain_of c.args.tree.now) c.args.conds.now c.as_slice.result.now c.args.items.now (c.as_slice.ensures.value ∙ c.in_ok-conditions.ensures)
