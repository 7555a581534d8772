use Rattle.std.proofs.Common.{reverse, ap, ◌∙◌}
use Rattle.tb_plan.proofs.NumberLaws.{order-of, reverse-order}
use Rattle.tb_plan.proofs.by_number.reverse.Goals as goal

pub listed-requires : goal.listed-requires
listed-requires c =
    let turned = c.reverse.ensures.items ∙ ap reverse c.in_ok-edges.ensures in
    order-of c.edges_in.result c.reverse.new.self.items (reverse-order _ _ turned)
