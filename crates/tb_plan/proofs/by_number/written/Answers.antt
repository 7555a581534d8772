use Rattle.tb_plan.proofs.NumberLaws.{order-of, written-order}
use Rattle.tb_plan.proofs.by_number.written.Goals as goal

pub listed-requires : goal.listed-requires
listed-requires c = order-of c.edges_in.result c.in_ok-edges.edges.items (written-order _ _ c.in_ok-edges.ensures)
