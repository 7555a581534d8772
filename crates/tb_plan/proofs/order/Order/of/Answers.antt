use Rattle.std.proofs.Common.{refl, ap, arith}
use Rattle.std.proofs.lemmas.Bool.{both_ways}
use Rattle.tb_pattern.specs.View.{edges_of}
use Rattle.tb_plan.specs.Orders.{edge_count}
use Rattle.tb_plan.proofs.NumberLaws.{order-length}
use Rattle.tb_plan.proofs.order.Order.of.Goals as goal

pub returns-then-len-edges_in-clause-exactly : goal.returns-then-len-edges_in-clause-exactly
returns-then-len-edges_in-clause-exactly c =
    let counted = ap (λ es. edge_count (edges_of es)) c.as_slice.ensures in (
      (λ told. absurd (both_ways _ refl told)),
      (λ order. absurd (omega (arith, order-length (edge_count (edges_of c.args.p.now.edges)) c.args.edges.items order, counted))),
    )
