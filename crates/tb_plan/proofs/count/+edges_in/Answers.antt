use Rattle.std.proofs.Common.{arith}
use Rattle.tb_plan.proofs.CountLaws.{count-step}
use Rattle.tb_plan.proofs.count.+edges_in.Goals as goal

pub overflow_add-count : goal.overflow_add-count
overflow_add-count t c =
    omega (arith, c.edges.invariant, c.requires.few, count-step _ _ _ _ _ c.edges-test.true c.edge-item.is c.as_slice.ensures c.edges_in.ensures)

pub overflow_add-count-in-edges : goal.overflow_add-count-in-edges
overflow_add-count-in-edges t c =
    omega (arith, c.edges.invariant, c.requires.few, count-step _ _ _ _ _ c.edges-test.true c.edge-item.is c.as_slice.ensures c.edges_in.ensures)

pub edges-preserved : goal.edges-preserved
edges-preserved t c =
    omega (arith, c.edges.invariant, count-step _ _ _ _ _ c.edges-test.true c.edge-item.is c.as_slice.ensures c.edges_in.ensures)
