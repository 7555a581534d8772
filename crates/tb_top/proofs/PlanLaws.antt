-- The plan of a pattern of few nodes is that pattern, and small.
use Rattle.std.proofs.Common.{◌≡◌, ◌≤◌, ◌<◌, ◌^◌, List, sym, subst, arith}
use Rattle.tb_pattern.specs.View.{edges_of}
use Rattle.tb_plan.specs.Orders.{edge_count}
use Rattle.tb_plan.proofs.CountLaws.{count-nodes}
use Rattle.tb_query.specs.Actions.{actions_of, size_of_actions}
use Rattle.tb_query.specs.declared.query.Query.{Query}
use Rattle.tb_query.specs.declared.query.Query.TheVariants.{Match, Flwor}
use Rattle.tb_tlc.specs.declared.plan.Op.{Op}
use Rattle.tb_tlc.specs.Translated.{translated}
use Rattle.tb_engine.specs.Calls.{IsOnePattern}
use Rattle.tb_top.specs.Answered.{AsksFew}

pub few-actions : (q : Query) → AsksFew q → size_of_actions (actions_of q) ≤ 65536
few-actions (Match p) few = omega arith
few-actions (Flwor q) few = absurd few

pub one-pattern : (q : Query) (ops : List Op) → AsksFew q → ops ≡ translated q → IsOnePattern ops
one-pattern (Match p) ops few is = let edges : edge_count (edges_of p.edges) < 2 ^ 32 = omega (arith, count-nodes (edges_of p.edges), few) in rw is edges
one-pattern (Flwor q) ops few is = absurd few
