-- A pattern that is read has few edges.
use Rattle.std.proofs.Common.{◌≤◌, List, ℕ, subst, arith}
use Rattle.std.specs.Prelude.{Ok}
use Rattle.tb_pattern.specs.View.{edges_of}
use Rattle.tb_pattern.specs.declared.pattern.Pattern.{Pattern}
use Rattle.tb_plan.specs.Orders.{edge_count}
use Rattle.tb_plan.proofs.CountLaws.{count-nodes}
use Rattle.tb_query.specs.declared.query.Query.{Query}
use Rattle.tb_query.specs.declared.query.Query.TheVariants.{Match}
use Rattle.tb_flwor.specs.Calls.{Reads}
use Rattle.tb_flwor.proofs.PatternLaws.{pattern-few}
use Rattle.tb_deep.proofs.answer.pattern.Goals as goal

read-few : (text : List ℕ) (p : Pattern) → Reads text (Ok (Match p)) → edge_count (edges_of p.edges) ≤ 64
read-few text p read = omega (arith, count-nodes (edges_of p.edges), pattern-few text p read)

pub returns-in-Ok-Match : goal.returns-in-Ok-Match
returns-in-Ok-Match c =
    read-few c.args.text.now c.in-Ok-Match.pattern (subst (λ (q : Query). Reads c.args.text.now (Ok q)) c.in-Ok-Match.field-0-is c.in-Ok-Match.ensures.reads)
