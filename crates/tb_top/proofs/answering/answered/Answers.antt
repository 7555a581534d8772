-- The plan is one pattern; it means the query over the documents that the query asks for.
use Rattle.tb_top.proofs.PlanLaws.{one-pattern}
use Rattle.tb_top.proofs.answering.answered.Goals as goal

pub answer-requires-clause-pattern : goal.answer-requires-clause-pattern
answer-requires-clause-pattern g c κs within = one-pattern c.args.query.now c.in_ok-plan.plan.ops c.requires.few c.in_ok-plan.ensures.plan
