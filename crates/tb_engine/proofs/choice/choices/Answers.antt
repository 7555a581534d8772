-- What each mark leaves to choose.
use Rattle.std.proofs.Common.{[], get_or}
use Rattle.tb_engine.proofs.ChoiceLaws.{choice-one, choice-optional, choice-some}
use Rattle.tb_engine.proofs.choice.choices.Goals as goal

pub returns-in-One : goal.returns-in-One
returns-in-One c = choice-one c.args.mark c.args.above c.in-Some.node (get_or c.args.g.now.runs c.args.f []) c.run-run.result.now c.in-One.is c.in-Some.is c.run-run.ensures

pub returns-in-Optional : goal.returns-in-Optional
returns-in-Optional c =
    choice-optional c.args.mark c.args.above c.in-Some.node (get_or c.args.g.now.runs c.args.f []) c.run-run.result.now c.is_empty.result c.in-Optional.is c.in-Some.is c.run-run.ensures c.is_empty.ensures

pub returns-in-Some-mark : goal.returns-in-Some-mark
returns-in-Some-mark c =
    choice-some c.args.mark c.args.above c.in-Some.node (get_or c.args.g.now.runs c.args.f []) c.run-run.result.now c.is_empty-in-Some-mark.result c.in-Some-mark.is c.in-Some.is c.run-run.ensures c.is_empty-in-Some-mark.ensures
