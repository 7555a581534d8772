use Rattle.std.proofs.Common.{◌≡◌, subst, ◌≤◌, sym, ap, ◌∙◌, arith}
use Rattle.std.proofs.lemmas.Result.{IfOk-weaker}
use Rattle.tb_query.specs.Actions.{actions_of_flwor, size_of_actions}
use Rattle.tb_query.specs.Answer.{answer}
use Rattle.tb_query.specs.declared.query.Query.TheVariants.{Flwor}
use Rattle.tb_tree.specs.Documents.{Docs}
use Rattle.tb_tlc.specs.Meaning.{meaning}
use Rattle.tb_tlc.specs.Returned.{planned_flwor}
use Rattle.tb_query.specs.Plannable.{IsPlannable}
use Rattle.tb_tlc.specs.WellFormed.{IsWellFormed}
use Rattle.tb_tlc.proofs.MeansLaws.{translated-means}
use Rattle.tb_tlc.proofs.ScopedLaws.{translated-formed}
use Rattle.tb_tlc.proofs.SizeLaws.{few-columns}
use Rattle.tb_tlc.proofs.planning.translate.Goals as goal

pub plan_flwor-requires : goal.plan_flwor-requires
plan_flwor-requires c =
    let few : size_of_actions (actions_of_flwor c.in-Flwor.flwor) ≤ 65536 = rw c.in-Flwor.is at c.requires.few in
    let most = few-columns c.in-Flwor.flwor in
    record { narrow = omega (arith, few, most) }

pub returns-in-Flwor-clause-means : goal.returns-in-Flwor-clause-means
returns-in-Flwor-clause-means c =
    IfOk-weaker c.plan_flwor.result (λ plan. plan.ops ≡ planned_flwor c.in-Flwor.flwor) (λ plan. (docs : Docs) → meaning docs plan.ops ≡ answer docs c.args.query.now)
    (λ plan is docs. ap (meaning docs) is ∙ translated-means (Flwor c.in-Flwor.flwor) docs ∙ sym (ap (answer docs) c.in-Flwor.is)) c.plan_flwor.ensures

pub returns-in-Flwor-clause-formed : goal.returns-in-Flwor-clause-formed
returns-in-Flwor-clause-formed c =
    IfOk-weaker c.plan_flwor.result (λ plan. plan.ops ≡ planned_flwor c.in-Flwor.flwor) (λ plan. IsPlannable c.args.query.now → IsWellFormed plan.ops)
    (λ plan is plannable. subst IsWellFormed (sym is) (translated-formed (Flwor c.in-Flwor.flwor) (subst IsPlannable c.in-Flwor.is plannable))) c.plan_flwor.ensures
