-- A query's refusal is that of its text.
use Rattle.std.proofs.Common.{sym, ap, ◌∙◌, subst}
use Rattle.std.specs.Prelude.{IfOk}
use Rattle.tb_script.specs.declared.command.Command.{Command}
use Rattle.tb_script.specs.declared.command.Command.TheVariants as command
use Rattle.tb_top.specs.Check.{IsRefusal}
use Rattle.tb_top.specs.Outputs.{Passes}
use Rattle.tb_top.specs.Pieces.{Grows}
use Rattle.tb_top.specs.Single.{IsBuilt}
use Rattle.tb_top.proofs.check.push_refusal.Goals as goal

pub returns-in-Query : goal.returns-in-Query
returns-in-Query c =
    subst
    (λ (told : Command). IfOk c.push_query_refusal.result (λ built. Passes built (IsBuilt told) (Grows c.args.text.now.items c.push_query_refusal.new.text.items (IsRefusal c.args.session c.args.number told))))
    (ap command.Query c.as_slice-in-Query.ensures ∙ sym c.in-Query.is) c.push_query_refusal.ensures
