-- A text that is read as a pattern is answered, one that is refused is told, and one of clauses isn't built.
use Rattle.std.proofs.Common.{sym, subst}
use Rattle.std.specs.Prelude.{Ok}
use Rattle.tb_query.specs.declared.query.Query.{Query}
use Rattle.tb_flwor.specs.Calls.{Reads}
use Rattle.tb_flwor.specs.Faults.{HasFault, IsRefused}
use Rattle.tb_flwor.proofs.PatternLaws.{pattern-few}
use Rattle.tb_top.proofs.running.Running.query.Goals as goal

pub answer-requires-clause-few : goal.answer-requires-clause-few
answer-requires-clause-few g c κs within =
    pattern-few c.args.text.now c.in-Ok-Match.p (subst (λ (q : Query). Reads c.args.text.now (Ok q)) c.in-Ok-Match.field-0-is c.in-Ok-Match.ensures.reads)

pub returns-in-Ok-Flwor : goal.returns-in-Ok-Flwor
returns-in-Ok-Flwor g c built =
    built c.in-Ok-Flwor.field-0-0 (subst (λ (q : Query). Reads c.args.text.now (Ok q)) c.in-Ok-Flwor.field-0-is c.in-Ok-Flwor.ensures.reads)

pub returns-in_ok-answer-in-Ok-Match : goal.returns-in_ok-answer-in-Ok-Match
returns-in_ok-answer-in-Ok-Match g c =
    c.in_ok-answer-in-Ok-Match.ensures c.args.text.now (subst (λ (q : Query). Reads c.args.text.now (Ok q)) c.in-Ok-Match.field-0-is c.in-Ok-Match.ensures.reads)

pub returns-in_ok-refuse_query-in-Err : goal.returns-in_ok-refuse_query-in-Err
returns-in_ok-refuse_query-in-Err g c =
    let text = c.args.text.now in
    let told = c.in_ok-fault-in-Err.ensures in
    let refused : IsRefused text c.in_ok-fault-in-Err.fault = (told.1, subst (HasFault text) (sym told.0) c.in-Err.ensures.reads) in
    c.in_ok-refuse_query-in-Err.ensures text refused
