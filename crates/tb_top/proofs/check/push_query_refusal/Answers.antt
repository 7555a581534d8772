-- A text that is read has no refusal, and is built where it is a pattern.
use Rattle.std.proofs.Common.{Some, refl, sym, subst}
use Rattle.std.specs.Prelude.{Ok}
use Rattle.tb_query.specs.declared.query.Query.{Query}
use Rattle.tb_query.specs.declared.query.Query.TheVariants.{Match}
use Rattle.tb_flwor.specs.Calls.{Reads}
use Rattle.tb_flwor.specs.Faults.{HasFault, IsRefused}
use Rattle.tb_top.specs.Check.{refused_query}
use Rattle.tb_top.proofs.AskedLaws.{pattern-built, refused-built, read-refusal}
use Rattle.tb_top.proofs.check.push_query_refusal.Goals as goal

pub returns-in-Ok-Match : goal.returns-in-Ok-Match
returns-in-Ok-Match c =
    let text = c.args.query.now in
    let p = c.in-Ok-Match.field-0-0 in
    let reads = subst (λ (q : Query). Reads text (Ok q)) c.in-Ok-Match.field-0-is c.in-Ok-Match.ensures.reads in
    (pattern-built text p reads, read-refusal c.args.session c.args.number text (Match p) c.args.text.now.items reads)

pub returns-in-Ok-Flwor : goal.returns-in-Ok-Flwor
returns-in-Ok-Flwor c built =
    built c.in-Ok-Flwor.field-0-0 (subst (λ (q : Query). Reads c.args.query.now (Ok q)) c.in-Ok-Flwor.field-0-is c.in-Ok-Flwor.ensures.reads)

pub returns : goal.returns
returns c =
    let text = c.args.query.now in
    let fault = c.in_ok-fault-in-Err.fault in
    let told = c.in_ok-fault-in-Err.ensures in
    let refused : IsRefused text fault = (told.1, subst (HasFault text) (sym told.0) c.in-Err.ensures.reads) in
    (refused-built text fault refused, (refused_query c.args.session c.args.number fault, (Some fault, refused, refl), c.in_ok-push_refused_query-in-Err.ensures))
