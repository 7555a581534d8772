-- The session's part grows by the line of the refusal.
use Rattle.std.proofs.Common.{◌<◌, ◌++◌, length, refl, ap, ◌∙◌, arith}
use Rattle.tb_script.specs.declared.command.Command.TheVariants as command
use Rattle.tb_top.specs.Deeds.{refused_query}
use Rattle.tb_top.specs.Transcript.{refused_query_line}
use Rattle.tb_top.specs.Running.{progress_of}
use Rattle.tb_top.proofs.AskedLaws.{refused-built}
use Rattle.tb_top.proofs.RunningLaws.{part-grows, does-look, part-within}
use Rattle.tb_top.proofs.running.Running.refuse_query.Goals as goal

pub returns : goal.returns
returns c text wrong =
    let old = c.args.self.now in
    let parts = old.parts.items in
    let stands = c.requires.stands in
    let within = part-within old c.args.step stands in
    does-look c.args.step (command.Query text) (refused_query c.args.fault.now) (progress_of old) _ (refused-built text c.args.fault.now wrong) refl refl wrong refl refl refl
    (part-grows parts c.args.step.session c.index_mut-part.result.now c.push_refused_query_line.new.text _ within c.index_mut-part.ensures.value
    (c.in_ok-push_refused_query_line.ensures ∙ ap (λ n. c.index_mut-part.result.now.items ++ refused_query_line n c.args.fault.now) c.number_in.ensures))
