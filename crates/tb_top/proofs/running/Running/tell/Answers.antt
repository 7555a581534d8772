-- The event is answered its number, and the session's part grows by its line.
use Rattle.std.proofs.Common.{◌<◌, ◌∷◌, ◌++◌, [], length, refl, ap, ◌∙◌, arith}
use Rattle.tb_top.specs.Transcript.{told_line}
use Rattle.tb_script.specs.declared.command.Command.TheVariants as command
use Rattle.tb_top.specs.Deeds.{told}
use Rattle.tb_top.specs.Running.{progress_of}
use Rattle.tb_top.proofs.RunningLaws.{part-grows, does-look, part-within}
use Rattle.tb_top.proofs.running.Running.tell.Goals as goal

pub returns : goal.returns
returns c =
    let old = c.args.self.now in
    let parts = old.parts.items in
    let stands = c.requires.stands in
    let within = part-within old c.args.step stands in
    does-look c.args.step (command.Tell c.args.mark c.args.name.now) (told c.number-front.result) (progress_of old) _ tt refl (ap (λ o. o ∷ []) c.number-front.ensures.answer) tt c.number-front.ensures.after refl refl
    (part-grows parts c.args.step.session c.index_mut-part.result.now c.push_front_line.new.text _ within c.index_mut-part.ensures.value
    (c.in_ok-push_front_line.ensures ∙ ap (λ n. c.index_mut-part.result.now.items ++ told_line n c.args.name.now c.number-front.result) c.number_in.ensures))
