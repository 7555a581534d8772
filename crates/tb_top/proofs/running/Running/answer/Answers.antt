-- The query of a text is answered over the documents of the front.
use Rattle.std.proofs.Common.{◌≡◌, ℕ, ◌++◌, ◌∷◌, [], length, Option, Some, refl, sym, ap, ◌∙◌, arith}
use Rattle.std.proofs.lemmas.List.{take_all}
use Rattle.std.specs.Option.{option_map}
use Rattle.tb_script.specs.declared.command.Command.TheVariants as command
use Rattle.tb_query.specs.Answer as query
use Rattle.tb_top.specs.Answered.{told}
use Rattle.tb_top.specs.History.{documents_in}
use Rattle.tb_top.specs.Deeds.{answered}
use Rattle.tb_top.specs.Transcript.{query_block}
use Rattle.tb_top.specs.Running.{progress_of}
use Rattle.tb_top.specs.Kept.{changes_in}
use Rattle.tb_top.proofs.AskedLaws.{asked-built}
use Rattle.tb_top.proofs.RunningLaws.{part-grows, does-look, part-within}
use Rattle.tb_top.proofs.running.Running.answer.Goals as goal

pub returns : goal.returns
returns g c text reads =
    let old = c.args.self.now in
    let parts = old.parts.items in
    let stands = c.requires.stands in
    let changes = changes_in old.history in
    let q = c.args.query.now in
    let front = c.number-front.result in
    let within = part-within old c.args.step stands in
    let number : ◌≡◌ {A = Option ℕ} (Some (length old.world.history)) (Some front) = c.number-front.ensures.answer in
    let all : length old.world.history ≡ front = cc in
    let answer = option_map told c.in_ok-answer.answer in
    does-look c.args.step (command.Query text) (answered front answer) (progress_of old) _ (asked-built text q c.requires.few reads) refl (ap (λ o. o ∷ []) c.number-front.ensures.answer)
    (record {
      query = q;
      reads = reads;
      within = omega (arith, all, stands.changes);
      answer_is = c.in_ok-answer.ensures ∙ ap (λ cs. query.answer (documents_in cs) q) (sym (take_all front changes (omega (arith, all, stands.changes))));
    })
    c.number-front.ensures.after refl refl
    (part-grows parts c.args.step.session c.index_mut-part.result.now c.push_query_block.new.text _ within c.index_mut-part.ensures.value
    (c.in_ok-push_query_block.ensures ∙ ap (λ n. c.index_mut-part.result.now.items ++ query_block n front answer) c.number_in.ensures))
