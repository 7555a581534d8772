-- The change is added, and the session's part grows by its line.
use Rattle.std.proofs.Common.{◌<◌, ◌++◌, length, sym, ap₂, ◌∙◌, subst, arith}
use Rattle.tb_tree.specs.View.{plain_of}
use Rattle.tb_esis.specs.Reading.{IsReadAs}
use Rattle.tb_top.specs.Transcript.{load_line}
use Rattle.tb_top.specs.Running.{progress_of}
use Rattle.tb_top.proofs.RunningLaws.{part-grows, does-load, part-within}
use Rattle.tb_top.proofs.running.Running.accept.Goals as goal

pub returns : goal.returns
returns c lines read =
    let old = c.args.self.now in
    let parts = old.parts.items in
    let stands = c.requires.stands in
    let within = part-within old c.args.step stands in
    does-load c.args.step c.args.name.now lines c.number-change.result (plain_of c.in_ok-store.store) (progress_of old) _ c.number-change.ensures.answer
    (subst (λ t. IsReadAs lines (plain_of t)) (sym c.in_ok-store.ensures) read) c.number-change.ensures.after c.in_ok-add.ensures.changes c.in_ok-add.ensures.sessions
    (part-grows parts c.args.step.session c.index_mut-part.result.now c.push_load_line.new.text _ within c.index_mut-part.ensures.value
    (c.in_ok-push_load_line.ensures ∙ ap₂ (λ n name. c.index_mut-part.result.now.items ++ load_line n name c.number-change.result) c.number_in.ensures c.as_slice.ensures))
