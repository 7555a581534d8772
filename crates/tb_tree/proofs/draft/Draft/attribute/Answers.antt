-- The attribute's extent stands behind the place that is kept for its element.
use Rattle.std.proofs.Common.{◌+◌, ◌==◌, cond, get_or, refl, ap, ◌∙◌, arith}
use Rattle.tb_tree.specs.Printed.{attribute_line}
use Rattle.tb_tree.proofs.LengthLaws.{grown-line, attribute-some}
use Rattle.tb_tree.proofs.AttributeLaws.{shows-attribute, next-fits}
use Rattle.tb_tree.proofs.draft.Draft.attribute.Goals as goal

pub overflow_cast-extent : goal.overflow_cast-extent
overflow_cast-extent c =
    let out = c.push_attribute_told.new.out in
    let long = grown-line c.args.self.now.text.items out.items (attribute_line c.args.name.now c.args.value.now) c.in_ok-escaped.ensures.line in
    omega (arith, c.len-2.ensures, c.requires.room, out.ok.0, long)

pub returns-clause-shown : goal.returns-clause-shown
returns-clause-shown c = λ m s.
    shows-attribute c.args.self.now _ m c.args.name.now c.args.value.now c.in_ok-number.number c.len-at.result (c.len.result + 1) c.keep_place.new.extents.items c.len-2.result (c.len-3.result + 1) c.in_ok-escaped.escaped s
    (omega (arith, c.len-at.ensures, c.args.self.now.text.ok.0)) (omega (arith, c.len.ensures, c.args.self.now.stack.ok.0)) c.in_ok-self.ensures.extents c.in_ok-self.ensures.place c.in_ok-number.ensures.number c.in_ok-number.ensures.more refl
    c.in_ok-escaped.ensures.line
    (omega (arith, c.len-2.ensures, c.push_attribute_told.new.out.ok.0)) (omega (arith, c.len-3.ensures, c.keep_place.new.extents.ok.0)) c.in_ok-escaped.ensures.told
    c.in_ok-push.ensures.items refl refl refl refl
    (λ n. c.in_ok-note_waiting.ensures.noted n ∙ ap (λ x. cond (n == c.in_ok-number.number) x (get_or c.args.self.now.waited.items n 0)) (next-fits c.args.self.now m c.len-at.result (c.len.result + 1) _ c.saturating_add.result _ s (omega (arith, c.len-at.ensures, c.args.self.now.text.ok.0)) (omega (arith, c.len.ensures, c.args.self.now.stack.ok.0)) c.in_ok-self.ensures.place c.saturating_add.ensures c.requires.room (attribute-some c.args.name.now c.args.value.now))) c.in_ok-note_waiting.ensures.few

pub returns-clause-grown : goal.returns-clause-grown
returns-clause-grown c = grown-line _ _ _ c.in_ok-escaped.ensures.line
