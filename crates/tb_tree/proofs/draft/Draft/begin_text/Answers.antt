-- The text's extent stands behind all others.
use Rattle.std.proofs.Common.{◌+◌, refl, arith}
use Rattle.tb_tree.specs.Printed.{data_line}
use Rattle.tb_tree.proofs.LengthLaws.{grown-line, data-line-length}
use Rattle.tb_tree.proofs.TextLaws.{shows-begun_text}
use Rattle.tb_tree.proofs.draft.Draft.begin_text.Goals as goal

pub overflow_cast-extent : goal.overflow_cast-extent
overflow_cast-extent c =
    let out = c.push_data_told.new.out in
    let value = c.args.value.now in
    let long = grown-line c.args.self.now.text.items out.items (data_line value) c.in_ok-escaped.ensures.line in
    omega (arith, c.len.ensures, c.requires.room, out.ok.0, long, data-line-length value)

pub returns-clause-shown : goal.returns-clause-shown
returns-clause-shown c = λ m none inside not_going s.
    shows-begun_text c.args.self.now _ m c.args.value.now c.len-from.result c.len.result (c.len-2.result + 1) (c.len-3.result + 1) c.in_ok-escaped.escaped none inside not_going c.requires.some s
    (omega (arith, c.len-from.ensures, c.args.self.now.text.ok.0)) (omega (arith, c.len.ensures, c.push_data_told.new.out.ok.0)) (omega (arith, c.len-2.ensures, c.args.self.now.extents.ok.0)) (omega (arith, c.len-3.ensures, c.args.self.now.stack.ok.0)) c.in_ok-escaped.ensures.told
    c.in_ok-escaped.ensures.line c.in_ok-push.ensures.items refl refl refl refl refl refl refl refl

pub returns-clause-grown : goal.returns-clause-grown
returns-clause-grown c =
    let value = c.args.value.now in
    omega (arith, grown-line c.args.self.now.text.items _ (data_line value) c.in_ok-escaped.ensures.line, data-line-length value)
