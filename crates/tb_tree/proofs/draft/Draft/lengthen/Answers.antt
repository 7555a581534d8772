-- The text's line is the last one, and its extent too.
use Rattle.std.proofs.Common.{refl, arith}
use Rattle.tb_tree.proofs.KeptLaws.{no_extent}
use Rattle.tb_tree.proofs.TextLaws.{shows-longer_text}
use Rattle.tb_tree.proofs.draft.Draft.lengthen.Goals as goal

pub overflow_cast-len : goal.overflow_cast-len
overflow_cast-len c =
    omega (arith, c.len-2.ensures, c.lengthen_data.new.out.ok.0, c.in_ok-escaped.ensures.grown, c.requires.room)

pub returns-clause-shown : goal.returns-clause-shown
returns-clause-shown c = λ m none inside goes s.
    shows-longer_text c.args.self.now _ m c.args.value.now c.len-2.result c.saturating_sub-last.result c.in_ok-escaped.escaped no_extent none inside goes c.requires.some s
    (omega (arith, c.len-2.ensures, c.lengthen_data.new.out.ok.0)) (omega (arith, c.saturating_sub-last.ensures, c.len.ensures, c.args.self.now.extents.ok.0)) c.in_ok-escaped.ensures.told
    c.in_ok-escaped.ensures.line (c.lengthen_at.ensures no_extent) refl refl refl goes refl refl refl

pub returns-clause-grown : goal.returns-clause-grown
returns-clause-grown c = omega (arith, c.in_ok-escaped.ensures.grown)
