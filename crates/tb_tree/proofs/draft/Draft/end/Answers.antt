-- The extent of the innermost element is the one whose place stands last.
use Rattle.std.proofs.Common.{refl, arith}
use Rattle.tb_tree.proofs.KeptLaws.{no_extent}
use Rattle.tb_tree.proofs.EndLaws.{shows-end}
use Rattle.tb_tree.proofs.draft.Draft.end.Goals as goal

pub returns-clause-shown : goal.returns-clause-shown
returns-clause-shown c = λ m none found s.
    shows-end c.args.self.now _ m c.args.name.now c.in-Some.place c.len.result c.len-last.result no_extent none found s
    c.in-Some.ensures.items c.in_ok-push_named.ensures.line (omega (arith, c.len.ensures, c.push_named.new.out.ok.0)) (omega (arith, c.len-last.ensures, c.args.self.now.extents.ok.0))
    (c.end_at.ensures no_extent) refl refl refl refl refl refl
