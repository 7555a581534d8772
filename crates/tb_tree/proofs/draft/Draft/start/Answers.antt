-- The element's extent is the one that was kept, or a new one.
use Rattle.std.proofs.Common.{◌+◌, refl, arith}
use Rattle.tb_tree.specs.Drafts.{begun_extent}
use Rattle.tb_tree.proofs.KeptLaws.{written-at, no_extent}
use Rattle.tb_tree.proofs.StartLaws.{shows-start}
use Rattle.tb_tree.proofs.draft.Draft.start.Goals as goal

pub returns-clause-shown : goal.returns-clause-shown
returns-clause-shown c = λ m no_root s.
    shows-start c.args.self.now _ m c.args.name.now c.in_ok-number.number c.in_ok-place.place c.len-at.result (c.len.result + 1) no_extent no_root s
    (omega (arith, c.len-at.ensures, c.args.self.now.text.ok.0)) (omega (arith, c.len.ensures, c.args.self.now.stack.ok.0)) c.in_ok-place.ensures.place c.in_ok-number.ensures.number c.in_ok-number.ensures.more refl
    (written-at _ _ _ _ (λ x. begun_extent x c.in_ok-number.number) no_extent c.in_ok-place.ensures.extents (c.begin_at.ensures no_extent)) c.in_ok-push_named.ensures.line c.in_ok-push.ensures.items refl refl refl refl
