-- The innermost element's extent has its name.
use Rattle.std.proofs.Common.{◌≡◌, get_or, length, ap, sym, ◌∙◌, subst, arith}
use Rattle.tb_tree.specs.NameTables.{IsNumber}
use Rattle.tb_tree.proofs.KeptLaws.{no_extent}
use Rattle.tb_tree.proofs.EndLaws.{innermost-last}
use Rattle.tb_tree.proofs.draft.Draft.innermost.Goals as goal

pub returns-in_err-extent-clause-name : goal.returns-in_err-extent-clause-name
returns-in_err-extent-clause-name c = λ m s.
    let last = c.in_ok-place.ensures.item in
    let found = innermost-last c.args.self.now m c.deref.result.now c.in_ok-place.field-0.now s c.deref.ensures.value last.3.0 last.1 in
    absurd (omega (arith, c.in_err-extent.ensures.lookup.3, found.2, ap length c.deref-2.ensures.value))

pub returns-clause-name : goal.returns-clause-name
returns-clause-name c = λ m s.
    let last = c.in_ok-place.ensures.item in
    let place = c.in_ok-place.field-0.now in
    let found = innermost-last c.args.self.now m c.deref.result.now place s c.deref.ensures.value last.3.0 last.1 in
    let is : c.in_ok-extent.extent.now ≡ get_or c.args.self.now.extents.items place no_extent =
    c.in_ok-extent.ensures.lookup.3.1 no_extent ∙ ap (λ l. get_or l place no_extent) c.deref-2.ensures.value in
    c.find.ensures found.0 (subst (λ x. IsNumber c.args.self.now.elements found.0 x.name) (sym is) (found.3 no_extent)) ∙ sym found.1
