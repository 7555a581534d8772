-- The tests that an element and an attribute meet.
use Rattle.std.proofs.Common.{◌≡◌, ◌<◌, ◌++◌, refl, sym, subst, length, arith}
use Rattle.tb_tree.specs.Extents.{name_in}
use Rattle.tb_label.specs.declared.lists.Lists.{Lists}
use Rattle.tb_label.specs.Lists.{in_lists, one_if}
use Rattle.tb_label.specs.Picked.{is_wanted, IsKnown}
use Rattle.tb_label.proofs.AddLaws.{added-element, added-attribute}
use Rattle.tb_label.proofs.lists.Lists.add.Goals as goal

pub returns-in_ok-push-in-Element-2-clause-added : goal.returns-in_ok-push-in-Element-2-clause-added
returns-in_ok-push-in-Element-2-clause-added c = λ te ta le la t.
    let old = c.args.self.now in
    let n = c.args.extent.now.name in
    let known : n < length old.elements.lists.items = subst (λ k. IsKnown (length old.elements.lists.items) (length old.attributes.lists.items) k n) c.in-Element.is c.requires.known in
    let new : Lists = record { elements = c.push.new.self; all_elements = c.push-in-Element.new.self; attributes = old.attributes; all_attributes = old.all_attributes; texts = old.texts } in
    subst (λ k. in_lists new t ≡ in_lists old t ++ one_if (is_wanted t k (name_in old.elements.names old.attributes.names k n)) c.args.item.now) (sym c.in-Element.is)
    (added-element old new n c.args.item.now te (omega (arith, known, le)) c.in_ok-push-in-Element.ensures.names c.in_ok-push-in-Element.ensures.pushed c.in_ok-push-in-Element-2.ensures.items refl refl refl t)

pub returns-in_ok-push-in-Attribute-2-clause-added : goal.returns-in_ok-push-in-Attribute-2-clause-added
returns-in_ok-push-in-Attribute-2-clause-added c = λ te ta le la t.
    let old = c.args.self.now in
    let n = c.args.extent.now.name in
    let known : n < length old.attributes.lists.items = subst (λ k. IsKnown (length old.elements.lists.items) (length old.attributes.lists.items) k n) c.in-Attribute.is c.requires.known in
    let new : Lists = record { elements = old.elements; all_elements = old.all_elements; attributes = c.push-in-Attribute.new.self; all_attributes = c.push-in-Attribute-2.new.self; texts = old.texts } in
    subst (λ k. in_lists new t ≡ in_lists old t ++ one_if (is_wanted t k (name_in old.elements.names old.attributes.names k n)) c.args.item.now) (sym c.in-Attribute.is)
    (added-attribute old new n c.args.item.now ta (omega (arith, known, la)) c.in_ok-push-in-Attribute.ensures.names c.in_ok-push-in-Attribute.ensures.pushed c.in_ok-push-in-Attribute-2.ensures.items refl refl refl t)
