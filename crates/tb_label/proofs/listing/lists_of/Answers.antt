-- One node more is listed.
use Rattle.std.proofs.Common.{◌++◌, get_or, length, map, ap, ap₂, sym, ◌∙◌, subst, arith, append-nil}
use Rattle.std.proofs.lemmas.List.{drop_all}
use Rattle.tb_tree.specs.NameTables.{AreApart}
use Rattle.tb_tree.specs.Extents.{named, name_in}
use Rattle.tb_label.specs.Lists.{in_lists, one_if}
use Rattle.tb_label.specs.Picked.{picked, is_wanted}
use Rattle.tb_label.proofs.PickedLaws.{listing-step, no_extent}
use Rattle.tb_label.proofs.listing.lists_of.Goals as goal

pub extents-preserved : goal.extents-preserved
extents-preserved c =
    let inv = c.extents.invariant in
    let x = get_or c.args.extents.now c.extents.extent-index no_extent in
    let added = c.in_ok-add.ensures.added (subst AreApart (sym inv.elements) c.requires.elements) (subst AreApart (sym inv.attributes) c.requires.attributes)
    (inv.element_lists ∙ ap length (sym inv.elements)) (inv.attribute_lists ∙ ap length (sym inv.attributes)) in
    let named_as = ap₂ (λ es ns. name_in es ns x.kind x.name) inv.elements inv.attributes in
    record {
      numbered = omega (arith, inv.numbered);
      elements = c.in_ok-add.ensures.names.0 ∙ inv.elements;
      attributes = c.in_ok-add.ensures.names.1 ∙ inv.attributes;
      element_lists = c.in_ok-add.ensures.counts.0 ∙ inv.element_lists;
      attribute_lists = c.in_ok-add.ensures.counts.1 ∙ inv.attribute_lists;
      listed = λ t.
          listing-step t c.args.elements.now c.args.attributes.now c.args.extents.now c.extents.extent-index c.extents.number (in_lists c.extents.lists t) (in_lists c.add.new.self t) _ c.item_at.result no_extent
          c.extents-test.true c.item_at.ensures (added t ∙ ap (λ name. in_lists c.extents.lists t ++ one_if (is_wanted t x.kind name) c.item_at.result) named_as) (inv.listed t);
    }

pub returns : goal.returns
returns c = λ t.
    let inv = c.extents.invariant in
    let N = named c.args.elements.now c.args.attributes.now in
    sym (append-nil (in_lists c.extents.lists t))
    ∙ ap (λ l. in_lists c.extents.lists t ++ picked t c.extents.number (map N l)) (sym (drop_all c.extents.extent-index c.args.extents.now (omega arith)))
    ∙ inv.listed t
