-- The next name gets the next number, and an empty list.
use Rattle.std.proofs.Common.{◌+◌, [], get_or, map, length, subst, ap, ◌∙◌, Vec, Global}
use Rattle.std.proofs.lemmas.List.{get_or_read, length_push}
use Rattle.tb_span.specs.declared.item.Item.{Item}
use Rattle.tb_tree.specs.NameTables.{IsNumber}
use Rattle.tb_label.proofs.NamesLaws.{names-next, empty-more}
use Rattle.tb_label.proofs.lists.Names.new.Goals as goal

pub names-preserved : goal.names-preserved
names-preserved c =
    let inv = c.names.invariant in
    let names = c.args.names.now in
    let i = c.names.name-index in
    let p = c.in_ok-push.ensures.items in
    record {
      names = names-next names c.names.table c.number.new.self i c.in_ok-number.field-0 c.requires.apart c.names-test.true inv.names c.in_ok-number.ensures.more
          (subst (λ q. IsNumber c.number.new.self q c.in_ok-number.field-0) (c.as_slice.ensures ∙ get_or_read names i c.name-item.result c.names-test.true c.name-item.is []) c.in_ok-number.ensures.number);
      empty = λ k.
          ap (λ l. get_or (map (λ (v : Vec Item Global). v.items) l) k []) p ∙ empty-more c.names.lists.items c.new.result c.new.ensures.items inv.empty k;
      count = ap length p ∙ length_push _ _ ∙ ap (λ n. n + 1) inv.count;
    }
