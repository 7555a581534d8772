-- The lists are those of the document.
use Rattle.std.proofs.Common.{◌≡◌, ◌+◌, ◌*◌, ◌∙◌, refl, arith}
use Rattle.tb_tree.specs.View.{plain_of}
use Rattle.tb_tree.specs.Numbers.{count}
use Rattle.tb_label.proofs.PickedLaws.{picked-document, same_item}
use Rattle.tb_label.proofs.FitLaws.{placed-fit, placed-count}
use Rattle.tb_label.proofs.store.Store.build.Goals as goal

pub lists_of-requires-clause-few : goal.lists_of-requires-clause-few
lists_of-requires-clause-few c =
    omega (arith, c.requires.nodes, placed-count (plain_of c.args.tree) c.parts.result.0.now c.parts.result.1.now c.parts.result.2.now c.parts.ensures)

pub lists_of-requires-clause-fit : goal.lists_of-requires-clause-fit
lists_of-requires-clause-fit c = placed-fit (plain_of c.args.tree) c.parts.result.0.now c.parts.result.1.now c.parts.result.2.now c.parts.ensures c.requires.nodes

pub invariant_of-result : goal.invariant_of-result
invariant_of-result c =
    let root = plain_of c.args.tree in
    let last : c.count-last.result ≡ count root = c.count-last.ensures in
    record {
      few = c.requires.nodes;
      document_is = c.item_at-document.ensures ∙ same_item _ 1 _ (2 * count root + 2) 0 0 0 (omega arith) (omega (arith, last)) refl;
      all_listed = λ t. c.in_ok-lists.ensures t ∙ picked-document t root c.parts.result.0.now c.parts.result.1.now c.parts.result.2.now c.parts.ensures;
    }
