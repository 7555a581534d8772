-- The list of a test, or what conditions leave of it.
use Rattle.std.proofs.Common.{sym, ap, ◌∙◌, length}
use Rattle.std.proofs.lemmas.Bool.{eqb-true}
use Rattle.std.proofs.lemmas.List.{nil_from_length}
use Rattle.tb_tree.specs.View.{plain_of}
use Rattle.tb_pattern.specs.declared.pattern.PNode.{out-PNode}
use Rattle.tb_twig.proofs.LayoutLaws.{list-plain, within-list}
use Rattle.tb_twig.proofs.layout.first_list.Goals as goal

pub returns-then-is_empty : goal.returns-then-is_empty
returns-then-is_empty c =
    list-plain (plain_of c.args.store.now) c.args.node.now c.list-list.result.now
    (sym c.as_slice.ensures ∙ nil_from_length c.as_slice.result.now (eqb-true (length c.as_slice.result.now) 0 (sym c.is_empty.ensures ∙ c.if-is_empty.true))) c.list-list.ensures.items

pub holding-requires : goal.holding-requires
holding-requires c = within-list (out-PNode c.args.node.now).test (plain_of c.args.store.now) _ c.list-list.result.now (ap plain_of c.tree.ensures.same) c.list-list.ensures.items
