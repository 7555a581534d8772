-- The node of the document that is kept is the one that is seen.
use Rattle.std.proofs.Common.{Some, sym, ap, ◌∙◌}
use Rattle.tb_tree.specs.Printed.{escaped}
use Rattle.tb_tree.specs.Value.{value_of}
use Rattle.tb_table.proofs.NodeLaws.{node-within, node-kept}
use Rattle.tb_table.proofs.documents.Documents.printed.Goals as goal

pub raw-requires-clause-within : goal.raw-requires-clause-within
raw-requires-clause-within c =
    node-within c.args.self.now c.args.node c.tree-tree.result.now c.requires (c.store.ensures ∙ ap Some (sym c.tree-tree.ensures.same))

pub printed_value-requires-clause-within : goal.printed_value-requires-clause-within
printed_value-requires-clause-within c =
    node-within c.args.self.now c.args.node c.tree-tree.result.now c.requires (c.store.ensures ∙ ap Some (sym c.tree-tree.ensures.same))

pub returns-in-Some : goal.returns-in-Some
returns-in-Some c =
    ap Some (c.in-Some.ensures ∙ ap (λ node. escaped (value_of node)) (sym (node-kept c.args.self.now c.args.node c.tree-tree.result.now (c.store.ensures ∙ ap Some (sym c.tree-tree.ensures.same)))))

pub returns : goal.returns
returns c =
    ap Some (c.in_ok-bytes.ensures ∙ ap (λ node. escaped (value_of node)) (sym (node-kept c.args.self.now c.args.node c.tree-tree.result.now (c.store.ensures ∙ ap Some (sym c.tree-tree.ensures.same)))))
