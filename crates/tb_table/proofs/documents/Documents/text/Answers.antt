-- The node of the document that is kept is the one that is seen.
use Rattle.std.proofs.Common.{Some, sym, ap, ◌∙◌}
use Rattle.tb_tree.specs.Nodes.{node_at}
use Rattle.tb_tree.specs.Value.{value_of}
use Rattle.tb_tree.specs.View.{plain_of}
use Rattle.tb_table.proofs.NodeLaws.{node-within, node-kept}
use Rattle.tb_table.proofs.documents.Documents.text.Goals as goal

pub lent-requires-clause-within : goal.lent-requires-clause-within
lent-requires-clause-within c =
    node-within c.args.self.now c.args.node c.tree-tree.result.now c.requires (c.store.ensures ∙ ap Some (sym c.tree-tree.ensures.same))

pub value-requires-clause-within : goal.value-requires-clause-within
value-requires-clause-within c =
    node-within c.args.self.now c.args.node c.tree-tree.result.now c.requires (c.store.ensures ∙ ap Some (sym c.tree-tree.ensures.same))

pub returns-in-Some : goal.returns-in-Some
returns-in-Some c =
    c.in-Some.ensures ∙ ap value_of (sym (node-kept c.args.self.now c.args.node c.tree-tree.result.now (c.store.ensures ∙ ap Some (sym c.tree-tree.ensures.same))))

pub returns : goal.returns
returns c =
    c.in_ok-text.ensures ∙ ap value_of (sym (node-kept c.args.self.now c.args.node c.tree-tree.result.now (c.store.ensures ∙ ap Some (sym c.tree-tree.ensures.same))))
