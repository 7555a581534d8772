-- The nodes that are built are this one alone.
use Rattle.std.proofs.Common.{[], length, ap, sym, ◌∙◌, arith}
use Rattle.std.proofs.lemmas.List.{same_from_push}
use Rattle.tb_tree.specs.Plain.{one}
use Rattle.tb_tree.specs.View.{plain_of}
use Rattle.tb_tree.proofs.BuiltLaws.{one-node}
use Rattle.tb_tree.proofs.built.node_of.Goals as goal

pub unreachable-requires : goal.unreachable-requires
unreachable-requires c =
    let (level, node, are) = c.requires in
    let alone = one-node c.in_ok-nodes.nodes.items node (c.in_ok-nodes.ensures level (one node) are) in
    omega (arith, ap length alone.1, c.in-None.ensures.cases.0, c.in_ok-nodes.nodes.ok.0)

pub returns : goal.returns
returns c = λ level node are.
    let alone = one-node c.in_ok-nodes.nodes.items node (c.in_ok-nodes.ensures level (one node) are) in
    ap plain_of (same_from_push c.pop.new.self.items [] c.in-Some.node alone.0 (sym c.in-Some.ensures.items ∙ alone.1)).1 ∙ alone.2
