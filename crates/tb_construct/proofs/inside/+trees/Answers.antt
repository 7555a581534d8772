-- Trees are put in edge after edge, inside an element.
use Rattle.std.proofs.Common.{ap, ◌∙◌, map}
use Rattle.tb_tree.specs.View.{plain_of, plains_of}
use Rattle.tb_pattern.specs.View.{pattern_at}
use Rattle.tb_pattern.specs.Witness.{together}
use Rattle.tb_pattern.specs.WitnessTree.{trees_of_all}
use Rattle.tb_pattern.specs.declared.pattern.Edge.{out-Edge}
use Rattle.tb_construct.specs.Seen.{nth_node, seen}
use Rattle.tb_construct.specs.Kids.{with_kids}
use Rattle.tb_construct.proofs.PutLaws.{not-element}
use Rattle.tb_construct.proofs.TreeLaws.{drop-item, offers-turn, element-tree, leaf-tree}
use Rattle.tb_construct.proofs.inside.+trees.Goals as goal

pub node_tree-returns-in_ok-put_offers-in-Elem : goal.node_tree-returns-in_ok-put_offers-in-Elem
node_tree-returns-in_ok-put_offers-in-Elem t c =
    element-tree (nth_node (plain_of c.args.tree.now)) c.args.to.now c.args.w.now c.index.result c.in_ok-leaf.leaf c.in-Elem.name c.in-Elem.kids c.into_vec-kids.result.items c.put_offers.new.kids.items c.from_vec.result
    c.as_slice.result.now c.as_slice-in-Elem.result.now c.in-Elem.is c.in_ok-leaf.ensures c.index.ensures c.into_vec-kids.ensures c.as_slice.ensures c.as_slice-in-Elem.ensures
    c.in_ok-put_offers-in-Elem.ensures c.from_vec.ensures

pub node_tree-returns-in_default : goal.node_tree-returns-in_default
node_tree-returns-in_default t c =
    leaf-tree (nth_node (plain_of c.args.tree.now)) c.args.to.now c.args.w.now c.index.result c.in_ok-leaf.leaf c.in_ok-leaf.ensures c.index.ensures (not-element c.in_ok-leaf.leaf c.in_default.not-Elem)

pub put_offers-edges-preserved : goal.put_offers-edges-preserved
put_offers-edges-preserved t c =
    let look = nth_node (plain_of c.args.tree.now) in
    let e = c.edge-item.result in
    let made = plains_of c.edges.kids.items in
    offers-turn look c.args.edges.now c.edges.edge-index e c.edges.left.now c.in-Some.others.now c.in-Some.offer.now made (plains_of c.put_trees.new.kids.items) _
    (drop-item c.args.edges.now c.edges.edge-index e c.edges-test.true c.edge-item.is) c.in-Some.ensures.cases.0
    (c.in_ok-put_trees.ensures ∙ ap (λ ws. with_kids made (trees_of_all (pattern_at (out-Edge e).to) (together (map (seen look) ws)))) c.as_slice.ensures) c.edges.invariant
