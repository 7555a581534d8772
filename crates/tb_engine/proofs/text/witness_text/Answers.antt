-- All trees of the document node.
use Rattle.std.proofs.Common.{false, ap, ap₂, ◌∙◌, arith}
use Rattle.tb_tree.specs.View.{plain_of}
use Rattle.tb_pattern.specs.Plain.{nodes_in}
use Rattle.tb_pattern.specs.View.{edges_of}
use Rattle.tb_plan.proofs.CountLaws.{count-nodes}
use Rattle.tb_twig.specs.Links.{links_at, built_by}
use Rattle.tb_twig.specs.Links.{lists_in}
use Rattle.tb_twig.specs.Seen.{nth_node}
use Rattle.tb_engine.specs.Told.{told, with_trees}
use Rattle.tb_engine.specs.Shown.{ground, stem_trees}
use Rattle.tb_engine.proofs.WriteLaws.{stem-is}
use Rattle.tb_engine.proofs.TextLaws.{text-counted, trees-are}
use Rattle.tb_engine.proofs.text.witness_text.Goals as goal

pub is_in_vain-requires-clause-numbers : goal.is_in_vain-requires-clause-numbers
is_in_vain-requires-clause-numbers c = omega (arith, count-nodes (edges_of c.args.edges.now), c.requires.many)

pub write_trees-requires : goal.write_trees-requires
write_trees-requires c = record {
  numbers = omega (arith, c.document.ensures.place, ap (λ es. nodes_in (edges_of es)) c.document.ensures.edges, count-nodes (edges_of c.args.edges.now), c.requires.few);
}

pub returns : goal.returns
returns c =
    let root = plain_of c.args.tree.now in
    let es = edges_of c.args.edges.now in
    let laid = c.args.laid.now in
    let links = c.args.links.now in
    let s = c.document.result in
    text-counted es (built_by (nth_node root) (links_at links) 0 es 0) (stem_trees (ground (lists_in links) root laid) s) c.write_trees.new.pen.page c.in_ok-trees.trees c.in_ok-text.text.items
    (stem-is (ground (lists_in links) root laid) s 0 false es 0 c.document.ensures.place c.document.ensures.whole (ap edges_of c.document.ensures.edges) c.document.ensures.node
    ∙ trees-are root es laid links c.requires.laid c.requires.below c.requires.trimmed)
    (c.in_ok-trees.ensures ∙ ap₂ (λ p ls. with_trees (told p 0) (stem_trees (ground ls root laid) s)) c.new-3.ensures c.new-2.ensures)
    c.in_ok-text.ensures
    (omega (arith, c.len.ensures, c.len.type_inv))
