-- Trees are written one after the other.
use Rattle.std.proofs.Common.{◌+◌, ◌-◌, ◌++◌, [], ◌∷◌, Some, length, take, drop, get_or, map, refl, ap, ap₂, ◌∙◌, arith}
use Rattle.std.specs.List.{flat_map}
use Rattle.tb_tree.specs.View.{plain_of}
use Rattle.tb_tree.specs.Plain.{plains}
use Rattle.tb_tree.specs.Pages.{with_nodes}
use Rattle.tb_pattern.specs.View.{edge_of, edges_of}
use Rattle.tb_twig.specs.Branches.{inside}
use Rattle.tb_twig.specs.declared.link.Link.{Link}
use Rattle.tb_twig.specs.Narrowed.{link}
use Rattle.tb_twig.proofs.RowsLaws.{drop-edge, turn-count, turn-room}
use Rattle.tb_engine.specs.Told.{told, with_trees}
use Rattle.tb_twig.specs.Trimmed.{no_laid}
use Rattle.tb_engine.specs.Choices.{Choice, choices, chosen_at}
use Rattle.tb_engine.specs.Shown.{ground_of, looked, content_by, whole_of, trees_at, stem_trees, trees_from}
use Rattle.tb_engine.specs.Marked.{finished}
use Rattle.tb_engine.proofs.WritingLaws.{tree_shown}
use Rattle.tb_engine.proofs.BareLaws.{content-bare}
use Rattle.tb_engine.proofs.WriteLaws.{run-turn, run-end, rows-written, group-turn, group-end, edge-turn, page-trees, list-opened, stem-is}
use Rattle.tb_engine.proofs.write.+trees.Goals as goal

pub write_rows-run-init : goal.write_rows-run-init
write_rows-run-init t c = (refl, refl)

pub write_rows-run-preserved : goal.write_rows-run-preserved
write_rows-run-preserved t c =
    let g = ground_of c.args.g.now in
    let rest = take (length c.args.rungs.now - 1) (drop 1 c.args.rungs.now) in
    let trees = λ (chosen : _) (choice : Choice). trees_from g c.args.stem.now rest (c.args.f + 1) (chosen ++ choice ∷ []) in
    let own = told c.run.pen.page c.run.trees in
    let links = c.choices-blank.result.1.now in
    let choice = Some (get_or links c.run.link-index (link 0 0)).below in (
      c.in_ok-write_choice.ensures.back ∙ c.run.invariant.0,
      run-turn (trees c.write_blank.new.chosen.items) links c.run.link-index (link 0 0) own _ _ c.run-test.true
          (c.in_ok-write_choice.ensures.written ∙ ap (λ chosen. with_trees own (trees chosen choice)) c.run.invariant.0) c.run.invariant.1,
    )

pub write_rows-returns-clause-written : goal.write_rows-returns-clause-written
write_rows-returns-clause-written t c =
    let g = ground_of c.args.g.now in
    let s = c.args.stem.now in
    let rungs = c.args.rungs.now in
    let rest = take (length rungs - 1) (drop 1 rungs) in
    let links = c.choices-blank.result.1.now in
    let blanked = told c.write_blank.new.pen.page c.write_blank.new.trees in
    let rung = get_or rungs 0 no_laid in
    rows-written g s rung rungs rest c.args.f c.args.chosen.now.items c.choices-blank.result.0 links (told c.args.pen.now.page c.args.trees.now) blanked (told c.run.pen.page c.run.trees)
    (list-opened rungs no_laid c.in-len1-up.len_at_least)
    (c.choices-blank.ensures ∙ ap (λ a. choices rung.mark (g.run c.args.f) a) (c.chosen_at-above.ensures ∙ ap₂ chosen_at c.as_slice-2.ensures.value c.saturating_sub.ensures))
    c.in_ok-write_blank.ensures.written
    (run-end (λ choice. trees_from g s rest (c.args.f + 1) (c.write_blank.new.chosen.items ++ choice ∷ [])) links c.run.link-index (told c.run.pen.page c.run.trees) _ c.run-test.false c.run.invariant.1
    ∙ ap (λ chosen. with_trees blanked (flat_map (λ choice. trees_from g s rest (c.args.f + 1) (chosen ++ choice ∷ [])) (map Some (map (λ (l : Link). l.below) links)))) c.in_ok-write_blank.ensures.back)

pub write_rows-returns-clause-back : goal.write_rows-returns-clause-back
write_rows-returns-clause-back t c = c.run.invariant.0 ∙ c.in_ok-write_blank.ensures.back

pub write_group-run-init : goal.write_group-run-init
write_group-run-init t c = refl

pub write_group-run-preserved : goal.write_group-run-preserved
write_group-run-preserved t c =
    let g = ground_of c.args.g.now in
    let to = (edge_of c.args.edge.now).to in
    let links = c.run-run.result.now in
    let v = (get_or links c.run.link-index (link 0 0)).below in
    let s = c.stem_of-stem.result in
    group-turn (trees_at g (c.args.f + 1) (whole_of to) (inside to)) links c.run.link-index (link 0 0) c.run.pen.page _ _ c.run-test.true
    (ap (λ t. t.page) c.in_ok-write_trees.ensures ∙ page-trees (told c.run.pen.page 0) (stem_trees g s)
    ∙ ap (λ ts. with_nodes c.run.pen.page (plains ts))
    (stem-is g s (c.args.f + 1) (whole_of to) (inside to) v c.stem_of-stem.ensures.place c.stem_of-stem.ensures.whole c.stem_of-stem.ensures.edges c.stem_of-stem.ensures.node))
    c.run.invariant

pub write_group-returns : goal.write_group-returns
write_group-returns t c =
    let g = ground_of c.args.g.now in
    let to = (edge_of c.args.edge.now).to in
    let T = trees_at g (c.args.f + 1) (whole_of to) (inside to) in
    group-end T c.run-run.result.now c.run.link-index c.run.pen.page _ c.run-test.false c.run.invariant
    ∙ ap (λ ls. with_nodes c.args.pen.now.page (plains (flat_map T (map (λ (l : Link). l.below) ls)))) c.run-run.ensures

pub write_inside-write_offer-requires : goal.write_inside-write_offer-requires
write_inside-write_offer-requires t c =
    let here = drop-edge c.args.edges.now c.edges.edge-index c.edge-item.result c.edges-test.true c.edge-item.is in
    let room = turn-room c.args.edges.now c.edges.edge-index c.edge-item.result c.edges.at _ here c.edges.invariant.1 in
    (omega (arith, room, c.edges.invariant.0, c.decreases), omega (arith, room, c.requires.numbers))

pub write_inside-edges-preserved : goal.write_inside-edges-preserved
write_inside-edges-preserved t c =
    let here = drop-edge c.args.edges.now c.edges.edge-index c.edge-item.result c.edges-test.true c.edge-item.is in (
      omega (arith, c.edges.invariant.0),
      turn-count c.args.edges.now c.edges.edge-index c.edge-item.result c.edges.at c.size_below-size.result _ here c.size_below-size.ensures c.edges.invariant.1,
      edge-turn (ground_of c.args.g.now) c.edges.at c.size_below-size.result c.args.n c.edges.edge-index c.args.edges.now c.edge-item.result c.edges.left.now c.behind-left.result.now c.edges.pen.page
          c.write_offer.new.pen.page _ here c.size_below-size.ensures c.behind-left.ensures c.in_ok-write_offer.ensures c.edges.invariant.2,
    )

pub write_tree-returns : goal.write_tree-returns
write_tree-returns t c =
    let g = ground_of c.args.g.now in
    let s = c.args.stem.now in
    let node = looked (plain_of c.args.g.now.tree.now) s.node in
    let inner = content_by g s.place (edges_of s.edges.now) s.node c.args.row.now in
    c.in_ok-finish.ensures
    ∙ ap (finished node) (c.in_ok-write_inside.ensures ∙ ap (λ p. with_nodes p inner) c.in_ok-begin.ensures)
    ∙ tree_shown c.args.pen.now.page s.whole node inner (λ is. c.in_default.not-Text (c.kind_at.ensures ∙ is)) (content-bare g s.place (edges_of s.edges.now) s.node c.args.row.now)
