-- Rows grow edge by edge, and witnesses link by link.
use Rattle.std.proofs.Common.{◌+◌, ◌++◌, map, get_or, refl, ap, ◌∙◌, arith}
use Rattle.std.specs.List.{flat_map}
use Rattle.std.proofs.lemmas.List.{take_all}
use Rattle.tb_pattern.specs.View.{edge_of, edges_of}
use Rattle.tb_pattern.specs.Witness.{witness}
use Rattle.tb_twig.specs.Branches.{below_of}
use Rattle.tb_twig.specs.Links.{links_at, leading_from, built_by}
use Rattle.tb_twig.specs.Seen.{seen}
use Rattle.tb_twig.specs.declared.link.Link.{Link}
use Rattle.tb_twig.specs.Narrowed.{link}
use Rattle.tb_twig.proofs.RowsLaws.{drop-edge, turn-count, turn-room, rows-init, rows-turn, rows-end, witnesses-turn, mark-edge, below-edge}
use Rattle.tb_twig.proofs.rows.+rows.Goals as goal

pub rows_below-edges-init : goal.rows_below-edges-init
rows_below-edges-init t c =
    (refl, λ look. rows-init look c.in_ok-rows.rows.items (built_by look (links_at c.args.links.now) c.args.e (edges_of c.args.edges.now) c.args.n) c.in_ok-rows.ensures)

pub rows_below-overflow_add-at : goal.rows_below-overflow_add-at
rows_below-overflow_add-at t c =
    let here = drop-edge c.args.edges.now c.edges.edge-index c.edge-item.result c.edges-test.true c.edge-item.is in
    let room = turn-room c.args.edges.now c.edges.edge-index c.edge-item.result c.edges.at _ here c.edges.invariant.0 in
    omega (arith, room, c.requires.numbers, c.requires.few)

pub rows_below-edges-preserved : goal.rows_below-edges-preserved
rows_below-edges-preserved t c =
    let here = drop-edge c.args.edges.now c.edges.edge-index c.edge-item.result c.edges-test.true c.edge-item.is in (
      turn-count c.args.edges.now c.edges.edge-index c.edge-item.result c.edges.at c.size_below.result _ here c.size_below.ensures c.edges.invariant.0,
      λ look. rows-turn look (links_at c.args.links.now) c.edges.at c.size_below.result c.args.n c.edges.edge-index c.args.edges.now c.edge-item.result c.edges.rows.items _ c.in_ok-witnesses.witnesses.items c.in_ok-offers.offers.items c.in_ok-rows-2.rows.items _
          here c.size_below.ensures (mark-edge c.edge-item.result) (c.in_ok-witnesses.ensures look) c.in_ok-offers.ensures c.in_ok-rows-2.ensures (c.edges.invariant.1 look),
    )

pub rows_below-returns : goal.rows_below-returns
rows_below-returns t c =
    λ look. rows-end look (links_at c.args.links.now) c.edges.at c.args.n c.args.edges.now c.edges.edge-index c.edges.rows.items _ c.edges-test.false (c.edges.invariant.1 look)

pub witnesses_below-links-preserved : goal.witnesses_below-links-preserved
witnesses_below-links-preserved t c =
    let links = links_at c.args.links.now in
    let own = c.leading_from-link-items.result.now in
    let m = (get_or own c.links.link-index (link 0 0)).below in
    λ look.
    witnesses-turn look (λ k. built_by look links (c.args.e + 1) (below_of (edge_of c.args.edge.now)) k) own c.links.link-index c.links.witnesses.items c.push_all.new.witnesses.items (link 0 0)
    c.links-test.true (c.links.invariant look)
    (c.in_ok-push_all.ensures look
    ∙ ap (λ rs. map (seen look) c.links.witnesses.items ++ map (witness m (look m)) rs)
    (c.in_ok-rows.ensures look ∙ ap (λ es. built_by look links (c.args.e + 1) es m) (ap edges_of c.as_slice.ensures ∙ below-edge c.args.edge.now)))

pub witnesses_below-returns : goal.witnesses_below-returns
witnesses_below-returns t c =
    λ look.
    c.links.invariant look
    ∙ ap (λ ls. flat_map (λ m. map (witness m (look m)) (built_by look (links_at c.args.links.now) (c.args.e + 1) (below_of (edge_of c.args.edge.now)) m)) (map (λ (l : Link). l.below) ls))
    (take_all c.links.link-index c.leading_from-link-items.result.now c.links-test.false ∙ c.leading_from-link-items.ensures ∙ ap (leading_from c.args.n) c.links_of.ensures.are)
