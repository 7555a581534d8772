-- An edge in vain ends it; any other one is passed.
use Rattle.tb_twig.specs.Links.{links_at}
use Rattle.tb_twig.proofs.RowsLaws.{drop-edge, turn-count}
use Rattle.tb_twig.proofs.VainLaws.{vain-turn}
use Rattle.tb_twig.proofs.vain.is_in_vain.Goals as goal

pub edges-preserved : goal.edges-preserved
edges-preserved c =
    let here = drop-edge c.args.edges.now c.edges.edge-index c.edge-item.result c.edges-test.true c.edge-item.is in (
      turn-count c.args.edges.now c.edges.edge-index c.edge-item.result c.edges.at c.size_below.result _ here c.size_below.ensures c.edges.invariant.0,
      λ look none. c.edges.invariant.1 look (vain-turn look (links_at c.args.links.now) c.edges.at c.size_below.result c.args.n c.edges.edge-index c.args.edges.now c.edge-item.result here c.size_below.ensures none),
    )
