-- The links give the rows.
use Rattle.std.proofs.Common.{length, map, ap, ap₂, ◌∙◌, arith}
use Rattle.tb_tree.specs.View.{plain_of}
use Rattle.tb_pattern.specs.Plain.{nodes_in}
use Rattle.tb_pattern.specs.View.{edges_of}
use Rattle.tb_pattern.specs.Witness.{witness}
use Rattle.tb_plan.proofs.CountLaws.{count-nodes}
use Rattle.tb_twig.specs.Seen.{nth_node}
use Rattle.tb_twig.specs.Links.{links_at, built_by}
use Rattle.tb_twig.proofs.found.witnesses.Goals as goal

pub rows_at-requires-clause-numbers : goal.rows_at-requires-clause-numbers
rows_at-requires-clause-numbers g c =
    let links = c.in_ok-links.ensures.many in
    omega (arith, links, count-nodes (edges_of c.args.p.now.edges), ap (λ es. nodes_in (edges_of es)) c.as_slice.ensures, ap length c.as_slice-2.ensures.value)

pub returns-clause-rows : goal.returns-clause-rows
returns-clause-rows g c =
    let look = nth_node (plain_of c.args.store.now) in
    c.in_ok-rows.ensures look
    ∙ ap (map (witness 0 (look 0)))
    (ap₂ (λ es links. built_by look (links_at links) 0 (edges_of es) 0) c.as_slice.ensures c.as_slice-2.ensures.value ∙ c.in_ok-links.ensures.links)
