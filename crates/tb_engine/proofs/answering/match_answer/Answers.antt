-- The links give the naive witnesses.
use Rattle.std.proofs.Common.{map, ap, ap₂, ◌∙◌}
use Rattle.tb_tree.specs.View.{plain_of}
use Rattle.tb_pattern.specs.View.{edges_of}
use Rattle.tb_pattern.specs.WitnessTree.{witness_tree}
use Rattle.tb_query.specs.Answer.{counted}
use Rattle.tb_twig.specs.Links.{links_at, built_by}
use Rattle.tb_twig.specs.Seen.{nth_node}
use Rattle.tb_engine.proofs.answering.match_answer.Goals as goal

pub returns-clause-answer : goal.returns-clause-answer
returns-clause-answer g c =
    let root = plain_of c.args.store.now in
    let es = edges_of c.args.p.now.edges in
    c.in_ok-count.ensures
    ∙ ap₂ (λ es' root'. counted (map (witness_tree es') (built_by (nth_node root') (links_at c.as_slice-2.result.now) 0 es' 0))) (ap edges_of c.as_slice-edges.ensures) (ap plain_of c.tree.ensures.same)
    ∙ ap (λ links. counted (map (witness_tree es) (built_by (nth_node root) (links_at links) 0 es 0))) c.as_slice-2.ensures.value
    ∙ ap (λ os. counted (map (witness_tree es) os)) c.in_ok-laid.ensures.links
