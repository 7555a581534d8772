-- Each edge brings itself and all below it.
use Rattle.std.proofs.Common.{◌+◌, ◌++◌, length, map, refl, ap, ◌∙◌, arith}
use Rattle.std.proofs.lemmas.List.{length_push}
use Rattle.tb_tree.specs.View.{plain_of}
use Rattle.tb_pattern.specs.Plain.{nodes_in}
use Rattle.tb_pattern.specs.View.{edge_of, edges_of}
use Rattle.tb_twig.specs.Branches.{Branch, branch_to, branches, below_of}
use Rattle.tb_twig.specs.Lists.{items_in, branch_of, first_list}
use Rattle.tb_twig.proofs.RowsLaws.{drop-edge, turn-count, below-edge}
use Rattle.tb_twig.proofs.LayoutLaws.{laid-length, lay-next, lay-inner}
use Rattle.tb_twig.proofs.layout.+layout.Goals as goal

pub lay_out-edges-preserved : goal.lay_out-edges-preserved
lay_out-edges-preserved t c =
    let es = c.args.edges.now in
    let i = c.edges.edge-index in
    let e = c.edge-item.result in
    let n = length c.edges.laid.items in
    let first_of = λ (s : Branch). first_list (plain_of c.args.store.now) s.to in
    let here = drop-edge es i e c.edges-test.true c.edge-item.is in
    let long = laid-length c.edges.laid.items c.lay_edge.new.laid.items c.args.up n (edge_of e) c.in_ok-lay_edge.ensures.edges in
    record {
      count = omega (arith, long, turn-count es i e n (nodes_in (below_of (edge_of e))) _ here refl c.edges.invariant.count);
      laid = lay-next branch_of c.args.up n (length c.lay_edge.new.laid.items) i es e c.edges.laid.items c.lay_edge.new.laid.items _ here c.in_ok-lay_edge.ensures.edges long c.edges.invariant.laid;
      lists = lay-next first_of c.args.up n (length c.lay_edge.new.laid.items) i es e (map items_in c.edges.lists.items) (map items_in c.lay_edge.new.lists.items) _ here c.in_ok-lay_edge.ensures.lists long c.edges.invariant.lists;
    }

pub lay_edge-returns-clause-edges : goal.lay_edge-returns-clause-edges
lay_edge-returns-clause-edges t c =
    let e = edge_of c.args.edge.now in
    let n = length c.args.laid.now.items in
    let mid = c.push_edge.new.laid.items in
    let below = ap edges_of c.as_slice.ensures ∙ below-edge c.args.edge.now in
    lay-inner branch_of c.args.up n (c.len.result + 1) (length mid) e c.args.laid.now.items mid c.lay_out.new.laid.items c.in_ok-push_edge.ensures.edge
    (c.in_ok-lay_out.ensures.edges ∙ ap (λ bs. mid ++ map branch_of (branches (c.len.result + 1) (length mid) bs)) below)
    (omega (arith, c.len.ensures, c.args.laid.now.ok.0)) (ap length c.in_ok-push_edge.ensures.edge ∙ length_push c.args.laid.now.items (branch_of (branch_to c.args.up e)))

pub lay_edge-returns-clause-lists : goal.lay_edge-returns-clause-lists
lay_edge-returns-clause-lists t c =
    let e = edge_of c.args.edge.now in
    let n = length c.args.laid.now.items in
    let mid = c.push_edge.new.laid.items in
    let first_of = λ (s : Branch). first_list (plain_of c.args.store.now) s.to in
    let below = ap edges_of c.as_slice.ensures ∙ below-edge c.args.edge.now in
    lay-inner first_of c.args.up n (c.len.result + 1) (length mid) e (map items_in c.args.lists.now.items) (map items_in c.push_edge.new.lists.items) (map items_in c.lay_out.new.lists.items) c.in_ok-push_edge.ensures.list
    (c.in_ok-lay_out.ensures.lists ∙ ap (λ bs. map items_in c.push_edge.new.lists.items ++ map first_of (branches (c.len.result + 1) (length mid) bs)) below)
    (omega (arith, c.len.ensures, c.args.laid.now.ok.0)) (ap length c.in_ok-push_edge.ensures.edge ∙ length_push c.args.laid.now.items (branch_of (branch_to c.args.up e)))
