-- Each join keeps what the joins know.
use Rattle.std.proofs.Common.{Vec, Global, length, map, take, get_or, sym, ap, ◌∙◌, subst}
use Rattle.std.proofs.lemmas.List.{length-map}
use Rattle.tb_tree.specs.View.{plain_of}
use Rattle.tb_pattern.specs.View.{edges_of}
use Rattle.tb_plan.specs.Orders.{IsOrderOf}
use Rattle.tb_twig.specs.Lists.{items_in}
use Rattle.tb_twig.specs.Links.{lists_in}
use Rattle.tb_twig.specs.Trimmed.{AreTrimmed}
use Rattle.tb_twig.specs.Calls.{AreTraced}
use Rattle.tb_twig.specs.declared.link.Link.{Link}
use Rattle.tb_twig.proofs.MatchingLaws.{holds-first, order-within, edge-within, edge-upper, edge-joinable, edge-above, edge-below, edge-few, edge-joined, turn-holds, end-holds, trim-above, all-rising, matched-links, matched-many, matched-trace, matched-trimmed, matched-below}
use Rattle.tb_twig.proofs.matching.join_edges.Goals as goal

pub order-init : goal.order-init
order-init g c = record {
  laid = c.in_ok-joins.ensures.laid;
  holds =
      holds-first (plain_of c.args.store.now) (edges_of c.args.p.now.edges) (map items_in c.in_ok-joins.joins.lists.items) (lists_in c.in_ok-joins.joins.links.items) (map (λ t. t.size) c.in_ok-joins.joins.trace.items)
      c.in_ok-joins.ensures.lists c.in_ok-joins.ensures.links (ap (map (λ t. t.size)) c.in_ok-joins.ensures.trace);
}

pub join_edge-requires-clause-within : goal.join_edge-requires-clause-within
join_edge-requires-clause-within g c κs within =
    let es = edges_of c.args.p.now.edges in
    let own = c.edges-e-items.result.now in
    let j = c.order.joins in
    let ordered = subst (λ o. IsOrderOf o es) (sym c.edges-e-items.ensures.listed) c.requires.order in
    edge-within (plain_of c.args.store.now) es j.laid.items c.order.invariant.laid (take c.order.e-index own) (map items_in j.lists.items) (lists_in j.links.items) (map (λ t. t.size) j.trace.items) c.order.invariant.holds
    (get_or own c.order.e-index 0) (order-within es own ordered c.order.e-index c.order-test.true)

pub join_edge-requires-clause-upper : goal.join_edge-requires-clause-upper
join_edge-requires-clause-upper g c κs within =
    let es = edges_of c.args.p.now.edges in
    let own = c.edges-e-items.result.now in
    let j = c.order.joins in
    let ordered = subst (λ o. IsOrderOf o es) (sym c.edges-e-items.ensures.listed) c.requires.order in
    edge-upper (plain_of c.args.store.now) es j.laid.items c.order.invariant.laid (take c.order.e-index own) (map items_in j.lists.items) (lists_in j.links.items) (map (λ t. t.size) j.trace.items) c.order.invariant.holds
    (get_or own c.order.e-index 0) (order-within es own ordered c.order.e-index c.order-test.true)

pub join_edge-requires-clause-joinable : goal.join_edge-requires-clause-joinable
join_edge-requires-clause-joinable g c κs within =
    let es = edges_of c.args.p.now.edges in
    let own = c.edges-e-items.result.now in
    let j = c.order.joins in
    let ordered = subst (λ o. IsOrderOf o es) (sym c.edges-e-items.ensures.listed) c.requires.order in
    edge-joinable (plain_of c.args.store.now) es j.laid.items c.order.invariant.laid (take c.order.e-index own) (map items_in j.lists.items) (lists_in j.links.items) (map (λ t. t.size) j.trace.items) c.order.invariant.holds
    (get_or own c.order.e-index 0) (order-within es own ordered c.order.e-index c.order-test.true)

pub join_edge-requires-clause-above : goal.join_edge-requires-clause-above
join_edge-requires-clause-above g c κs within =
    let es = edges_of c.args.p.now.edges in
    let own = c.edges-e-items.result.now in
    let j = c.order.joins in
    let ordered = subst (λ o. IsOrderOf o es) (sym c.edges-e-items.ensures.listed) c.requires.order in
    edge-above (plain_of c.args.store.now) es j.laid.items c.order.invariant.laid (take c.order.e-index own) (map items_in j.lists.items) (lists_in j.links.items) (map (λ t. t.size) j.trace.items) c.order.invariant.holds
    (get_or own c.order.e-index 0) (order-within es own ordered c.order.e-index c.order-test.true)

pub join_edge-requires-clause-below : goal.join_edge-requires-clause-below
join_edge-requires-clause-below g c κs within =
    let es = edges_of c.args.p.now.edges in
    let own = c.edges-e-items.result.now in
    let j = c.order.joins in
    let ordered = subst (λ o. IsOrderOf o es) (sym c.edges-e-items.ensures.listed) c.requires.order in
    edge-below (plain_of c.args.store.now) es j.laid.items c.order.invariant.laid (take c.order.e-index own) (map items_in j.lists.items) (lists_in j.links.items) (map (λ t. t.size) j.trace.items) c.order.invariant.holds
    (get_or own c.order.e-index 0) (order-within es own ordered c.order.e-index c.order-test.true)

pub join_edge-requires-clause-few : goal.join_edge-requires-clause-few
join_edge-requires-clause-few g c κs within =
    let es = edges_of c.args.p.now.edges in
    let own = c.edges-e-items.result.now in
    let j = c.order.joins in
    let ordered = subst (λ o. IsOrderOf o es) (sym c.edges-e-items.ensures.listed) c.requires.order in
    edge-few (plain_of c.args.store.now) es j.laid.items c.order.invariant.laid (take c.order.e-index own) (map items_in j.lists.items) (lists_in j.links.items) (map (λ t. t.size) j.trace.items) c.order.invariant.holds
    (get_or own c.order.e-index 0) (order-within es own ordered c.order.e-index c.order-test.true) c.tree.ensures.few

pub order-preserved : goal.order-preserved
order-preserved g c =
    let root = plain_of c.args.store.now in
    let es = edges_of c.args.p.now.edges in
    let own = c.edges-e-items.result.now in
    let j = c.order.joins in
    let new = c.join_edge.new.joins in
    let ordered = subst (λ o. IsOrderOf o es) (sym c.edges-e-items.ensures.listed) c.requires.order in
    record {
      laid = c.in_ok-join_edge.ensures.laid ∙ c.order.invariant.laid;
      holds =
          turn-holds root es own c.order.e-index (map items_in new.lists.items) (lists_in new.links.items) (map (λ t. t.size) new.trace.items) c.order-test.true
          (edge-joined root es j.laid.items c.order.invariant.laid (take c.order.e-index own) (map items_in j.lists.items) (lists_in j.links.items) (map (λ t. t.size) j.trace.items) c.order.invariant.holds
          (get_or own c.order.e-index 0) (order-within es own ordered c.order.e-index c.order-test.true)
          (map items_in new.lists.items) (lists_in new.links.items) (map (λ t. t.size) new.trace.items) c.in_ok-join_edge.ensures.lists c.in_ok-join_edge.ensures.links c.in_ok-join_edge.ensures.trace);
    }

pub trim-requires-clause-above : goal.trim-requires-clause-above
trim-requires-clause-above g c =
    let es = edges_of c.args.p.now.edges in
    let j = c.order.joins in
    trim-above es c.as_slice.result.now (length j.links.items) (c.as_slice.ensures.value ∙ c.order.invariant.laid)
    (sym (length-map j.links.items (λ (v : Vec Link Global). v.items)) ∙ c.order.invariant.holds.core.many_links)

pub trim-requires-clause-rise : goal.trim-requires-clause-rise
trim-requires-clause-rise g c =
    let j = c.order.joins in
    let core = c.order.invariant.holds.core in
    all-rising j.links.items _ core.many_links core.rise

pub returns-clause-links : goal.returns-clause-links
returns-clause-links g c =
    let root = plain_of c.args.store.now in
    let es = edges_of c.args.p.now.edges in
    let own = c.edges-e-items.result.now in
    let j = c.order.joins in
    let ordered = subst (λ o. IsOrderOf o es) (sym c.edges-e-items.ensures.listed) c.requires.order in
    let held = end-holds root es own c.order.e-index (map items_in j.lists.items) (lists_in j.links.items) (map (λ t. t.size) j.trace.items) c.order-test.false c.order.invariant.holds in
    matched-links root es own ordered c.as_slice.result.now (c.as_slice.ensures.value ∙ c.order.invariant.laid) (map items_in j.lists.items) (lists_in j.links.items) j.trace.items held c.trim.new.links.items c.in_ok-trim.ensures.trimmed

pub returns-clause-many : goal.returns-clause-many
returns-clause-many g c =
    let root = plain_of c.args.store.now in
    let es = edges_of c.args.p.now.edges in
    let own = c.edges-e-items.result.now in
    let j = c.order.joins in
    let ordered = subst (λ o. IsOrderOf o es) (sym c.edges-e-items.ensures.listed) c.requires.order in
    let held = end-holds root es own c.order.e-index (map items_in j.lists.items) (lists_in j.links.items) (map (λ t. t.size) j.trace.items) c.order-test.false c.order.invariant.holds in
    matched-many root es own ordered c.as_slice.result.now (c.as_slice.ensures.value ∙ c.order.invariant.laid) (map items_in j.lists.items) (lists_in j.links.items) j.trace.items held c.trim.new.links.items c.in_ok-trim.ensures.trimmed

pub returns-clause-trace : goal.returns-clause-trace
returns-clause-trace g c =
    let root = plain_of c.args.store.now in
    let es = edges_of c.args.p.now.edges in
    let own = c.edges-e-items.result.now in
    let j = c.order.joins in
    let ordered = subst (λ o. IsOrderOf o es) (sym c.edges-e-items.ensures.listed) c.requires.order in
    let held = end-holds root es own c.order.e-index (map items_in j.lists.items) (lists_in j.links.items) (map (λ t. t.size) j.trace.items) c.order-test.false c.order.invariant.holds in
    subst (λ o. AreTraced root es o j.trace.items) c.edges-e-items.ensures.listed
    (matched-trace root es own ordered c.as_slice.result.now (c.as_slice.ensures.value ∙ c.order.invariant.laid) (map items_in j.lists.items) (lists_in j.links.items) j.trace.items held c.trim.new.links.items c.in_ok-trim.ensures.trimmed)

pub returns-clause-below : goal.returns-clause-below
returns-clause-below g c =
    let root = plain_of c.args.store.now in
    let es = edges_of c.args.p.now.edges in
    let own = c.edges-e-items.result.now in
    let j = c.order.joins in
    let ordered = subst (λ o. IsOrderOf o es) (sym c.edges-e-items.ensures.listed) c.requires.order in
    let held = end-holds root es own c.order.e-index (map items_in j.lists.items) (lists_in j.links.items) (map (λ t. t.size) j.trace.items) c.order-test.false c.order.invariant.holds in
    matched-below root es own ordered c.as_slice.result.now (c.as_slice.ensures.value ∙ c.order.invariant.laid) (map items_in j.lists.items) (lists_in j.links.items) j.trace.items held c.trim.new.links.items c.in_ok-trim.ensures.trimmed

pub returns-clause-trimmed : goal.returns-clause-trimmed
returns-clause-trimmed g c =
    let root = plain_of c.args.store.now in
    let es = edges_of c.args.p.now.edges in
    let own = c.edges-e-items.result.now in
    let j = c.order.joins in
    let ordered = subst (λ o. IsOrderOf o es) (sym c.edges-e-items.ensures.listed) c.requires.order in
    let held = end-holds root es own c.order.e-index (map items_in j.lists.items) (lists_in j.links.items) (map (λ t. t.size) j.trace.items) c.order-test.false c.order.invariant.holds in
    subst (λ l. AreTrimmed l (lists_in c.trim.new.links.items)) c.as_slice.ensures.value
    (matched-trimmed root es own ordered c.as_slice.result.now (c.as_slice.ensures.value ∙ c.order.invariant.laid) (map items_in j.lists.items) (lists_in j.links.items) j.trace.items held c.trim.new.links.items c.in_ok-trim.ensures.trimmed)
