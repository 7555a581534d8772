-- Rows that grow edge by edge, from the first on, are those of the definition by numbers.
use Rattle.std.proofs.Common.{◌≡◌, ℕ, ◌+◌, ◌<◌, ◌≤◌, List, [], ◌∷◌, ◌++◌, length, take, drop, get_or, map, flat_map, refl, sym, ap, ap₂, ◌∙◌, arith, rules, append-nil}
use Rattle.std.proofs.lemmas.List.{map-append, map-id, drop_more, drop_all, take_more}
use Rattle.std.proofs.lemmas.List.Concat.{flat_map-append}
use Rattle.std.proofs.lemmas.Simd.{map-map}
use Rattle.tb_tree.specs.Plain.{Plain}
use Rattle.tb_tree.proofs.lists.Maps.{map-alike}
use Rattle.tb_span.specs.declared.item.Axis.{Axis}
use Rattle.tb_pattern.specs.Plain.{PlainPattern, matching, PlainEdges, edge, PlainEdge, nodes_in}
use Rattle.tb_pattern.specs.View.{edge_of, edges_of}
use Rattle.tb_pattern.specs.Witness.{witness, Offers, no_offers, offer, Witnesses, no_witnesses, then_witness, together, each_alone, offered}
use Rattle.tb_pattern.specs.declared.pattern.Mark.{Mark}
use Rattle.tb_pattern.specs.declared.pattern.Mark.TheVariants.{One, Optional, Some, Any}
use Rattle.tb_pattern.specs.declared.pattern.Edge.{Edge, out-Edge, the_lemmas}
use Rattle.tb_pattern.specs.declared.pattern.PNode.{out-PNode}
use Rattle.tb_pattern.specs.declared.witness.Witness as code
use Rattle.tb_twig.specs.Branches.{inside, below_of}
use Rattle.tb_twig.specs.Links.{run, built_by}
use Rattle.tb_twig.specs.Seen.{seen, row_seen}
use Rattle.tb_twig.specs.Grown.{offers_by, with_each, grown}
use Rattle.tb_twig.specs.declared.link.Link.{Link}

-- one offer row behind another
abbrev pub after : Offers → Offers → Offers
after no_offers os = os
after (offer ws rest) os = offer ws (after rest os)

after-after : (a b c : Offers) → after (after a b) c ≡ after a (after b c)
after-after no_offers b c = refl
after-after (offer ws rest) b c = ap (offer ws) (after-after rest b c)

-- rows, each with each of the others behind it
abbrev pub followed : List Offers → List Offers → List Offers
followed rows others = flat_map (λ r. map (after r) others) rows

pub one_row : (others : List Offers) → followed (no_offers ∷ []) others ≡ others
one_row others = append-nil (map (after no_offers) others) ∙ map-id others

pub followed-end : (rows : List Offers) → followed rows (no_offers ∷ []) ≡ rows
followed-end [] = refl
followed-end (r ∷ rows) = ap₂ (λ a b. a ∷ b) (after-end r) (followed-end rows)
  where
    after-end : (a : Offers) → after a no_offers ≡ a
    after-end no_offers = refl
    after-end (offer ws rest) = ap (offer ws) (after-end rest)

-- what an edge offers, seen
abbrev offer_seen : (ℕ → Plain) → List code.Witness → Witnesses
offer_seen look ws = together (map (seen look) ws)

alone-seen : (look : ℕ → Plain) (ws : List code.Witness) → map (offer_seen look) (map (λ w. w ∷ []) ws) ≡ each_alone (map (seen look) ws)
alone-seen look [] = refl
alone-seen look (w ∷ ws) = ap (λ r. then_witness (seen look w) no_witnesses ∷ r) (alone-seen look ws)

offered-seen : (look : ℕ → Plain) (mark : Mark) (ws : List code.Witness) → map (offer_seen look) (offers_by mark ws) ≡ offered mark (map (seen look) ws)
offered-seen look One ws = alone-seen look ws
offered-seen look Optional [] = refl
offered-seen look Optional (w ∷ ws) = alone-seen look (w ∷ ws)
offered-seen look Some [] = refl
offered-seen look Some (w ∷ ws) = refl
offered-seen look Any ws = refl

row_seen-push : (look : ℕ → Plain) (row : List (List code.Witness)) (ws : List code.Witness) → row_seen look (row ++ ws ∷ []) ≡ after (row_seen look row) (offer (offer_seen look ws) no_offers)
row_seen-push look [] ws = refl
row_seen-push look (o ∷ row) ws = ap (offer (offer_seen look o)) (row_seen-push look row ws)

-- one row with each of the offers, and the others behind
grown-one : (look : ℕ → Plain) (row : List (List code.Witness)) (offers : List (List code.Witness)) (others : List Offers)
    → followed (map (row_seen look) (with_each offers row)) others ≡ map (after (row_seen look row)) (flat_map (λ ws. map (offer ws) others) (map (offer_seen look) offers))
grown-one look row [] others = refl
grown-one look row (o ∷ offers) others =
    let r = row_seen look row in
    let ws = offer_seen look o in
    ap₂ (λ a b. a ++ b)
    (ap (λ x. map (after x) others) (row_seen-push look row o)
    ∙ map-alike (after (after r (offer ws no_offers))) (λ x. after r (offer ws x)) (λ x. after-after r (offer ws no_offers) x) others
    ∙ sym (map-map (after r) (offer ws) others))
    (grown-one look row offers others)
    ∙ sym (map-append (after r) (map (offer ws) others) (flat_map (λ vs. map (offer vs) others) (map (offer_seen look) offers)))

grown-all : (look : ℕ → Plain) (rows : List (List (List code.Witness))) (offers : List (List code.Witness)) (others : List Offers)
    → followed (map (row_seen look) (grown rows offers)) others ≡ followed (map (row_seen look) rows) (flat_map (λ ws. map (offer ws) others) (map (offer_seen look) offers))
grown-all look [] offers others = refl
grown-all look (row ∷ rows) offers others =
    ap (λ rs. followed rs others) (map-append (row_seen look) (with_each offers row) (grown rows offers))
    ∙ flat_map-append (λ r. map (after r) others) (map (row_seen look) (with_each offers row)) (map (row_seen look) (grown rows offers))
    ∙ ap₂ (λ a b. a ++ b) (grown-one look row offers others) (grown-all look rows offers others)

-- The first edge's rows, with those of the others behind them.
built-first : (look : ℕ → Plain) (links : ℕ → List Link) (at n : ℕ) (axis : Axis) (mark : Mark) (to : PlainPattern) (others : PlainEdges)
    → built_by look links at (edge axis mark to others) n
    ≡ flat_map (λ ws. map (offer ws) (built_by look links (at + 1 + nodes_in (inside to)) others n))
    (offered mark (flat_map (λ m. map (witness m (look m)) (built_by look links (at + 1) (inside to) m)) (run (links at) n)))
built-first look links at n axis mark (matching test conds whole below) others = refl

-- One edge more: its offers go onto each row.
pub turn-rows : (look : ℕ → Plain) (links : ℕ → List Link) (at next n : ℕ) (e : PlainEdge) (others : PlainEdges)
    (rows : List (List (List code.Witness))) (mark : Mark) (witnesses : List code.Witness) (offers : List (List code.Witness)) (rows' : List (List (List code.Witness)))
    → next ≡ at + 1 + nodes_in (below_of e) → mark ≡ e.mark
    → map (seen look) witnesses ≡ flat_map (λ m. map (witness m (look m)) (built_by look links (at + 1) (below_of e) m)) (run (links at) n)
    → offers ≡ offers_by mark witnesses → rows' ≡ grown rows offers
    → followed (map (row_seen look) rows') (built_by look links next others n) ≡ followed (map (row_seen look) rows) (built_by look links at (edge e.axis e.mark e.to others) n)
turn-rows look links at next n e others rows mark witnesses offers rows' next-is mark-is found offered-is grown-is =
    ap (λ rs. followed (map (row_seen look) rs) (built_by look links next others n)) grown-is
    ∙ grown-all look rows offers (built_by look links next others n)
    ∙ ap (followed (map (row_seen look) rows))
    (ap₂ (λ k os. flat_map (λ ws. map (offer ws) (built_by look links k others n)) os) next-is
    (ap (map (offer_seen look)) offered-is ∙ offered-seen look mark witnesses ∙ ap₂ offered mark-is found)
    ∙ sym (built-first look links at n e.axis e.mark e.to others))

-- Edges of the program and their plain edges.
pub mark-edge : (e : Edge) → (out-Edge e).mark ≡ (edge_of e).mark
mark-edge e = search (rules, the_lemmas)

pub below-edge : (e : Edge) → edges_of (out-PNode (out-Edge e).to).edges ≡ below_of (edge_of e)
below-edge e = search (rules, the_lemmas)

pub drop-edge : (es : List Edge) (i : ℕ) (e : Edge) → i < length es → e ≡ get_or es i e → drop i es ≡ e ∷ drop (i + 1) es
drop-edge es i e less is = drop_more es i e less ∙ ap (λ x. x ∷ drop (i + 1) es) (sym is)

pub nodes-first : (e : PlainEdge) (others : PlainEdges) → nodes_in (edge e.axis e.mark e.to others) ≡ 1 + nodes_in (below_of e) + nodes_in others
nodes-first e others = opened e.axis e.mark e.to
  where
    opened : (axis : Axis) (mark : Mark) (to : PlainPattern) → nodes_in (edge axis mark to others) ≡ 1 + nodes_in (inside to) + nodes_in others
    opened axis mark (matching test conds whole below) = refl

-- the number of the next edge, with those behind it
pub turn-count : (es : List Edge) (i : ℕ) (e : Edge) (at size : ℕ) (all : ℕ) → drop i es ≡ e ∷ drop (i + 1) es → size ≡ nodes_in (below_of (edge_of e))
    → at + nodes_in (edges_of (drop i es)) ≡ all → at + 1 + size + nodes_in (edges_of (drop (i + 1) es)) ≡ all
turn-count es i e at size all here size-is before =
    let first : nodes_in (edges_of (drop i es)) ≡ 1 + nodes_in (below_of (edge_of e)) + nodes_in (edges_of (drop (i + 1) es)) =
    ap (λ xs. nodes_in (edges_of xs)) here ∙ nodes-first (edge_of e) (edges_of (drop (i + 1) es)) in
    omega (arith, first, size-is, before)

-- there is room for the edge itself and all below it
pub turn-room : (es : List Edge) (i : ℕ) (e : Edge) (at : ℕ) (all : ℕ) → drop i es ≡ e ∷ drop (i + 1) es
    → at + nodes_in (edges_of (drop i es)) ≡ all → at + 1 + nodes_in (below_of (edge_of e)) ≤ all
turn-room es i e at all here before =
    let first : nodes_in (edges_of (drop i es)) ≡ 1 + nodes_in (below_of (edge_of e)) + nodes_in (edges_of (drop (i + 1) es)) =
    ap (λ xs. nodes_in (edges_of xs)) here ∙ nodes-first (edge_of e) (edges_of (drop (i + 1) es)) in
    omega (arith, first, before)

-- Witnesses of a node, as they are seen.
pub seen-Witness : (look : ℕ → Plain) (n : ℕ) (row : List (List code.Witness)) → seen look (code.roll-Witness (record { node = n; offers = row })) ≡ witness n (look n) (row_seen look row)
seen-Witness look n row = search (rules, code.the_lemmas)

-- The steps of the loop over the edges.
pub rows-init : (look : ℕ → Plain) (rows : List (List (List code.Witness))) (others : List Offers) → rows ≡ [] ∷ [] → followed (map (row_seen look) rows) others ≡ others
rows-init look rows others is = ap (λ rs. followed (map (row_seen look) rs) others) is ∙ one_row others

pub rows-end : (look : ℕ → Plain) (links : ℕ → List Link) (at n : ℕ) (es : List Edge) (i : ℕ) (rows : List (List (List code.Witness))) (whole : List Offers) → length es ≤ i
    → followed (map (row_seen look) rows) (built_by look links at (edges_of (drop i es)) n) ≡ whole → map (row_seen look) rows ≡ whole
rows-end look links at n es i rows whole done before =
    sym (followed-end (map (row_seen look) rows))
    ∙ ap (λ xs. followed (map (row_seen look) rows) (built_by look links at (edges_of xs) n)) (sym (drop_all i es done))
    ∙ before

pub rows-turn : (look : ℕ → Plain) (links : ℕ → List Link) (at size n i : ℕ) (es : List Edge) (e : Edge)
    (rows : List (List (List code.Witness))) (mark : Mark) (witnesses : List code.Witness) (offers : List (List code.Witness)) (rows' : List (List (List code.Witness))) (whole : List Offers)
    → drop i es ≡ e ∷ drop (i + 1) es → size ≡ nodes_in (below_of (edge_of e)) → mark ≡ (edge_of e).mark
    → map (seen look) witnesses ≡ flat_map (λ m. map (witness m (look m)) (built_by look links (at + 1) (below_of (edge_of e)) m)) (run (links at) n)
    → offers ≡ offers_by mark witnesses → rows' ≡ grown rows offers
    → followed (map (row_seen look) rows) (built_by look links at (edges_of (drop i es)) n) ≡ whole
    → followed (map (row_seen look) rows') (built_by look links (at + 1 + size) (edges_of (drop (i + 1) es)) n) ≡ whole
rows-turn look links at size n i es e rows mark witnesses offers rows' whole here size-is mark-is found offered-is grown-is before =
    turn-rows look links at (at + 1 + size) n (edge_of e) (edges_of (drop (i + 1) es)) rows mark witnesses offers rows' (ap (λ k. at + 1 + k) size-is) mark-is found offered-is grown-is
    ∙ ap (λ xs. followed (map (row_seen look) rows) (built_by look links at (edges_of xs) n)) (sym here)
    ∙ before

-- The steps of the loop over the links of one node.
pub witnesses-turn : (look : ℕ → Plain) (built : ℕ → List Offers) (links : List Link) (i : ℕ) (before after : List code.Witness) (d : Link) → i < length links
    → map (seen look) before ≡ flat_map (λ m. map (witness m (look m)) (built m)) (map (λ l. l.below) (take i links))
    → map (seen look) after ≡ map (seen look) before ++ map (witness (get_or links i d).below (look (get_or links i d).below)) (built (get_or links i d).below)
    → map (seen look) after ≡ flat_map (λ m. map (witness m (look m)) (built m)) (map (λ l. l.below) (take (i + 1) links))
witnesses-turn look built links i before after d less so_far more =
    let W = λ (m : ℕ). map (witness m (look m)) (built m) in
    let below = λ (l : Link). l.below in
    more
    ∙ ap₂ (λ a b. a ++ b) so_far (sym (append-nil (W (get_or links i d).below)))
    ∙ sym (flat_map-append W (map below (take i links)) ((get_or links i d).below ∷ []))
    ∙ ap (flat_map W) (sym (map-append below (take i links) (get_or links i d ∷ [])) ∙ ap (map below) (sym (take_more links i d less)))
