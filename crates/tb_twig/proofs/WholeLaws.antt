-- Rows put together by numbers from the links of all edges are the naive witnesses.
use Rattle.std.proofs.Common.{◌≡◌, ℕ, suc, ◌+◌, ◌*◌, ◌-◌, ◌<◌, ◌≤◌, Bool, nat_eq, inl, inr, List, [], ◌∷◌, ◌++◌, length, get_or, map, filter, flat_map, refl, sym, ap, ap₂, ◌∙◌, arith}
use Rattle.std.specs.List.{AllByRecursion}
use Rattle.std.proofs.lemmas.Bool.{cond-false, ne_eqb}
use Rattle.std.proofs.lemmas.List.{map-append}
use Rattle.std.proofs.lemmas.List.Folds.{flat_map-map}
use Rattle.tb_tree.specs.Plain.{Plain, elem, attr, text, Plains, no_kids, kid, one}
use Rattle.tb_tree.specs.Numbers.{counts, Numbered}
use Rattle.tb_tree.specs.Nodes.{nodes_of, node_at}
use Rattle.std.proofs.lemmas.List.Elements.{All-from_recursion, All-filter}
use Rattle.tb_tree.proofs.lists.Maps.{flat_map_same}
use Rattle.tb_tree.proofs.lists.Alls.{all-weaker}
use Rattle.tb_label.specs.Rows.{Row, rows, rows_of, document_row, table, numbered_of}
use Rattle.tb_pattern.specs.Plain.{PlainEdges, no_edges, edge, matching, nodes_in}
use Rattle.tb_pattern.specs.Witness.{witness, Offers, offer, offered, naive_witnesses}
use Rattle.tb_twig.specs.Branches.{Branch, branches, branches_of, branch_at, axis_of}
use Rattle.tb_twig.specs.Seen.{nth_node}
use Rattle.tb_twig.specs.Links.{run, built_by}
use Rattle.tb_twig.specs.declared.link.Link.{Link}
use Rattle.tb_twig.proofs.BuiltLaws.{built, AllFrom, parts-of, from-append, length-branches, Closed}
use Rattle.tb_twig.proofs.StandsLaws.{from-zero, at-zero, Stands, all_done}
use Rattle.tb_twig.proofs.TableLaws.{Member, Of, CountOn, count-later, member-all, table-count, closed_of, top_of}
use Rattle.tb_twig.proofs.LinkLaws.{links_of, runs-of}

-- the links of an edge lead from each node to those of its pairs
abbrev pub Runs : (Numbered → Type 0) → (ℕ → Numbered → Numbered → Bool) → (ℕ → List Link) → ℕ → Branch → Type 0
Runs In pairs links e s = (u : Numbered) → In u → run (links e) u.number ≡ map (λ v. v.number) (filter (pairs e u) (axis_of s.axis u))

flat_map-kept : {X Y : Type 0} (f g : X → List Y) (p : X → Bool) (xs : List X) → AllByRecursion (λ x. f x ≡ g x) xs → flat_map f (filter p xs) ≡ flat_map g (filter p xs)
flat_map-kept f g p xs same = flat_map_same f g (filter p xs) (All-filter p (λ x. f x ≡ g x) xs (All-from_recursion (λ x. f x ≡ g x) xs same))

module _ (In : Numbered → Type 0) (closed : Closed In) (look : ℕ → Plain) (looks : (v : Numbered) → In v → look v.number ≡ v.node) (pairs : ℕ → Numbered → Numbered → Bool) (links : ℕ → List Link) where
  pub by-numbers : (n e : ℕ) (es : PlainEdges) → AllFrom (Runs In pairs links) e (branches n e es) → (u : Numbered) → In u → built_by look links e es u.number ≡ built pairs e es u
  by-numbers n e no_edges runs u here = refl
  by-numbers n e (edge axis mark (matching test conds whole below) others) runs u here =
      let p = parts-of (Runs In pairs links) n e axis mark (matching test conds whole below) below others runs in
      let vs = axis_of axis u in
      let found_by = λ (m : ℕ). map (witness m (look m)) (built_by look links (e + 1) below m) in
      let found = λ (v : Numbered). map (witness v.number v.node) (built pairs (e + 1) below v) in
      ap₂ (λ (rest : List Offers) ws. flat_map (λ w. map (offer w) rest) (offered mark ws))
      (by-numbers n (e + 1 + nodes_in below) others p.behind u here)
      (ap (flat_map found_by) (p.this u here)
      ∙ flat_map-map found_by (λ (v : Numbered). v.number) (filter (pairs e u) vs)
      ∙ flat_map-kept (λ (v : Numbered). found_by v.number) found (pairs e u) vs
      (all-weaker In (λ v. found_by v.number ≡ found v) vs
      (λ v k. ap₂ (λ node rows. map (witness v.number node) rows) (looks v k) (by-numbers (e + 1) (e + 1) below p.inside v k)) (closed axis u here)))

-- The nodes of rows are those of the document in document order.
rows-nodes : (clock number parent : ℕ) (at : List ℕ) (k : ℕ) (ks : Plains) → map (λ r. r.node) (rows clock number parent at k ks) ≡ nodes_of ks
rows-nodes clock number parent at k no_kids = refl
rows-nodes clock number parent at k (kid (elem name kids) rest) =
    ap (λ ns. elem name kids ∷ ns)
    (map-append (λ (r : Row). r.node) (rows (clock + 1) (number + 1) number (at ++ k ∷ []) 0 kids) (rows (clock + 2 * counts kids + 2) (number + 1 + counts kids) parent at (k + 1) rest)
    ∙ ap₂ (λ a b. a ++ b) (rows-nodes (clock + 1) (number + 1) number (at ++ k ∷ []) 0 kids) (rows-nodes (clock + 2 * counts kids + 2) (number + 1 + counts kids) parent at (k + 1) rest))
rows-nodes clock number parent at k (kid (attr name value) rest) = ap (λ ns. attr name value ∷ ns) (rows-nodes (clock + 2) (number + 1) parent at (k + 1) rest)
rows-nodes clock number parent at k (kid (text value) rest) = ap (λ ns. text value ∷ ns) (rows-nodes (clock + 2) (number + 1) parent at (k + 1) rest)

at-count : (n : ℕ) (rs : List Row) (r : Row) (d : Plain) → CountOn n rs → Member rs r → get_or (map (λ s. s.node) rs) (r.number - n) d ≡ r.node
at-count n [] r d count none = absurd none
at-count n (x ∷ xs) r d count (inl is) =
    let zeroth : r.number - n ≡ 0 = let g : r.number ≡ x.number = ap (λ (s : Row). s.number) is in omega (arith, g, count.0) in
    ap (λ k. get_or (map (λ (s : Row). s.node) (x ∷ xs)) k d) zeroth ∙ ap (λ (s : Row). s.node) (sym is)
at-count n (x ∷ xs) r d count (inr behind) =
    let low = member-all (λ s. n + 1 ≤ s.number) xs r (count-later (n + 1) xs count.1) behind in
    let next : r.number - n ≡ suc (r.number - (n + 1)) = omega (arith, low) in
    ap (λ k. get_or (map (λ (s : Row). s.node) (x ∷ xs)) k d) next ∙ at-count (n + 1) xs r d count.1 behind

-- A row has the node of its number.
pub row-node : (root : Plain) (r : Row) → Member (rows_of root) r → node_at root r.number ≡ r.node
row-node root r m =
    ap (λ ns. get_or ns (r.number - 1) root) (sym (rows-nodes 2 1 0 [] 0 (one root))) ∙ at-count 1 (rows_of root) r root (table-count root).1 m

pub looks-up : (root : Plain) (v : Numbered) → Of root v → nth_node root v.number ≡ v.node
looks-up root v (r, is, inl top) =
    ap (λ (u : Numbered). nth_node root u.number) is ∙ ap (λ (s : Row). nth_node root s.number) top ∙ ap (λ (s : Row). s.node) (sym top) ∙ ap (λ (u : Numbered). u.node) (sym is)
looks-up root v (r, is, inr m) =
    let low = member-all (λ s. 1 ≤ s.number) (rows_of root) r (count-later 1 (rows_of root) (table-count root).1) m in
    ap (λ (u : Numbered). nth_node root u.number) is
    ∙ cond-false (nat_eq r.number 0) (elem [] (one root)) (node_at root r.number) (ne_eqb r.number 0 (λ g. omega (arith, g, low)))
    ∙ row-node root r m ∙ ap (λ (u : Numbered). u.node) (sym is)

-- The node above an edge has no greater number than the edge.
up-from : (n e : ℕ) (es : PlainEdges) → n ≤ e → AllFrom (λ f s. s.up ≤ f) e (branches n e es)
up-from n e no_edges low = tt
up-from n e (edge axis mark (matching test conds whole below) others) low = (
  low,
  from-append (λ f s. s.up ≤ f) (e + 1) (e + 1 + nodes_in below) (branches (e + 1) (e + 1) below) (branches n (e + 1 + nodes_in below) others) (omega (arith, length-branches (e + 1) (e + 1) below))
      (up-from (e + 1) (e + 1) below (omega arith)) (up-from n (e + 1 + nodes_in below) others (omega (arith, low))),
)

pub up-before : (es : PlainEdges) (e : ℕ) → e < length (branches_of es) → (branch_at es e).up ≤ e
up-before es e less = at-zero (λ f s. s.up ≤ f) (branches_of es) e less (up-from 0 0 es (omega arith))

pub whole : (root : Plain) (es : PlainEdges) (Done : ℕ → Type 0) (lists : ℕ → Numbered → Bool) (pairs : ℕ → Numbered → Numbered → Bool) (links : ℕ → List Link)
    → Stands (Of root) (closed_of root) es (numbered_of (document_row root)) (top_of root) Done lists pairs → ((e : ℕ) → e < length (branches_of es) → Done e)
    → ((e : ℕ) → e < length (branches_of es) → links e ≡ links_of (branch_at es e).axis (pairs e) (table root))
    → built_by (nth_node root) links 0 es 0 ≡ naive_witnesses es root
whole root es Done lists pairs links st done are =
    by-numbers (Of root) (closed_of root) (nth_node root) (looks-up root) pairs links 0 0 es
    (from-zero (Runs (Of root) pairs links) (branches_of es) (λ e less u here. ap (λ ls. run ls u.number) (are e less) ∙ runs-of root (branch_at es e).axis (pairs e) u here))
    (numbered_of (document_row root)) (top_of root)
    ∙ all_done (Of root) (closed_of root) es (numbered_of (document_row root)) (top_of root) Done lists pairs st done
