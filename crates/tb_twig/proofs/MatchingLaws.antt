-- The loop over the order, and what stands when it has ended.
use Rattle.std.proofs.Common.{◌≡◌, ℕ, ◌+◌, ◌<◌, ◌≤◌, ◌^◌, ◌||◌, nat_eq, ◌⊎◌, inl, inr, List, [], ◌∷◌, ◌++◌, All, length, get_or, map, set, take, replicate, refl, sym, ap, ap₂, ◌∙◌, subst, arith, Vec, Global}
use Rattle.std.specs.List.{list_any}
use Rattle.std.proofs.lemmas.Bool.{cases_eq, eq-eqb, ne_eqb}
use Rattle.std.proofs.lemmas.List.{length-map, length-replicate, get_or-map, get_or-replicate, take_more, take_all}
use Rattle.std.proofs.lemmas.List.Elements.{All-from_get_or, All-map}
use Rattle.tb_tree.specs.Plain.{Plain, one}
use Rattle.tb_tree.specs.Numbers.{Numbered, count, all_numbered}
use Rattle.tb_tree.specs.Meets.{meets}
use Rattle.tb_tree.specs.declared.node_test.Test.{Test}
use Rattle.tb_span.specs.Lists.{AreJoinable}
use Rattle.tb_span.specs.declared.item.Item.{Item}
use Rattle.tb_label.specs.Rows.{rows_of, numbered_of}
use Rattle.tb_label.proofs.RowLaws.{length-rows}
use Rattle.tb_label.proofs.PlacedLaws.{numbered}
use Rattle.tb_pattern.specs.Plain.{PlainEdges}
use Rattle.tb_parjoin.specs.Traces.{Trace}
use Rattle.tb_plan.specs.Orders.{edge_count, IsOrderOf}
use Rattle.tb_plan.proofs.CountLaws.{count-nodes}
use Rattle.tb_plan.proofs.OrderLaws.{order-each, order-below}
use Rattle.tb_twig.specs.Branches.{Branch, branches_of, branch_at, no_branch, test_of}
use Rattle.tb_twig.specs.Lists.{branch_of}
use Rattle.tb_twig.specs.Links.{IsRising, lists_in}
use Rattle.tb_twig.specs.Hits.{IsNumbered}
use Rattle.tb_twig.specs.Joins.{node_list, links_found, lists_after, first_lists}
use Rattle.tb_twig.specs.Trimmed.{laid_at, trimmed, AreTrimmed}
use Rattle.tb_twig.specs.Offered.{meeting}
use Rattle.tb_twig.specs.Calls.{AreLinks, AreTraced}
use Rattle.tb_twig.specs.declared.branch.Branch as code
use Rattle.tb_twig.specs.declared.link.Link.{Link}
use Rattle.tb_twig.proofs.BuiltLaws.{length-branches}
use Rattle.tb_twig.proofs.WholeLaws.{up-before}
use Rattle.tb_twig.proofs.OfferedLaws.{IsIn}
use Rattle.tb_twig.proofs.StartLaws.{filter-shorter}
use Rattle.tb_twig.proofs.HoldsLaws.{many, Core, Holds, holds-start, holds-joinable, holds-numbered, holds-step}
use Rattle.tb_twig.proofs.TrimLaws.{trimmed-is}
use Rattle.tb_twig.proofs.LinkLaws.{links-later}
use Rattle.tb_twig.proofs.DoneLaws.{laid-is, trim-all, done-rows, done-traced}

pub many-edges : (es : PlainEdges) → length (branches_of es) ≡ edge_count es
many-edges es = length-branches 0 0 es ∙ sym (count-nodes es)

-- The numbers of an order are those of edges, and each edge is among them.
pub order-within : (es : PlainEdges) (order : List ℕ) → IsOrderOf order es → (i : ℕ) → i < length order → get_or order i 0 < length (branches_of es)
order-within es order is i less = omega (arith, many-edges es, order-below (edge_count es) order is i 0 less)

turned : (xs : List ℕ) (n : ℕ) → list_any (nat_eq n) xs ≡ list_any (λ x. nat_eq x n) xs
turned [] n = refl
turned (x ∷ xs) n = ap₂ (λ a b. a || b) (at (cases_eq n x)) (turned xs n)
  where
    at : (n ≡ x) ⊎ (n ≡ x → ⊥) → nat_eq n x ≡ nat_eq x n
    at (inl is) = eq-eqb n x is ∙ sym (eq-eqb x n (sym is))
    at (inr ne) = ne_eqb n x ne ∙ sym (ne_eqb x n (λ g. ne (sym g)))

pub order-all : (es : PlainEdges) (order : List ℕ) → IsOrderOf order es → (e : ℕ) → e < length (branches_of es) → IsIn order e
order-all es order is e less = turned order e ∙ order-each (edge_count es) order is e (omega (arith, many-edges es, less))

-- No list is long.
pub meeting-few : (test : Test) (root : Plain) → length (meeting test root) ≤ count root
meeting-few test root =
    omega (
      arith,
      filter-shorter (λ (u : Numbered). meets test u.node) (all_numbered 1 (one root)),
      ap length (numbered root),
      length-map (rows_of root) numbered_of,
      length-rows 2 1 0 [] 0 (one root),
    )

-- At the start no edge is joined.
pub holds-first : (root : Plain) (es : PlainEdges) (lists : List (List Item)) (links : List (List Link)) (sizes : List ℕ) → lists ≡ first_lists root es
    → links ≡ replicate (length (branches_of es)) [] → sizes ≡ [] → Holds root es [] lists links sizes
holds-first root es lists links sizes lists-are links-are sizes-are =
    let none = replicate (length (branches_of es)) [] in
    subst (λ ls. Holds root es [] ls links sizes) (sym lists-are)
    (subst (λ ls. Holds root es [] (first_lists root es) ls sizes) (sym links-are)
    (subst (λ ns. Holds root es [] (first_lists root es) none ns) (sym sizes-are)
    (holds-start root es none (length-replicate (length (branches_of es)) []) (λ e less. get_or-replicate (length (branches_of es)) e [] [] less))))

module _ (root : Plain) (es : PlainEdges) (laid : List code.Branch) (laid_are : laid ≡ map branch_of (branches_of es)) (done : List ℕ)
    (lists : List (List Item)) (links : List (List Link)) (sizes : List ℕ) (h : Holds root es done lists links sizes) (e : ℕ) (e_less : e < many root es) where
  at-e : laid_at laid e ≡ branch_of (branch_at es e)
  at-e = laid-is root es laid laid_are e e_less

  pub edge-within : e < length laid
  edge-within = omega (arith, ap length laid_are, length-map (branches_of es) branch_of, e_less)

  pub edge-upper : (laid_at laid e).up ≤ e
  edge-upper = let up : (laid_at laid e).up ≡ (branch_at es e).up = ap (λ (b : code.Branch). b.up) at-e in omega (arith, up, up-before es e e_less)

  upper-less : (laid_at laid e).up < many root es + 1
  upper-less = let low = edge-upper in omega (arith, low, e_less)

  pub edge-joinable : AreJoinable (node_list lists (laid_at laid e).up) (node_list lists (e + 1))
  edge-joinable = holds-joinable root es done lists links sizes h (laid_at laid e).up (e + 1) upper-less (omega (arith, e_less))

  pub edge-above : IsNumbered (node_list lists (laid_at laid e).up)
  edge-above = holds-numbered root es done lists links sizes h (laid_at laid e).up upper-less

  pub edge-below : IsNumbered (node_list lists (e + 1))
  edge-below = holds-numbered root es done lists links sizes h (e + 1) (omega (arith, e_less))

  pub edge-few : count root < 2 ^ 30 → length (node_list lists (e + 1)) < 2 ^ 32
  edge-few short = omega (arith, h.fewer e e_less, meeting-few (test_of (branch_at es e).to) root, short)

  pub edge-joined : (lists' : List (List Item)) (links' : List (List Link)) (sizes' : List ℕ) → lists' ≡ lists_after (laid_at laid e) e (links_found (laid_at laid e) e lists) lists
      → links' ≡ set links e (links_found (laid_at laid e) e lists) → sizes' ≡ sizes ++ length (node_list lists (e + 1)) ∷ [] → Holds root es (done ++ e ∷ []) lists' links' sizes'
  edge-joined lists' links' sizes' lists-are links-are sizes-are =
      subst (λ ls. Holds root es (done ++ e ∷ []) ls links' sizes') (sym (lists-are ∙ ap (λ b. lists_after b e (links_found b e lists) lists) at-e))
      (subst (λ ls. Holds root es (done ++ e ∷ []) (lists_after (branch_of (branch_at es e)) e (links_found (branch_of (branch_at es e)) e lists) lists) ls sizes')
      (sym (links-are ∙ ap (λ b. set links e (links_found b e lists)) at-e))
      (subst (λ ns. Holds root es (done ++ e ∷ []) (lists_after (branch_of (branch_at es e)) e (links_found (branch_of (branch_at es e)) e lists) lists) (set links e (links_found (branch_of (branch_at es e)) e lists)) ns)
      (sym sizes-are) (holds-step root es done lists links sizes e e_less h)))

-- one more of the order
pub turn-holds : (root : Plain) (es : PlainEdges) (order : List ℕ) (i : ℕ) (lists : List (List Item)) (links : List (List Link)) (sizes : List ℕ) → i < length order
    → Holds root es (take i order ++ get_or order i 0 ∷ []) lists links sizes → Holds root es (take (i + 1) order) lists links sizes
turn-holds root es order i lists links sizes less h = subst (λ done. Holds root es done lists links sizes) (sym (take_more order i 0 less)) h

pub end-holds : (root : Plain) (es : PlainEdges) (order : List ℕ) (i : ℕ) (lists : List (List Item)) (links : List (List Link)) (sizes : List ℕ) → length order ≤ i
    → Holds root es (take i order) lists links sizes → Holds root es order lists links sizes
end-holds root es order i lists links sizes past h = subst (λ done. Holds root es done lists links sizes) (take_all i order past) h

-- What trimming wants.
pub trim-above : (es : PlainEdges) (laid : List code.Branch) (n : ℕ) → laid ≡ map branch_of (branches_of es) → n ≡ length (branches_of es) → All (λ b. b.up ≤ n) laid
trim-above es laid n are long =
    subst (All (λ (b : code.Branch). b.up ≤ n)) (sym are)
    (All-map (λ (b : code.Branch). b.up ≤ n) branch_of (branches_of es)
    (All-from_get_or (λ (s : Branch). s.up ≤ n) (branches_of es) no_branch (λ e less. omega (arith, up-before es e less, less, long))))

pub all-rising : (links : List (Vec Link Global)) (n : ℕ) → length (lists_in links) ≡ n → ((e : ℕ) → e < n → IsRising (get_or (lists_in links) e [])) → All (λ ls. IsRising ls.items) links
all-rising links n long rise = λ k d less.
    subst IsRising (get_or-map (λ (v : Vec Link Global). v.items) links k d [] less) (rise k (omega (arith, less, long, length-map links (λ (v : Vec Link Global). v.items))))

-- All edges are joined, and links in vain are dropped.
module _ (root : Plain) (es : PlainEdges) (order : List ℕ) (is_order : IsOrderOf order es) (laid : List code.Branch) (laid_are : laid ≡ map branch_of (branches_of es))
    (lists : List (List Item)) (before : List (List Link)) (trace : List Trace) (h : Holds root es order lists before (map (λ t. t.size) trace)) (links : List (Vec Link Global)) (links_are : lists_in links ≡ trimmed laid (length laid) before) where
  left : Core root es order (lists_in links) (map (λ t. t.size) trace)
  left =
      subst (λ ls. Core root es order ls (map (λ t. t.size) trace)) (sym links_are)
      (trim-all root es order (map (λ t. t.size) trace) (order-all es order is_order) laid laid_are (length laid) before (omega (arith, ap length laid_are, length-map (branches_of es) branch_of)) h.core)

  pub matched-links : AreLinks root es links
  matched-links = done-rows root es order (lists_in links) (map (λ t. t.size) trace) (order-all es order is_order) left

  pub matched-many : length links ≡ edge_count es
  matched-many = sym (length-map links (λ (v : Vec Link Global). v.items)) ∙ left.many_links ∙ many-edges es

  pub matched-trace : AreTraced root es order trace
  matched-trace = record {
    many = sym (length-map trace (λ (t : Trace). t.size)) ∙ left.many_sizes;
    each = λ i less. done-traced root es order (lists_in links) (map (λ t. t.size) trace) (order-all es order is_order) left i less (order-within es order is_order i less);
  }

  pub matched-trimmed : AreTrimmed laid (lists_in links)
  matched-trimmed =
      let long = ap length laid_are ∙ length-map (branches_of es) branch_of in
      subst (AreTrimmed laid) (sym links_are)
      (trimmed-is laid (many root es) (λ f less. let low = up-before es f less in omega (arith, ap (λ (b : code.Branch). b.up) (laid-is root es laid laid_are f less), low)) before long h.core.many_links)

  pub matched-below : All (λ ls. All (λ link. 1 ≤ link.below) ls.items) links
  matched-below = λ k d less.
      let within : k < many root es = omega (arith, less, left.many_links, length-map links (λ (v : Vec Link Global). v.items)) in
      subst (All (λ (l : Link). 1 ≤ l.below)) (sym (left.links_are k within (order-all es order is_order k within)) ∙ get_or-map (λ (v : Vec Link Global). v.items) links k d [] less)
      (links-later root (branch_at es k).axis (left.pairs k))
