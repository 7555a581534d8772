-- Once all edges are joined: links in vain are dropped, and the links that are left give the naive witnesses.
use Rattle.std.proofs.Common.{◌≡◌, ℕ, zero, suc, ◌+◌, ◌-◌, ◌<◌, ◌≤◌, Bool, true, false, cond, not, ◌&&◌, nat_eq, ◌⊎◌, inl, inr, List, [], ◌∷◌, length, get_or, map, flat_map, set, refl, sym, ap, ◌∙◌, subst, arith}
use Rattle.std.specs.List.{AllByRecursion, list_any}
use Rattle.std.proofs.lemmas.Bool.{cond-true, cond-false, cases_eq, eq-eqb, ne_eqb, eqb-true, and_parts, not-true}
use Rattle.std.proofs.lemmas.List.{length-set, get_or-map, get_or-set_same, get_or-set_other}
use Rattle.tb_tree.specs.Plain.{Plain}
use Rattle.tb_tree.specs.Numbers.{Numbered}
use Rattle.tb_tree.proofs.lists.Alls.{all-flat_map}
use Rattle.tb_label.specs.Rows.{document_row, table, numbered_of}
use Rattle.tb_pattern.specs.Plain.{PlainEdges}
use Rattle.tb_pattern.specs.Witness.{naive_witnesses}
use Rattle.tb_twig.specs.Branches.{Branch, branches_of, branch_at, no_branch, axis_of}
use Rattle.tb_twig.specs.Lists.{branch_of}
use Rattle.tb_twig.specs.Seen.{nth_node}
use Rattle.tb_twig.specs.Links.{IsRising, built_by}
use Rattle.tb_twig.specs.Narrowed.{asks, leads_from}
use Rattle.tb_twig.specs.Trimmed.{laid_at, no_laid, leading_on, asks_above, trim_step, trimmed}
use Rattle.tb_twig.specs.Offered.{offered_for, IsTraced}
use Rattle.tb_twig.specs.declared.branch.Branch as code
use Rattle.tb_twig.specs.declared.link.Link.{Link}
use Rattle.tb_twig.proofs.StandsLaws.{lives, from-zero, has_pairs, lists_trimmed, pairs_trimmed, all_done}
use Rattle.tb_twig.proofs.StandsLaws as stands
use Rattle.tb_twig.proofs.TableLaws.{Of, closed_of, top_of}
use Rattle.tb_twig.proofs.LinkLaws.{links_of, trimmed_links, above-of}
use Rattle.tb_twig.proofs.RunLaws.{rising-filter}
use Rattle.tb_twig.proofs.WholeLaws.{up-before, whole}
use Rattle.tb_twig.proofs.OfferedLaws.{IsIn, Offers_of, offered-found, different-within}
use Rattle.tb_twig.proofs.HoldsLaws.{links-same, met-asked, many, Core, IsSized}

trim-less : (here is whole : Bool) → cond here (is && whole) whole ≡ true → whole ≡ true
trim-less true is whole e = (and_parts is whole e).1
trim-less false is whole e = e

-- Edge f trims edge e, which is above it.
module _ (root : Plain) (es : PlainEdges) (done : List ℕ) (links : List (List Link)) (sizes : List ℕ) (all : (f : ℕ) → f < many root es → IsIn done f) (h : Core root es done links sizes)
    (f e : ℕ) (f_less : f < many root es) (above : (branch_at es f).up ≡ e + 1) (asked : asks (branch_at es f).mark ≡ true) where
  abbrev s : Branch
  s = branch_at es f

  abbrev kept : ℕ → Numbered → Bool
  kept = h.kept

  abbrev pairs : ℕ → Numbered → Numbered → Bool
  pairs = h.pairs

  -- a link of edge f leads from the node of that number
  abbrev leads : ℕ → Bool
  leads = leads_from (get_or links f [])

  abbrev alive : Numbered → Bool
  alive v = leads v.number

  abbrev own : List Link
  own = leading_on (get_or links f []) (get_or links e [])

  e-less : e < many root es
  e-less = let low = up-before es f f_less in omega (arith, low, above, f_less)

  is_alive : (v : Numbered) → Of root v → kept (e + 1) v ≡ true → lives es (e + 1) v ≡ true → alive v ≡ true
  is_alive v here listed living =
      ap (λ ls. leads_from ls v.number) (h.links_are f f_less (all f f_less)) ∙ above-of root s.axis (pairs f) v here
      ∙ met-asked s.mark (list_any (pairs f v) (axis_of s.axis v)) asked
      (has_pairs (Of root) (closed_of root) es (numbered_of (document_row root)) (top_of root) (IsIn done) kept pairs h.stands f f_less (all f f_less) v here
      (subst (λ n. kept n v ≡ true) (sym above) listed) (subst (λ n. lives es n v ≡ true) (sym above) living))

  abbrev kept' : ℕ → Numbered → Bool
  kept' = lists_trimmed (Of root) (closed_of root) es (numbered_of (document_row root)) (top_of root) e alive kept

  abbrev pairs' : ℕ → Numbered → Numbered → Bool
  pairs' = pairs_trimmed (Of root) (closed_of root) es (numbered_of (document_row root)) (top_of root) e alive pairs

  own-is : own ≡ links_of (branch_at es e).axis (pairs' e) (table root)
  own-is =
      ap (leading_on (get_or links f [])) (h.links_are e e-less (all e e-less))
      ∙ trimmed_links leads (branch_at es e).axis (pairs e) (table root)
      ∙ links-same (branch_at es e).axis (λ u v. leads v.number && pairs e u v) (pairs' e) (table root) (λ u v. sym (cond-true (nat_eq e e) (alive v && pairs e u v) (pairs e u v) (eq-eqb e e refl)))

  links-at : (g : ℕ) → g < many root es → (g ≡ e) ⊎ (g ≡ e → ⊥) → get_or (set links e own) g [] ≡ links_of (branch_at es g).axis (pairs' g) (table root)
  links-at g less (inl is) =
      subst (λ n. get_or (set links e own) n [] ≡ links_of (branch_at es n).axis (pairs' n) (table root)) (sym is)
      (get_or-set_same links e own [] (let low = e-less in omega (arith, low, h.many_links)) ∙ own-is)
  links-at g less (inr ne) =
      get_or-set_other links e g own [] ne ∙ h.links_are g less (all g less)
      ∙ links-same (branch_at es g).axis (pairs g) (pairs' g) (table root) (λ u v. sym (cond-false (nat_eq g e) (alive v && pairs g u v) (pairs g u v) (ne_eqb g e ne)))

  rise-at : (g : ℕ) → g < many root es → (g ≡ e) ⊎ (g ≡ e → ⊥) → IsRising (get_or (set links e own) g [])
  rise-at g less (inl is) =
      subst (λ n. IsRising (get_or (set links e own) n [])) (sym is)
      (subst IsRising (sym (get_or-set_same links e own [] (let low = e-less in omega (arith, low, h.many_links)))) (rising-filter (λ (l : Link). leads l.below) (get_or links e []) (h.rise e e-less)))
  rise-at g less (inr ne) = subst IsRising (sym (get_or-set_other links e g own [] ne)) (h.rise g less)

  trim-edge : Core root es done (set links e own) sizes
  trim-edge = record {
    kept = kept';
    pairs = pairs';
    stands = stands.trimmed (Of root) (closed_of root) es (numbered_of (document_row root)) (top_of root) (IsIn done) kept pairs e alive is_alive h.stands;
    many_links = length-set links e own ∙ h.many_links;
    links_are = λ g less is_done. links-at g less (cases_eq g e);
    rise = λ g less. rise-at g less (cases_eq g e);
    many_sizes = h.many_sizes;
    sized = λ i less. record {
      numbers = (h.sized i less).numbers;
      long = (h.sized i less).long;
      most = (h.sized i less).most;
      listed = λ v here is. (h.sized i less).listed v here (trim-less (nat_eq (get_or done i 0 + 1) (e + 1)) (alive v) (kept (get_or done i 0 + 1) v) is);
      paired = λ u v here is. (h.sized i less).paired u v here (trim-less (nat_eq (get_or done i 0) e) (alive v) (pairs (get_or done i 0) u v) is);
    };
  }

pub laid-is : (root : Plain) (es : PlainEdges) (laid : List code.Branch) → laid ≡ map branch_of (branches_of es) → (f : ℕ) → f < many root es → laid_at laid f ≡ branch_of (branch_at es f)
laid-is root es laid laid_are f less = ap (λ bs. get_or bs f no_laid) laid_are ∙ get_or-map branch_of (branches_of es) f no_branch no_laid less

module _ (root : Plain) (es : PlainEdges) (done : List ℕ) (sizes : List ℕ) (all : (f : ℕ) → f < many root es → IsIn done f) (laid : List code.Branch) (laid_are : laid ≡ map branch_of (branches_of es)) where
  one_step : (links : List (List Link)) (f : ℕ) → f < many root es → Core root es done links sizes → (b : Bool) → asks_above (branch_of (branch_at es f)) ≡ b
      → Core root es done (cond b (set links ((branch_at es f).up - 1) (leading_on (get_or links f []) (get_or links ((branch_at es f).up - 1) []))) links) sizes
  one_step links f less h false e = h
  one_step links f less h true e =
      let s = branch_at es f in
      let parts = and_parts (asks s.mark) (not (nat_eq s.up 0)) e in
      let some : s.up ≡ (s.up - 1) + 1 = above s.up (not-true (nat_eq s.up 0) parts.1) in
      trim-edge root es done links sizes all h f (s.up - 1) less some parts.0
    where
      above : (n : ℕ) → nat_eq n 0 ≡ false → n ≡ (n - 1) + 1
      above zero g = absurd (let k : ◌≡◌ {A = Bool} true false = g in cc)
      above (suc n) g = omega arith

  trim-one : (links : List (List Link)) (f : ℕ) → f < many root es → Core root es done links sizes → Core root es done (trim_step laid f links) sizes
  trim-one links f less h =
      subst (λ b. Core root es done (cond (asks_above b) (set links (b.up - 1) (leading_on (get_or links f []) (get_or links (b.up - 1) []))) links) sizes) (sym (laid-is root es laid laid_are f less))
      (one_step links f less h (asks_above (branch_of (branch_at es f))) refl)

  -- from the last of so many edges to the first
  pub trim-all : (n : ℕ) (links : List (List Link)) → n ≤ many root es → Core root es done links sizes → Core root es done (trimmed laid n links) sizes
  trim-all zero links within h = h
  trim-all (suc f) links within h = trim-all f (trim_step laid f links) (omega (arith, within)) (trim-one links f (omega (arith, within)) h)

module _ (root : Plain) (es : PlainEdges) (done : List ℕ) (links : List (List Link)) (sizes : List ℕ) (all : (f : ℕ) → f < many root es → IsIn done f) (h : Core root es done links sizes) where
  -- The links give the naive witnesses.
  pub done-rows : built_by (nth_node root) (λ e. get_or links e []) 0 es 0 ≡ naive_witnesses es root
  done-rows = whole root es (IsIn done) h.kept h.pairs (λ e. get_or links e []) h.stands all (λ e less. h.links_are e less (all e less))

  -- Each join had at least the nodes that the rows offer for its edge.
  pub done-traced : (i : ℕ) → i < length done → get_or done i 0 < many root es → IsTraced root es (get_or done i 0) (get_or sizes i 0)
  done-traced i less edge =
      let t = get_or done i 0 in
      let z = h.sized i less in
      let Q = IsIn z.numbers in
      let rows-are = all_done (Of root) (closed_of root) es (numbered_of (document_row root)) (top_of root) (IsIn done) h.kept h.pairs h.stands all in
      let offers =
      offered-found Q t (Of root) (closed_of root) h.pairs 0 0 es
      (from-zero (Offers_of Q t (Of root) h.pairs) (branches_of es) (λ f f-less u here. each t z f u (axis_of (branch_at es f).axis u) (closed_of root (branch_at es f).axis u here)))
      (numbered_of (document_row root)) (top_of root) in
      record {
        at_most = z.most;
        at_least =
            let most =
            different-within (flat_map (offered_for t 0 es) (naive_witnesses es root)) z.numbers
            (all-flat_map Q (offered_for t 0 es) (naive_witnesses es root) (subst (AllByRecursion (λ row. AllByRecursion Q (offered_for t 0 es row))) rows-are offers)) in
            omega (arith, most, z.long);
      }
    where
      each : (t : ℕ) (z : IsSized root es h.kept h.pairs t (get_or sizes i 0)) (f : ℕ) (u : Numbered) (vs : List Numbered) → AllByRecursion (Of root) vs
          → AllByRecursion (λ v. nat_eq t f ≡ true → h.pairs f u v ≡ true → IsIn z.numbers v.number) vs
      each t z f u [] here = tt
      each t z f u (v ∷ vs) here =
          ((λ same pair. z.paired u v here.0 (subst (λ n. h.pairs n u v ≡ true) (sym (eqb-true t f same)) pair)), each t z f u vs here.1)
