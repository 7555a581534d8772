-- What the joins of some edges know, as lists of items and links: at the start, after one more join, and after links
-- in vain are dropped; and what that says of rows and traces once all edges are joined.
use Rattle.std.proofs.Common.{◌≡◌, ℕ, zero, suc, ◌+◌, ◌<◌, ◌≤◌, Bool, true, false, cond, ◌&&◌, ◌||◌, nat_eq, ◌⊎◌, inl, inr, List, [], ◌∷◌, ◌++◌, length, get_or, map, set, refl, sym, ap, ap₂, ◌∙◌, subst, arith}
use Rattle.std.specs.List.{list_any}
use Rattle.std.proofs.lemmas.Bool.{cond-true, cond-false, cases_eq, cases_lt, eq-eqb, ne_eqb, eqb-true, and_parts, or_cases, false≢true}
use Rattle.std.proofs.lemmas.List.{length-map, length-set, length_push, get_or-map, get_or-set_same, get_or-set_other, get_or_append_left, get_or_at}
use Rattle.std.proofs.lemmas.List.Elements.{filter_agree}
use Rattle.std.proofs.lemmas.List.Folds.{list_any-append}
use Rattle.tb_tree.specs.Plain.{Plain}
use Rattle.tb_tree.specs.Numbers.{Numbered}
use Rattle.tb_span.specs.Lists.{AreJoinable}
use Rattle.tb_span.specs.declared.item.Axis.{Axis}
use Rattle.tb_span.specs.declared.item.Item.{Item}
use Rattle.tb_label.specs.Rows.{Row, document_row, table, numbered_of, is_on}
use Rattle.tb_label.proofs.NestLaws.{rows_joinable}
use Rattle.tb_pattern.specs.Plain.{PlainEdges}
use Rattle.tb_pattern.specs.declared.pattern.Mark.{Mark}
use Rattle.tb_pattern.specs.declared.pattern.Mark.TheVariants.{One, Optional, Some, Any}
use Rattle.tb_twig.specs.Branches.{Branch, branches_of, branch_at, no_branch, test_of}
use Rattle.tb_twig.specs.Lists.{branch_of, first_list}
use Rattle.tb_twig.specs.Links.{IsRising}
use Rattle.tb_twig.specs.Narrowed.{is_met, asks, leads_from, leads_to, links_between, lower_left, upper_left}
use Rattle.tb_twig.specs.Hits.{IsNumbered}
use Rattle.tb_twig.specs.Joins.{node_list, links_found, lists_after, first_lists}
use Rattle.tb_twig.specs.Offered.{meeting}
use Rattle.tb_twig.specs.declared.link.Link.{Link}
use Rattle.tb_twig.proofs.StandsLaws.{Stands, at_start, starts, weaker-done, narrowed}
use Rattle.tb_twig.proofs.TableLaws.{Of, closed_of, top_of}
use Rattle.tb_twig.proofs.LinkLaws.{listed_by, links_of, flat_map-alike, narrowed_list, joined-links, lists_then, pairs_then, narrows, joins}
use Rattle.tb_twig.proofs.RunLaws.{links-rise}
use Rattle.tb_twig.proofs.HitLaws.{lists-numbered}
use Rattle.tb_twig.proofs.WholeLaws.{up-before}
use Rattle.tb_twig.proofs.OfferedLaws.{IsIn}
use Rattle.tb_twig.proofs.StartLaws.{listed-same, filter-shorter, document-is, first-is, first-fewer, listed-in}

-- links of pairs that agree
pub links-same : (axis : Axis) (p q : Numbered → Numbered → Bool) (rs : List Row) → ((u v : Numbered) → p u v ≡ q u v) → links_of axis p rs ≡ links_of axis q rs
links-same axis p q rs same =
    flat_map-alike _ _
    (λ r. ap (map _) (filter_agree (λ (s : Row). is_on axis r s && p (numbered_of r) (numbered_of s)) (λ (s : Row). is_on axis r s && q (numbered_of r) (numbered_of s))
    (λ s. ap (λ b. is_on axis r s && b) (same (numbered_of r) (numbered_of s))) rs)) rs

-- what is in a list with one more at its end
in-push : (ys : List ℕ) (x f : ℕ) → IsIn (ys ++ x ∷ []) f → IsIn ys f ⊎ (f ≡ x)
in-push ys x f is = at (or_cases (list_any (nat_eq f) ys) (nat_eq f x || false) (sym (list_any-append (nat_eq f) ys (x ∷ [])) ∙ is))
  where
    at : (list_any (nat_eq f) ys ≡ true) ⊎ ((nat_eq f x || false) ≡ true) → IsIn ys f ⊎ (f ≡ x)
    at (inl e) = inl e
    at (inr e) = last (or_cases (nat_eq f x) false e)
      where
        last : (nat_eq f x ≡ true) ⊎ (false ≡ true) → IsIn ys f ⊎ (f ≡ x)
        last (inl g) = inr (eqb-true f x g)
        last (inr g) = absurd (false≢true g)

pub met-asked : (mark : Mark) (some : Bool) → asks mark ≡ true → is_met mark some ≡ true → some ≡ true
met-asked One some e f = f
met-asked Optional some e f = absurd (let g : ◌≡◌ {A = Bool} false true = e in cc)
met-asked Some some e f = f
met-asked Any some e f = absurd (let g : ◌≡◌ {A = Bool} false true = e in cc)

module _ (root : Plain) (es : PlainEdges) where
  -- so many edges, and what is known of them when these are done
  abbrev pub many : ℕ
  many = length (branches_of es)

  abbrev pub State : (ℕ → Type 0) → (ℕ → Numbered → Bool) → (ℕ → Numbered → Numbered → Bool) → Type 0
  State Done kept pairs = Stands (Of root) (closed_of root) es (numbered_of (document_row root)) (top_of root) Done kept pairs

  -- The join of edge e had so many nodes below, and every lower node of its pairs is one of them.
  pub record IsSized (kept : ℕ → Numbered → Bool) (pairs : ℕ → Numbered → Numbered → Bool) (e size : ℕ) : Type 0 where
    pub numbers : List ℕ
    pub long : length numbers ≡ size
    pub most : size ≤ length (meeting (test_of (branch_at es e).to) root)
    pub listed : (v : Numbered) → Of root v → kept (e + 1) v ≡ true → IsIn numbers v.number
    pub paired : (u v : Numbered) → Of root v → pairs e u v ≡ true → IsIn numbers v.number

  -- what the links and the sizes of the joins stand for, when these edges are done in this order
  pub record Core (done : List ℕ) (links : List (List Link)) (sizes : List ℕ) : Type 0 where
    pub kept : ℕ → Numbered → Bool
    pub pairs : ℕ → Numbered → Numbered → Bool
    pub stands : State (IsIn done) kept pairs
    pub many_links : length links ≡ many
    pub links_are : (e : ℕ) → e < many → IsIn done e → get_or links e [] ≡ links_of (branch_at es e).axis (pairs e) (table root)
    pub rise : (e : ℕ) → e < many → IsRising (get_or links e [])
    pub many_sizes : length sizes ≡ length done
    pub sized : (i : ℕ) → i < length done → IsSized kept pairs (get_or done i 0) (get_or sizes i 0)

  -- and the lists, while joins are made
  pub record Holds (done : List ℕ) (lists : List (List Item)) (links : List (List Link)) (sizes : List ℕ) : Type 0 where
    pub core : Core done links sizes
    pub many_lists : length lists ≡ many + 1
    pub lists_are : (x : ℕ) → x < many + 1 → node_list lists x ≡ listed_by (core.kept x) (table root)
    pub fewer : (e : ℕ) → e < many → length (node_list lists (e + 1)) ≤ length (meeting (test_of (branch_at es e).to) root)

  first-at : (e : ℕ) → e < many → node_list (first_lists root es) (e + 1) ≡ first_list root (branch_at es e).to
  first-at e less =
      ap (node_list (first_lists root es)) (let g : e + 1 ≡ suc e = omega arith in g)
      ∙ get_or-map (λ (s : Branch). first_list root s.to) (branches_of es) e no_branch [] less

  pub holds-start : (links : List (List Link)) → length links ≡ many → ((e : ℕ) → e < many → get_or links e [] ≡ []) → Holds [] (first_lists root es) links []
  holds-start links long empty = record {
    core = record {
      kept = kept_first;
      pairs = λ e u v. false;
      stands =
          weaker-done (Of root) (closed_of root) es (numbered_of (document_row root)) (top_of root) (λ e. ⊥) (IsIn []) kept_first (λ e u v. false) (λ e none. false≢true none)
          (starts (Of root) (closed_of root) es (numbered_of (document_row root)) (top_of root) (λ e u v. false) refl);
      many_links = long;
      links_are = λ e less none. absurd (false≢true none);
      rise = λ e less. subst IsRising (sym (empty e less)) (λ i j d low within. absurd (omega (arith, within)));
      many_sizes = refl;
      sized = λ i less. absurd (omega (arith, less));
    };
    many_lists = ap suc (length-map (branches_of es) (λ s. first_list root s.to)) ∙ omega arith;
    lists_are = at;
    fewer = λ e less. subst (λ xs. length xs ≤ length (meeting (test_of (branch_at es e).to) root)) (sym (first-at e less)) (first-fewer root (branch_at es e).to);
  }
    where
      kept_first : ℕ → Numbered → Bool
      kept_first = at_start (Of root) (closed_of root) es (numbered_of (document_row root)) (top_of root)

      at : (x : ℕ) → x < many + 1 → node_list (first_lists root es) x ≡ listed_by (kept_first x) (table root)
      at zero less = sym (document-is root)
      at (suc e) less = get_or-map (λ (s : Branch). first_list root s.to) (branches_of es) e no_branch [] (omega (arith, less)) ∙ first-is root (branch_at es e).to

  -- What the join of an edge wants of the lists.
  pub holds-joinable : (done : List ℕ) (lists : List (List Item)) (links : List (List Link)) (sizes : List ℕ) → Holds done lists links sizes → (x y : ℕ) → x < many + 1 → y < many + 1
      → AreJoinable (node_list lists x) (node_list lists y)
  holds-joinable done lists links sizes h x y x-less y-less =
      subst (λ a. AreJoinable a (node_list lists y)) (sym (h.lists_are x x-less))
      (subst (λ d. AreJoinable (listed_by (h.core.kept x) (table root)) d) (sym (h.lists_are y y-less))
      (rows_joinable (λ r. h.core.kept x (numbered_of r)) (λ r. h.core.kept y (numbered_of r)) root))

  pub holds-numbered : (done : List ℕ) (lists : List (List Item)) (links : List (List Link)) (sizes : List ℕ) → Holds done lists links sizes → (x : ℕ) → x < many + 1 → IsNumbered (node_list lists x)
  holds-numbered done lists links sizes h x less = subst IsNumbered (sym (h.lists_are x less)) (lists-numbered (h.core.kept x) root)

  -- One more edge is joined.
  module _ (done : List ℕ) (lists : List (List Item)) (links : List (List Link)) (sizes : List ℕ) (e : ℕ) (e_less : e < many) (h : Holds done lists links sizes) where
    abbrev s : Branch
    s = branch_at es e

    abbrev kept : ℕ → Numbered → Bool
    kept = h.core.kept

    abbrev pairs : ℕ → Numbered → Numbered → Bool
    pairs = h.core.pairs

    abbrev d : List Item
    d = node_list lists (e + 1)

    abbrev found : List Link
    found = links_found (branch_of s) e lists

    abbrev kept' : ℕ → Numbered → Bool
    kept' = lists_then e s found kept

    abbrev pairs' : ℕ → Numbered → Numbered → Bool
    pairs' = pairs_then e s kept pairs

    abbrev up_left : List Item
    up_left = upper_left s.mark found (node_list lists s.up)

    abbrev lists' : List (List Item)
    lists' = lists_after (branch_of s) e found lists

    before : s.up ≤ e
    before = up-before es e e_less

    up-is : node_list lists s.up ≡ listed_by (kept s.up) (table root)
    up-is = h.lists_are s.up (let low = before in omega (arith, low, e_less))

    down-is : d ≡ listed_by (kept (e + 1)) (table root)
    down-is = h.lists_are (e + 1) (omega (arith, e_less))

    found-is : found ≡ links_of s.axis (λ u v. kept s.up u && kept (e + 1) v) (table root)
    found-is = ap₂ (links_between s.axis) up-is down-is ∙ joined-links s.axis (kept s.up) (kept (e + 1)) (table root)

    -- the lower list, the upper one, and any other
    lower-at : node_list lists' (e + 1) ≡ lower_left found d
    lower-at = get_or-set_same (set lists s.up up_left) (e + 1) (lower_left found d) [] (omega (arith, e_less, length-set lists s.up up_left, h.many_lists))

    upper-at : node_list lists' s.up ≡ up_left
    upper-at =
        let low = before in
        get_or-set_other (set lists s.up up_left) (e + 1) s.up (lower_left found d) [] (λ g. omega (arith, g, low))
        ∙ get_or-set_same lists s.up up_left [] (omega (arith, low, e_less, h.many_lists))

    other-at : (x : ℕ) → (x ≡ e + 1 → ⊥) → (x ≡ s.up → ⊥) → node_list lists' x ≡ node_list lists x
    other-at x low up =
        get_or-set_other (set lists s.up up_left) (e + 1) x (lower_left found d) [] low ∙ get_or-set_other lists s.up x up_left [] up

    lists-at : (x : ℕ) → x < many + 1 → (x ≡ e + 1) ⊎ (x ≡ e + 1 → ⊥) → (x ≡ s.up) ⊎ (x ≡ s.up → ⊥) → node_list lists' x ≡ listed_by (kept' x) (table root)
    lists-at x less (inl is) up =
        subst (λ n. node_list lists' n ≡ listed_by (kept' n) (table root)) (sym is)
        (lower-at ∙ ap (lower_left found) down-is ∙ narrowed_list (leads_to found) (kept (e + 1)) (table root)
        ∙ listed-same (λ v. kept (e + 1) v && leads_to found v.number) (kept' (e + 1)) (table root)
        (λ v. sym (cond-true (nat_eq (e + 1) (e + 1)) (kept (e + 1) v && leads_to found v.number) (cond (nat_eq (e + 1) s.up) (kept (e + 1) v && is_met s.mark (leads_from found v.number)) (kept (e + 1) v)) (eq-eqb (e + 1) (e + 1) refl))))
    lists-at x less (inr low) (inl is) =
        subst (λ n. node_list lists' n ≡ listed_by (kept' n) (table root)) (sym is)
        (upper-at ∙ ap (upper_left s.mark found) up-is ∙ narrowed_list (λ n. is_met s.mark (leads_from found n)) (kept s.up) (table root)
        ∙ listed-same (λ v. kept s.up v && is_met s.mark (leads_from found v.number)) (kept' s.up) (table root)
        (λ v. sym (cond-false (nat_eq s.up (e + 1)) (kept s.up v && leads_to found v.number) (cond (nat_eq s.up s.up) (kept s.up v && is_met s.mark (leads_from found v.number)) (kept s.up v)) (ne_eqb s.up (e + 1) (λ g. low (is ∙ g)))
        ∙ cond-true (nat_eq s.up s.up) (kept s.up v && is_met s.mark (leads_from found v.number)) (kept s.up v) (eq-eqb s.up s.up refl))))
    lists-at x less (inr low) (inr up) =
        other-at x low up ∙ h.lists_are x less
        ∙ listed-same (kept x) (kept' x) (table root)
        (λ v. sym (cond-false (nat_eq x (e + 1)) (kept x v && leads_to found v.number) (cond (nat_eq x s.up) (kept x v && is_met s.mark (leads_from found v.number)) (kept x v)) (ne_eqb x (e + 1) low)
        ∙ cond-false (nat_eq x s.up) (kept x v && is_met s.mark (leads_from found v.number)) (kept x v) (ne_eqb x s.up up)))

    fewer-at : (f : ℕ) → f < many → (f + 1 ≡ e + 1) ⊎ (f + 1 ≡ e + 1 → ⊥) → (f + 1 ≡ s.up) ⊎ (f + 1 ≡ s.up → ⊥)
        → length (node_list lists' (f + 1)) ≤ length (meeting (test_of (branch_at es f).to) root)
    fewer-at f less (inl is) up =
        let g : node_list lists' (f + 1) ≡ lower_left found (node_list lists (f + 1)) = ap (node_list lists') is ∙ lower-at ∙ ap (λ n. lower_left found (node_list lists n)) (sym is) in
        omega (arith, ap length g, filter-shorter (λ (i : Item). leads_to found i.node) (node_list lists (f + 1)), h.fewer f less)
    fewer-at f less (inr low) (inl is) =
        let g : node_list lists' (f + 1) ≡ upper_left s.mark found (node_list lists (f + 1)) = ap (node_list lists') is ∙ upper-at ∙ ap (λ n. upper_left s.mark found (node_list lists n)) (sym is) in
        omega (arith, ap length g, filter-shorter (λ (i : Item). is_met s.mark (leads_from found i.node)) (node_list lists (f + 1)), h.fewer f less)
    fewer-at f less (inr low) (inr up) = omega (arith, ap length (other-at (f + 1) low up), h.fewer f less)

    links-here : get_or (set links e found) e [] ≡ links_of s.axis (pairs' e) (table root)
    links-here =
        get_or-set_same links e found [] (omega (arith, e_less, h.core.many_links)) ∙ found-is
        ∙ links-same s.axis (λ u v. kept s.up u && kept (e + 1) v) (pairs' e) (table root) (λ u v. sym (cond-true (nat_eq e e) (kept s.up u && kept (e + 1) v) (pairs e u v) (eq-eqb e e refl)))

    links-at : (f : ℕ) → f < many → IsIn (done ++ e ∷ []) f → (f ≡ e) ⊎ (f ≡ e → ⊥) → get_or (set links e found) f [] ≡ links_of (branch_at es f).axis (pairs' f) (table root)
    links-at f less is_done (inl is) = subst (λ n. get_or (set links e found) n [] ≡ links_of (branch_at es n).axis (pairs' n) (table root)) (sym is) links-here
    links-at f less is_done (inr ne) =
        get_or-set_other links e f found [] ne ∙ h.core.links_are f less (at (in-push done e f is_done))
        ∙ links-same (branch_at es f).axis (pairs f) (pairs' f) (table root) (λ u v. sym (cond-false (nat_eq f e) (kept s.up u && kept (e + 1) v) (pairs f u v) (ne_eqb f e ne)))
      where
        at : IsIn done f ⊎ (f ≡ e) → IsIn done f
        at (inl is) = is
        at (inr is) = absurd (ne is)

    rise-at : (f : ℕ) → f < many → (f ≡ e) ⊎ (f ≡ e → ⊥) → IsRising (get_or (set links e found) f [])
    rise-at f less (inl is) =
        subst (λ n. IsRising (get_or (set links e found) n [])) (sym is) (subst IsRising (sym links-here) (links-rise root s.axis (pairs' e)))
    rise-at f less (inr ne) = subst IsRising (sym (get_or-set_other links e f found [] ne)) (h.core.rise f less)

    kept-less : (x : ℕ) (v : Numbered) → Of root v → kept' x v ≡ true → kept x v ≡ true
    kept-less x v here is = (narrows root es e kept found before found-is).less x v here is

    -- an edge that was done before
    sized-before : (f size : ℕ) → IsSized kept pairs f size → IsSized kept' pairs' f size
    sized-before f size z = record {
      numbers = z.numbers;
      long = z.long;
      most = z.most;
      listed = λ v here is. z.listed v here (kept-less (f + 1) v here is);
      paired = λ u v here is. at u v here is (cases_eq f e);
    }
      where
        at : (u v : Numbered) → Of root v → pairs' f u v ≡ true → (f ≡ e) ⊎ (f ≡ e → ⊥) → IsIn z.numbers v.number
        at u v here is (inl same) =
            z.listed v here
            (subst (λ n. kept (n + 1) v ≡ true) (sym same)
            (and_parts (kept s.up u) (kept (e + 1) v) (sym (cond-true (nat_eq f e) (kept s.up u && kept (e + 1) v) (pairs f u v) (eq-eqb f e same)) ∙ is)).1)
        at u v here is (inr ne) = z.paired u v here (sym (cond-false (nat_eq f e) (kept s.up u && kept (e + 1) v) (pairs f u v) (ne_eqb f e ne)) ∙ is)

    -- this one
    sized-here : IsSized kept' pairs' e (length d)
    sized-here = record {
      numbers = map (λ i. i.node) d;
      long = length-map d (λ i. i.node);
      most = h.fewer e e_less;
      listed = λ v here is. among v here (kept-less (e + 1) v here is);
      paired = λ u v here is. among v here (and_parts (kept s.up u) (kept (e + 1) v) (sym (cond-true (nat_eq e e) (kept s.up u && kept (e + 1) v) (pairs e u v) (eq-eqb e e refl)) ∙ is)).1;
    }
      where
        among : (v : Numbered) → Of root v → kept (e + 1) v ≡ true → IsIn (map (λ i. i.node) d) v.number
        among v here is = subst (λ xs. IsIn (map (λ (i : Item). i.node) xs) v.number) (sym down-is) (listed-in root (kept (e + 1)) v here is)

    sized-at : (i : ℕ) → i < length (done ++ e ∷ []) → (i < length done) ⊎ (length done ≤ i) → IsSized kept' pairs' (get_or (done ++ e ∷ []) i 0) (get_or (sizes ++ length d ∷ []) i 0)
    sized-at i less (inl early) =
        subst (λ f. IsSized kept' pairs' f (get_or (sizes ++ length d ∷ []) i 0)) (sym (get_or_append_left done (e ∷ []) 0 i early))
        (subst (λ n. IsSized kept' pairs' (get_or done i 0) n) (sym (get_or_append_left sizes (length d ∷ []) 0 i (omega (arith, early, h.core.many_sizes))))
        (sized-before (get_or done i 0) (get_or sizes i 0) (h.core.sized i early)))
    sized-at i less (inr late) =
        let long = length_push done e in
        let last : length done ≡ i = omega (arith, less, late, long) in
        let last' : length sizes ≡ i = omega (arith, last, h.core.many_sizes) in
        subst (λ f. IsSized kept' pairs' f (get_or (sizes ++ length d ∷ []) i 0)) (sym (get_or_at done e [] 0 i last))
        (subst (λ n. IsSized kept' pairs' e n) (sym (get_or_at sizes (length d) [] 0 i last')) sized-here)

    pub holds-step : Holds (done ++ e ∷ []) lists' (set links e found) (sizes ++ length d ∷ [])
    holds-step = record {
      core = record {
        kept = kept';
        pairs = pairs';
        stands =
            narrowed (Of root) (closed_of root) es (numbered_of (document_row root)) (top_of root) (IsIn done) (IsIn (done ++ e ∷ [])) kept kept' pairs pairs' e e_less (in-push done e) h.core.stands
            (narrows root es e kept found before found-is) (joins root es e kept pairs);
        many_links = length-set links e found ∙ h.core.many_links;
        links_are = λ f less is_done. links-at f less is_done (cases_eq f e);
        rise = λ f less. rise-at f less (cases_eq f e);
        many_sizes = length_push sizes (length d) ∙ ap (λ n. n + 1) h.core.many_sizes ∙ sym (length_push done e);
        sized = λ i less. sized-at i less (cases_lt i (length done));
      };
      many_lists = length-set (set lists s.up up_left) (e + 1) (lower_left found d) ∙ length-set lists s.up up_left ∙ h.many_lists;
      lists_are = λ x less. lists-at x less (cases_eq x (e + 1)) (cases_eq x s.up);
      fewer = λ f less. fewer-at f less (cases_eq (f + 1) (e + 1)) (cases_eq (f + 1) s.up);
    }
