-- What joins of some of the edges, in whatever order, know of a document: lists of nodes that may matter and pairs of
-- them. A join of one more edge keeps that, however it narrows the lists of its two nodes, as long as no node
-- is lost that matters; when all edges are done the rows that are built from the pairs are the naive ones.
use Rattle.std.proofs.Common.{◌≡◌, ℕ, zero, suc, ◌+◌, ◌<◌, ◌≤◌, Bool, true, false, cond, ◌&&◌, nat_eq, not, ◌⊎◌, inl, inr, List, length, get_or, map, flat_map, refl, sym, ap, ◌∙◌, subst, arith}
use Rattle.std.specs.List.{AllByRecursion, list_any}
use Rattle.std.proofs.lemmas.Bool.{cond-true, cond-false, false≢true, and_parts, and_from, cases_eq, false_from_ne_true, not_from_false, eq-eqb, ne_eqb, eqb-true}
use Rattle.tb_tree.specs.Plain.{kids_of}
use Rattle.tb_tree.specs.Numbers.{Numbered}
use Rattle.tb_tree.proofs.lists.Alls.{all-both, all-weaker}
use Rattle.tb_span.specs.declared.item.Axis.{Axis}
use Rattle.tb_pattern.specs.declared.pattern.Mark.{Mark}
use Rattle.tb_pattern.specs.Plain.{PlainPattern, matching, PlainEdges, no_edges, edge, nodes_in}
use Rattle.tb_pattern.specs.Witness.{Witnesses, offer, offered, witnesses_at, choices}
use Rattle.tb_twig.specs.Branches.{Branch, branches, branches_of, branch_at, no_branch, fits, axis_of}
use Rattle.tb_twig.proofs.NumberedLaws.{later}
use Rattle.tb_twig.specs.Narrowed.{is_met}
use Rattle.tb_twig.proofs.HasLaws.{has, has-none, has-flat_map, has-product, has-offered, met-more, any-more}
use Rattle.tb_twig.proofs.BuiltLaws.{built, AllFrom, from-append, from-all, at-place, length-branches, parts-of, Closed, Sound, Complete, has-witnesses, has-built, built-is}

-- the document node has a row, or the node has a witness below that pattern node
abbrev pub lives : PlainEdges → ℕ → Numbered → Bool
lives es zero v = has (choices es v.number (kids_of v.node))
lives es (suc e) v = has (witnesses_at (branch_at es e).to v)

-- An edge of a living node has what its mark asks for.
abbrev pub IsLinked : (ℕ → Numbered → Bool) → ℕ → Branch → Type 0
IsLinked alive f s = (v : Numbered) → alive s.up v ≡ true → is_met s.mark (list_any (λ w. has (witnesses_at s.to w)) (axis_of s.axis v)) ≡ true

-- the offers of an edge at a node
abbrev offers_at : Mark → PlainPattern → Axis → Numbered → List Witnesses
offers_at mark to axis v = offered mark (flat_map (witnesses_at to) (axis_of axis v))

choices-parts : (axis : Axis) (mark : Mark) (to : PlainPattern) (others : PlainEdges) (v : Numbered)
    → has (flat_map (λ ws. map (offer ws) (choices others v.number (kids_of v.node))) (offers_at mark to axis v)) ≡ true
    → (has (choices others v.number (kids_of v.node)) ≡ true) × (has (offers_at mark to axis v) ≡ true)
choices-parts axis mark to others v some =
    and_parts (has (choices others v.number (kids_of v.node))) (has (offers_at mark to axis v))
    (sym (has-product offer (offers_at mark to axis v) (choices others v.number (kids_of v.node))) ∙ some)

fits-has : (to : PlainPattern) (v : Numbered) → has (witnesses_at to v) ≡ true → fits to v ≡ true
fits-has (matching test conds whole below) v some =
    let to = matching test conds whole below in
    (and_parts (fits to v) (has (choices below v.number (kids_of v.node))) (sym (has-witnesses to below v (fits to v) refl refl) ∙ some)).0

abbrev Lives : (ℕ → Numbered → Bool) → ℕ → Branch → Type 0
Lives alive f s = (v : Numbered) → alive (f + 1) v ≡ true → has (witnesses_at s.to v) ≡ true

linked-from : (alive : ℕ → Numbered → Bool) (n e : ℕ) (es : PlainEdges) → ((v : Numbered) → alive n v ≡ true → has (choices es v.number (kids_of v.node)) ≡ true)
    → AllFrom (Lives alive) e (branches n e es) → AllFrom (IsLinked alive) e (branches n e es)
linked-from alive n e no_edges top all = tt
linked-from alive n e (edge axis mark (matching test conds whole below) others) top all =
    let to = matching test conds whole below in
    let p = parts-of (Lives alive) n e axis mark to below others all in (
      λ v living.
          ap (is_met mark) (sym (has-flat_map (witnesses_at to) (axis_of axis v))) ∙ sym (has-offered mark (flat_map (witnesses_at to) (axis_of axis v)))
          ∙ (choices-parts axis mark to others v (top v living)).1,
      from-append (IsLinked alive) (e + 1) (e + 1 + nodes_in below) (branches (e + 1) (e + 1) below) (branches n (e + 1 + nodes_in below) others) (omega (arith, length-branches (e + 1) (e + 1) below))
          (linked-from alive (e + 1) (e + 1) below
          (λ v living. (and_parts (fits to v) (has (choices below v.number (kids_of v.node))) (sym (has-witnesses to below v (fits to v) refl refl) ∙ p.this v living)).1) p.inside)
          (linked-from alive n (e + 1 + nodes_in below) others (λ v living. (choices-parts axis mark to others v (top v living)).0) p.behind),
    )

lives-next : (es : PlainEdges) (f : ℕ) (v : Numbered) → lives es (f + 1) v ≡ has (witnesses_at (branch_at es f).to v)
lives-next es f v = ap (λ n. lives es n v) (let g : f + 1 ≡ suc f = omega arith in g)

pub from-zero : (P : ℕ → Branch → Type 0) (ss : List Branch) → ((f : ℕ) → f < length ss → P f (get_or ss f no_branch)) → AllFrom P 0 ss
from-zero P ss all = from-all P 0 ss no_branch (λ f less. subst (λ n. P n (get_or ss f no_branch)) (let g : f ≡ 0 + f = omega arith in g) (all f less))

pub at-zero : (P : ℕ → Branch → Type 0) (ss : List Branch) (f : ℕ) → f < length ss → AllFrom P 0 ss → P f (get_or ss f no_branch)
at-zero P ss f less all = subst (λ n. P n (get_or ss f no_branch)) (let g : 0 + f ≡ f = omega arith in g) (at-place P 0 ss no_branch f less all)

pub linked : (es : PlainEdges) (e : ℕ) → e < length (branches_of es) → IsLinked (lives es) e (branch_at es e)
linked es e less =
    at-zero (IsLinked (lives es)) (branches_of es) e less
    (linked-from (lives es) 0 0 es (λ v living. living) (from-zero (Lives (lives es)) (branches_of es) (λ f within v living. sym (lives-next es f v) ∙ living)))

module _ (In : Numbered → Type 0) (closed : Closed In) (es : PlainEdges) (top : Numbered) (top_in : In top) where
  -- What is known when these edges are done: `lists x v` says that node v is in the list of pattern node x, and
  -- `pairs e u v` that (u, v) is a pair of edge e.
  pub record Stands (Done : ℕ → Type 0) (lists : ℕ → Numbered → Bool) (pairs : ℕ → Numbered → Numbered → Bool) : Type 0 where
    -- all in a list fit
    pub fit : (e : ℕ) → e < length (branches_of es) → (v : Numbered) → In v → lists (e + 1) v ≡ true → fits (branch_at es e).to v ≡ true
    -- below a node of a list each node that has a witness is in its list
    pub reached : (e : ℕ) → e < length (branches_of es) → (u : Numbered) → In u → lists (branch_at es e).up u ≡ true
        → AllByRecursion (λ v. has (witnesses_at (branch_at es e).to v) ≡ true → lists (e + 1) v ≡ true) (axis_of (branch_at es e).axis u)
    -- the document node is in its list, if there is a row at all
    pub first : lives es 0 top ≡ true → lists 0 top ≡ true
    -- nodes of two lists that are on the axis are a pair of an edge that is done
    pub found : (e : ℕ) → e < length (branches_of es) → Done e → (u : Numbered) → In u → lists (branch_at es e).up u ≡ true
        → AllByRecursion (λ v. lists (e + 1) v ≡ true → pairs e u v ≡ true) (axis_of (branch_at es e).axis u)
    -- the lower node of a pair fits
    pub right : (e : ℕ) → e < length (branches_of es) → Done e → Sound In pairs e (branch_at es e)

  -- A step at edge e that makes lists smaller: the lower list keeps all that lie below a node of the upper one, and
  -- the upper list all that have what the mark asks for.
  pub record Narrows (e : ℕ) (lists lists' : ℕ → Numbered → Bool) : Type 0 where
    pub less : (x : ℕ) (v : Numbered) → In v → lists' x v ≡ true → lists x v ≡ true
    pub others : (x : ℕ) → (x ≡ e + 1 → ⊥) → (x ≡ (branch_at es e).up → ⊥) → (v : Numbered) → In v → lists x v ≡ true → lists' x v ≡ true
    pub lower : (u : Numbered) → In u → lists (branch_at es e).up u ≡ true → AllByRecursion (λ v. lists (e + 1) v ≡ true → lists' (e + 1) v ≡ true) (axis_of (branch_at es e).axis u)
    pub upper : (u : Numbered) → In u → lists (branch_at es e).up u ≡ true → is_met (branch_at es e).mark (list_any (lists (e + 1)) (axis_of (branch_at es e).axis u)) ≡ true → lists' (branch_at es e).up u ≡ true

  -- the pairs of edge e are those of its two lists, and the others as they were
  pub record Joins (e : ℕ) (lists : ℕ → Numbered → Bool) (pairs pairs' : ℕ → Numbered → Numbered → Bool) : Type 0 where
    pub pairs_are : (u : Numbered) → In u → AllByRecursion (λ v. pairs' e u v ≡ (lists (branch_at es e).up u && lists (e + 1) v)) (axis_of (branch_at es e).axis u)
    pub others : (f : ℕ) → (f ≡ e → ⊥) → (u v : Numbered) → pairs' f u v ≡ pairs f u v

  -- at the start each list has all nodes that fit
  abbrev pub at_start : ℕ → Numbered → Bool
  at_start zero v = nat_eq v.number 0
  at_start (suc e) v = fits (branch_at es e).to v && not (nat_eq v.number 0)

  -- at the start no edge is done
  pub starts : (pairs : ℕ → Numbered → Numbered → Bool) → top.number ≡ 0 → Stands (λ e. ⊥) at_start pairs
  starts pairs zeroth = record {
    fit = λ e less v here listed. (and_parts (fits (branch_at es e).to v) (not (nat_eq v.number 0)) (sym (start-next e v) ∙ listed)).0;
    reached = λ e less u here listed.
        all-weaker (λ v. u.number + 1 ≤ v.number) (λ v. has (witnesses_at (branch_at es e).to v) ≡ true → at_start (e + 1) v ≡ true) (axis_of (branch_at es e).axis u)
        (λ v after some.
        start-next e v
        ∙ and_from (fits (branch_at es e).to v) (not (nat_eq v.number 0)) (fits-has (branch_at es e).to v some)
        (not_from_false (nat_eq v.number 0) (ne_eqb v.number 0 (λ g. omega (arith, g, after)))))
        (later (branch_at es e).axis u);
    first = λ some. eq-eqb top.number 0 zeroth;
    found = λ e less none u here listed. absurd none;
    right = λ e less none. absurd none;
  }
    where
      start-next : (e : ℕ) (v : Numbered) → at_start (e + 1) v ≡ (fits (branch_at es e).to v && not (nat_eq v.number 0))
      start-next e v = ap (λ n. at_start n v) (let g : e + 1 ≡ suc e = omega arith in g)

  -- fewer edges are done
  pub weaker-done : (Done Done' : ℕ → Type 0) (lists : ℕ → Numbered → Bool) (pairs : ℕ → Numbered → Numbered → Bool) → ((e : ℕ) → Done' e → Done e) → Stands Done lists pairs → Stands Done' lists pairs
  weaker-done Done Done' lists pairs done st = record {
    fit = st.fit;
    reached = st.reached;
    first = st.first;
    found = λ e less is_done u here listed. st.found e less (done e is_done) u here listed;
    right = λ e less is_done. st.right e less (done e is_done);
  }

  -- What is linked to a living node of a list is in the list below.
  linked-lists : (Done : ℕ → Type 0) (lists : ℕ → Numbered → Bool) (pairs : ℕ → Numbered → Numbered → Bool) → Stands Done lists pairs
      → (e : ℕ) → e < length (branches_of es) → (v : Numbered) → In v → lists (branch_at es e).up v ≡ true → lives es (branch_at es e).up v ≡ true
      → is_met (branch_at es e).mark (list_any (lists (e + 1)) (axis_of (branch_at es e).axis v)) ≡ true
  linked-lists Done lists pairs st e less v here listed living =
      let s = branch_at es e in
      met-more s.mark (list_any (λ w. has (witnesses_at s.to w)) (axis_of s.axis v)) (list_any (lists (e + 1)) (axis_of s.axis v))
      (any-more (λ w. has (witnesses_at s.to w)) (lists (e + 1)) (axis_of s.axis v) (st.reached e less v here listed))
      (linked es e less v living)

  -- A node that is alive stays in its list.
  stays : (Done : ℕ → Type 0) (lists lists' : ℕ → Numbered → Bool) (pairs : ℕ → Numbered → Numbered → Bool) → Stands Done lists pairs
      → (e : ℕ) → e < length (branches_of es) → Narrows e lists lists' → (x : ℕ) → (x ≡ e + 1 → ⊥) → (v : Numbered) → In v → lists x v ≡ true → lives es x v ≡ true → lists' x v ≡ true
  stays Done lists lists' pairs st e less narrows x ne v here listed living = at (cases_eq x (branch_at es e).up)
    where
      at : (x ≡ (branch_at es e).up) ⊎ (x ≡ (branch_at es e).up → ⊥) → lists' x v ≡ true
      at (inl is) =
          subst (λ n. lists' n v ≡ true) (sym is)
          (narrows.upper v here (subst (λ n. lists n v ≡ true) is listed)
          (linked-lists Done lists pairs st e less v here (subst (λ n. lists n v ≡ true) is listed) (subst (λ n. lives es n v ≡ true) is living)))
      at (inr up) = narrows.others x ne up v here listed

  -- One more edge is joined, and lists are narrowed.
  pub narrowed : (Done Done' : ℕ → Type 0) (lists lists' : ℕ → Numbered → Bool) (pairs pairs' : ℕ → Numbered → Numbered → Bool) (e : ℕ) → e < length (branches_of es)
      → ((f : ℕ) → Done' f → Done f ⊎ (f ≡ e)) → Stands Done lists pairs → Narrows e lists lists' → Joins e lists pairs pairs' → Stands Done' lists' pairs'
  narrowed Done Done' lists lists' pairs pairs' e e_less done st narrows joins = record {
    fit = λ f less v here listed. st.fit f less v here (narrows.less (f + 1) v here listed);
    reached = λ f less u here listed. reached-by f less u here (narrows.less (branch_at es f).up u here listed) (cases_eq f e);
    first = λ some. stays Done lists lists' pairs st e e_less narrows 0 (λ g. omega (arith, g)) top top_in (st.first some) some;
    found = λ f less is_done u here listed. found-by f less (done f is_done) u here (narrows.less (branch_at es f).up u here listed) (cases_eq f e);
    right = λ f less is_done. right-by f less (done f is_done) (cases_eq f e);
  }
    where
      reached-by : (f : ℕ) → f < length (branches_of es) → (u : Numbered) → In u → lists (branch_at es f).up u ≡ true → (f ≡ e) ⊎ (f ≡ e → ⊥)
          → AllByRecursion (λ v. has (witnesses_at (branch_at es f).to v) ≡ true → lists' (f + 1) v ≡ true) (axis_of (branch_at es f).axis u)
      reached-by f less u here listed (inl is) =
          subst (λ n. AllByRecursion (λ v. has (witnesses_at (branch_at es n).to v) ≡ true → lists' (n + 1) v ≡ true) (axis_of (branch_at es n).axis u)) (sym is)
          (let listed' = subst (λ n. lists (branch_at es n).up u ≡ true) is listed in
          all-weaker (λ v. (lists (e + 1) v ≡ true → lists' (e + 1) v ≡ true) × (has (witnesses_at (branch_at es e).to v) ≡ true → lists (e + 1) v ≡ true))
          (λ v. has (witnesses_at (branch_at es e).to v) ≡ true → lists' (e + 1) v ≡ true) (axis_of (branch_at es e).axis u) (λ v k some. k.0 (k.1 some))
          (all-both (λ v. lists (e + 1) v ≡ true → lists' (e + 1) v ≡ true) (λ v. has (witnesses_at (branch_at es e).to v) ≡ true → lists (e + 1) v ≡ true) (axis_of (branch_at es e).axis u)
          (narrows.lower u here listed') (st.reached e e_less u here listed')))
      reached-by f less u here listed (inr ne) =
          all-weaker (λ v. (has (witnesses_at (branch_at es f).to v) ≡ true → lists (f + 1) v ≡ true) × In v)
          (λ v. has (witnesses_at (branch_at es f).to v) ≡ true → lists' (f + 1) v ≡ true) (axis_of (branch_at es f).axis u)
          (λ v k some. stays Done lists lists' pairs st e e_less narrows (f + 1) (λ g. ne (omega (arith, g))) v k.1 (k.0 some) (lives-next es f v ∙ some))
          (all-both (λ v. has (witnesses_at (branch_at es f).to v) ≡ true → lists (f + 1) v ≡ true) In (axis_of (branch_at es f).axis u) (st.reached f less u here listed) (closed (branch_at es f).axis u here))

      found-by : (f : ℕ) → f < length (branches_of es) → Done f ⊎ (f ≡ e) → (u : Numbered) → In u → lists (branch_at es f).up u ≡ true → (f ≡ e) ⊎ (f ≡ e → ⊥)
          → AllByRecursion (λ v. lists' (f + 1) v ≡ true → pairs' f u v ≡ true) (axis_of (branch_at es f).axis u)
      found-by f less is_done u here listed (inl is) =
          subst (λ n. AllByRecursion (λ v. lists' (n + 1) v ≡ true → pairs' n u v ≡ true) (axis_of (branch_at es n).axis u)) (sym is)
          (all-weaker (λ v. (pairs' e u v ≡ (lists (branch_at es e).up u && lists (e + 1) v)) × In v) (λ v. lists' (e + 1) v ≡ true → pairs' e u v ≡ true) (axis_of (branch_at es e).axis u)
          (λ v k kept. k.0 ∙ and_from (lists (branch_at es e).up u) (lists (e + 1) v) (subst (λ n. lists (branch_at es n).up u ≡ true) is listed) (narrows.less (e + 1) v k.1 kept))
          (all-both (λ v. pairs' e u v ≡ (lists (branch_at es e).up u && lists (e + 1) v)) In (axis_of (branch_at es e).axis u) (joins.pairs_are u here) (closed (branch_at es e).axis u here)))
      found-by f less (inl is_done) u here listed (inr ne) =
          all-weaker (λ v. (lists (f + 1) v ≡ true → pairs f u v ≡ true) × In v) (λ v. lists' (f + 1) v ≡ true → pairs' f u v ≡ true) (axis_of (branch_at es f).axis u)
          (λ v k kept. joins.others f ne u v ∙ k.0 (narrows.less (f + 1) v k.1 kept))
          (all-both (λ v. lists (f + 1) v ≡ true → pairs f u v ≡ true) In (axis_of (branch_at es f).axis u) (st.found f less is_done u here listed) (closed (branch_at es f).axis u here))
      found-by f less (inr is) u here listed (inr ne) = absurd (ne is)

      right-by : (f : ℕ) → f < length (branches_of es) → Done f ⊎ (f ≡ e) → (f ≡ e) ⊎ (f ≡ e → ⊥) → Sound In pairs' f (branch_at es f)
      right-by f less is_done (inl is) =
          subst (λ n. Sound In pairs' n (branch_at es n)) (sym is)
          (λ u here.
          all-weaker (λ v. (pairs' e u v ≡ (lists (branch_at es e).up u && lists (e + 1) v)) × In v) (λ v. pairs' e u v ≡ true → fits (branch_at es e).to v ≡ true) (axis_of (branch_at es e).axis u)
          (λ v k kept. st.fit e e_less v k.1 (and_parts (lists (branch_at es e).up u) (lists (e + 1) v) (sym k.0 ∙ kept)).1)
          (all-both (λ v. pairs' e u v ≡ (lists (branch_at es e).up u && lists (e + 1) v)) In (axis_of (branch_at es e).axis u) (joins.pairs_are u here) (closed (branch_at es e).axis u here)))
      right-by f less (inl is_done) (inr ne) = λ u here.
          all-weaker (λ v. pairs f u v ≡ true → fits (branch_at es f).to v ≡ true) (λ v. pairs' f u v ≡ true → fits (branch_at es f).to v ≡ true) (axis_of (branch_at es f).axis u)
          (λ v k kept. k (sym (joins.others f ne u v) ∙ kept)) (st.right f less is_done u here)
      right-by f less (inr is) (inr ne) = absurd (ne is)

  -- A living node of a list has what the mark of an edge that is done asks for among its pairs.
  pub has_pairs : (Done : ℕ → Type 0) (lists : ℕ → Numbered → Bool) (pairs : ℕ → Numbered → Numbered → Bool) → Stands Done lists pairs
      → (e : ℕ) → e < length (branches_of es) → Done e → (v : Numbered) → In v → lists (branch_at es e).up v ≡ true → lives es (branch_at es e).up v ≡ true
      → is_met (branch_at es e).mark (list_any (pairs e v) (axis_of (branch_at es e).axis v)) ≡ true
  has_pairs Done lists pairs st e less done v here listed living =
      let s = branch_at es e in
      met-more s.mark (list_any (lists (e + 1)) (axis_of s.axis v)) (list_any (pairs e v) (axis_of s.axis v))
      (any-more (lists (e + 1)) (pairs e v) (axis_of s.axis v) (st.found e less done v here listed))
      (linked-lists Done lists pairs st e less v here listed living)

  -- the lower list of edge e without the nodes that fail the test, and the pairs without theirs
  abbrev pub lists_trimmed : ℕ → (Numbered → Bool) → (ℕ → Numbered → Bool) → ℕ → Numbered → Bool
  lists_trimmed e alive lists x v = cond (nat_eq x (e + 1)) (alive v && lists x v) (lists x v)

  abbrev pub pairs_trimmed : ℕ → (Numbered → Bool) → (ℕ → Numbered → Numbered → Bool) → ℕ → Numbered → Numbered → Bool
  pairs_trimmed e alive pairs f u v = cond (nat_eq f e) (alive v && pairs f u v) (pairs f u v)

  -- Pairs whose lower node isn't alive are dropped.
  pub trimmed : (Done : ℕ → Type 0) (lists : ℕ → Numbered → Bool) (pairs : ℕ → Numbered → Numbered → Bool) (e : ℕ) (alive : Numbered → Bool)
      → ((v : Numbered) → In v → lists (e + 1) v ≡ true → lives es (e + 1) v ≡ true → alive v ≡ true) → Stands Done lists pairs
      → Stands Done (lists_trimmed e alive lists) (pairs_trimmed e alive pairs)
  trimmed Done lists pairs e alive is_alive st = record {
    fit = λ f less v here listed. st.fit f less v here (dropped (nat_eq (f + 1) (e + 1)) (alive v) (lists (f + 1) v) listed);
    reached = λ f less u here listed.
        all-weaker (λ v. (has (witnesses_at (branch_at es f).to v) ≡ true → lists (f + 1) v ≡ true) × In v)
        (λ v. has (witnesses_at (branch_at es f).to v) ≡ true → lists_trimmed e alive lists (f + 1) v ≡ true) (axis_of (branch_at es f).axis u)
        (λ v k some.
        kept (nat_eq (f + 1) (e + 1)) (alive v) (lists (f + 1) v)
        (λ t.
        let g : f + 1 ≡ e + 1 = eqb-true (f + 1) (e + 1) t in
        is_alive v k.1 (subst (λ n. lists n v ≡ true) g (k.0 some)) (subst (λ n. lives es n v ≡ true) g (lives-next es f v ∙ some)))
        (k.0 some))
        (all-both (λ v. has (witnesses_at (branch_at es f).to v) ≡ true → lists (f + 1) v ≡ true) In (axis_of (branch_at es f).axis u)
        (st.reached f less u here (dropped (nat_eq (branch_at es f).up (e + 1)) (alive u) (lists (branch_at es f).up u) listed)) (closed (branch_at es f).axis u here));
    first = λ some.
        let never : nat_eq 0 (e + 1) ≡ false = ne_eqb 0 (e + 1) (λ g. omega (arith, g)) in
        cond-false (nat_eq 0 (e + 1)) (alive top && lists 0 top) (lists 0 top) never ∙ st.first some;
    found = λ f less done u here listed.
        all-weaker (λ v. lists (f + 1) v ≡ true → pairs f u v ≡ true) (λ v. lists_trimmed e alive lists (f + 1) v ≡ true → pairs_trimmed e alive pairs f u v ≡ true) (axis_of (branch_at es f).axis u)
        (λ v k listed'.
        kept (nat_eq f e) (alive v) (pairs f u v)
        (λ t.
        let g : nat_eq (f + 1) (e + 1) ≡ true = eq-eqb (f + 1) (e + 1) (omega (arith, eqb-true f e t)) in
        (and_parts (alive v) (lists (f + 1) v) (sym (cond-true (nat_eq (f + 1) (e + 1)) (alive v && lists (f + 1) v) (lists (f + 1) v) g) ∙ listed')).0)
        (k (dropped (nat_eq (f + 1) (e + 1)) (alive v) (lists (f + 1) v) listed')))
        (st.found f less done u here (dropped (nat_eq (branch_at es f).up (e + 1)) (alive u) (lists (branch_at es f).up u) listed));
    right = λ f less done u here.
        all-weaker (λ v. pairs f u v ≡ true → fits (branch_at es f).to v ≡ true) (λ v. pairs_trimmed e alive pairs f u v ≡ true → fits (branch_at es f).to v ≡ true) (axis_of (branch_at es f).axis u)
        (λ v k pair. k (dropped (nat_eq f e) (alive v) (pairs f u v) pair)) (st.right f less done u here);
  }
    where
      dropped : (here is whole : Bool) → cond here (is && whole) whole ≡ true → whole ≡ true
      dropped true is whole e = (and_parts is whole e).1
      dropped false is whole e = e

      kept : (here is whole : Bool) → (here ≡ true → is ≡ true) → whole ≡ true → cond here (is && whole) whole ≡ true
      kept true is whole f e = and_from is whole (f refl) e
      kept false is whole f e = e

  -- When all edges are done the rows that the pairs give are those of the definition.
  pub all_done : (Done : ℕ → Type 0) (lists : ℕ → Numbered → Bool) (pairs : ℕ → Numbered → Numbered → Bool) → Stands Done lists pairs → ((e : ℕ) → e < length (branches_of es) → Done e)
      → built pairs 0 es top ≡ choices es top.number (kids_of top.node)
  all_done Done lists pairs st done = at (lists 0 top) refl
    where
      sound : AllFrom (Sound In pairs) 0 (branches_of es)
      sound = from-zero (Sound In pairs) (branches_of es) (λ e less. st.right e less (done e less))

      complete : AllFrom (Complete In lists pairs) 0 (branches_of es)
      complete = from-zero (Complete In lists pairs) (branches_of es) (λ e less u here listed.
          all-weaker (λ v. (has (witnesses_at (branch_at es e).to v) ≡ true → lists (e + 1) v ≡ true) × (lists (e + 1) v ≡ true → pairs e u v ≡ true))
          (λ v. has (witnesses_at (branch_at es e).to v) ≡ true → (lists (e + 1) v ≡ true) × (pairs e u v ≡ true)) (axis_of (branch_at es e).axis u)
          (λ v k some. (k.0 some, k.1 (k.0 some)))
          (all-both (λ v. has (witnesses_at (branch_at es e).to v) ≡ true → lists (e + 1) v ≡ true) (λ v. lists (e + 1) v ≡ true → pairs e u v ≡ true) (axis_of (branch_at es e).axis u)
          (st.reached e less u here listed) (st.found e less (done e less) u here listed)))

      at : (b : Bool) → lists 0 top ≡ b → built pairs 0 es top ≡ choices es top.number (kids_of top.node)
      at true e = built-is In closed lists pairs 0 0 es sound complete top top_in e
      at false e =
          let none : has (choices es top.number (kids_of top.node)) ≡ false = false_from_ne_true (has (choices es top.number (kids_of top.node))) (λ some. false≢true (sym e ∙ st.first some)) in
          has-none (built pairs 0 es top) (false_from_ne_true (has (built pairs 0 es top)) (λ some. false≢true (sym none ∙ has-built In closed pairs 0 0 es sound top top_in some)))
          ∙ sym (has-none (choices es top.number (kids_of top.node)) none)
