-- Lists of nodes and links as a function of the rows of a document, and what narrowing makes of them.
use Rattle.std.proofs.Common.{◌≡◌, ℕ, ◌+◌, ◌≤◌, Bool, true, false, cond, ◌&&◌, ◌||◌, nat_eq, List, [], ◌∷◌, get_or, map, filter, flat_map, All, refl, sym, ap, ◌∙◌, subst, arith}
use Rattle.std.specs.List.{AllByRecursion, list_any}
use Rattle.std.proofs.lemmas.Bool.{cond-true, cond-false, eq-eqb, ne_eqb, and_parts, and_from, or_left, or_right}
use Rattle.std.proofs.lemmas.List.Elements.{filter_agree, All-from_recursion, recursion_from_All}
use Rattle.std.proofs.lemmas.List.Folds.{flat_map-map}
use Rattle.std.proofs.lemmas.Simd.{map-map}
use Rattle.tb_tree.specs.Plain.{Plain}
use Rattle.tb_tree.specs.Numbers.{Numbered}
use Rattle.tb_tree.proofs.lists.Alls.{all-weaker, all-map, all-flat_map, all-passing}
use Rattle.tb_tree.proofs.lists.Filters.{filter-map, filter-flat_map, filter-fixed, both_filters, All-unfilter}
use Rattle.tb_tree.proofs.lists.Maps.{map-flat_map, flat_map_same}
use Rattle.tb_span.specs.Lists.{is_related}
use Rattle.tb_span.specs.declared.item.Axis.{Axis}
use Rattle.tb_span.specs.declared.item.Item.{Item}
use Rattle.tb_label.specs.Rows.{Row, document_row, table, numbered_of, item_of, is_on}
use Rattle.tb_pattern.specs.Plain.{PlainEdges}
use Rattle.tb_twig.specs.Branches.{Branch, branch_at, axis_of}
use Rattle.tb_twig.specs.Links.{run}
use Rattle.tb_twig.specs.declared.link.Link.{Link}
use Rattle.tb_twig.specs.Narrowed.{link, links_under, links_between, leads_from, leads_to, is_met}
use Rattle.tb_twig.proofs.HasLaws.{has, has-map, met-more, any-filter, any-map, any-more}
use Rattle.tb_twig.proofs.BuiltLaws.{kept_same}
use Rattle.tb_twig.proofs.StandsLaws.{Narrows, Joins}
use Rattle.tb_twig.proofs.NumberedLaws.{later}
use Rattle.tb_twig.proofs.TableLaws.{Member, Of, all-members, axis-found, table-count, alone-of, top_of, closed_of}

-- the items of the rows whose nodes pass
abbrev pub listed_by : (Numbered → Bool) → List Row → List Item
listed_by p rs = map item_of (filter (λ r. p (numbered_of r)) rs)

-- the links of the pairs of rows on the axis that pass
abbrev pub links_of : Axis → (Numbered → Numbered → Bool) → List Row → List Link
links_of axis p rs = flat_map (λ r. map (λ s. link r.number s.number) (filter (λ s. is_on axis r s && p (numbered_of r) (numbered_of s)) rs)) rs

-- two functions that agree
pub flat_map-alike : {X Y : Type 0} (f g : X → List Y) → ((x : X) → f x ≡ g x) → (xs : List X) → flat_map f xs ≡ flat_map g xs
flat_map-alike f g alike xs = flat_map_same f g xs (λ k d less. alike (get_or xs k d))

map-cond : {X Y : Type 0} (f : X → Y) (b : Bool) (xs : List X) → map f (cond b xs []) ≡ cond b (map f xs) []
map-cond f true xs = refl
map-cond f false xs = refl

-- the rows on the axis of a row whose pairs with it pass
abbrev linked_rows : Axis → (Numbered → Numbered → Bool) → List Row → Row → List Row
linked_rows axis p rs r = filter (λ s. is_on axis r s && p (numbered_of r) (numbered_of s)) rs

run-row : (axis : Axis) (p : Numbered → Numbered → Bool) (rs : List Row) (n : ℕ) (r : Row)
    → map (λ (l : Link). l.below) (filter (λ l. nat_eq l.above n) (map (λ s. link r.number s.number) (linked_rows axis p rs r)))
    ≡ cond (nat_eq r.number n) (map (λ s. s.number) (linked_rows axis p rs r)) []
run-row axis p rs n r =
    ap (map (λ (l : Link). l.below)) (filter-map (λ l. nat_eq l.above n) (λ (s : Row). link r.number s.number) (linked_rows axis p rs r))
    ∙ map-map (λ (l : Link). l.below) (λ (s : Row). link r.number s.number) (filter (λ s. nat_eq r.number n) (linked_rows axis p rs r))
    ∙ ap (map (λ (s : Row). s.number)) (filter-fixed (nat_eq r.number n) (linked_rows axis p rs r))
    ∙ map-cond (λ (s : Row). s.number) (nat_eq r.number n) (linked_rows axis p rs r)

-- The run of a node is the nodes on its axis whose pairs with it pass, in document order.
pub runs-of : (root : Plain) (axis : Axis) (p : Numbered → Numbered → Bool) (u : Numbered) → Of root u
    → run (links_of axis p (table root)) u.number ≡ map (λ v. v.number) (filter (p u) (axis_of axis u))
runs-of root axis p u here =
    let rs = table root in
    let r = here.0 in
    let number = λ (s : Row). s.number in
    let of_row = λ (s : Row). map number (linked_rows axis p rs s) in
    ap (run (links_of axis p rs)) (ap (λ (v : Numbered). v.number) here.1)
    ∙ ap (map (λ (l : Link). l.below)) (filter-flat_map (λ (l : Link). nat_eq l.above r.number) (λ (s : Row). map (λ (t : Row). link s.number t.number) (linked_rows axis p rs s)) rs)
    ∙ map-flat_map (λ (l : Link). l.below) (λ (s : Row). filter (λ l. nat_eq l.above r.number) (map (λ (t : Row). link s.number t.number) (linked_rows axis p rs s))) rs
    ∙ flat_map-alike (λ (s : Row). map (λ (l : Link). l.below) (filter (λ l. nat_eq l.above r.number) (map (λ (t : Row). link s.number t.number) (linked_rows axis p rs s))))
    (λ (s : Row). cond (nat_eq s.number r.number) (of_row s) []) (run-row axis p rs r.number) rs
    ∙ alone-of 0 of_row rs r (table-count root) here.2
    ∙ ap (map number) (sym (both_filters (λ (s : Row). p (numbered_of r) (numbered_of s)) (is_on axis r) (λ (s : Row). is_on axis r s && p (numbered_of r) (numbered_of s)) (λ s. refl) rs))
    ∙ sym (map-map (λ (v : Numbered). v.number) numbered_of (filter (λ (s : Row). p (numbered_of r) (numbered_of s)) (filter (is_on axis r) rs)))
    ∙ ap (map (λ (v : Numbered). v.number)) (sym (filter-map (p (numbered_of r)) numbered_of (filter (is_on axis r) rs)) ∙ ap (filter (p (numbered_of r))) (axis-found root axis r here.2))
    ∙ sym (ap (λ (w : Numbered). map (λ (v : Numbered). v.number) (filter (p w) (axis_of axis w))) here.1)

pub has-filter : {X : Type 0} (p : X → Bool) (xs : List X) → has (filter p xs) ≡ list_any p xs
has-filter p [] = refl
has-filter p (x ∷ xs) = at (p x) (has-filter p xs)
  where
    at : (b : Bool) → has (filter p xs) ≡ list_any p xs → has (cond b (x ∷ filter p xs) (filter p xs)) ≡ (b || list_any p xs)
    at true e = refl
    at false e = e

pub above-of : (root : Plain) (axis : Axis) (p : Numbered → Numbered → Bool) (u : Numbered) → Of root u → leads_from (links_of axis p (table root)) u.number ≡ list_any (p u) (axis_of axis u)
above-of root axis p u here =
    let links = links_of axis p (table root) in
    sym (has-filter (λ (l : Link). nat_eq l.above u.number) links)
    ∙ sym (has-map (λ (l : Link). l.below) (filter (λ l. nat_eq l.above u.number) links))
    ∙ ap has (runs-of root axis p u here)
    ∙ has-map (λ (v : Numbered). v.number) (filter (p u) (axis_of axis u))
    ∙ has-filter (p u) (axis_of axis u)

run-below : (links : List Link) (n m : ℕ) → list_any (λ k. nat_eq k m) (run links n) ≡ true → leads_to links m ≡ true
run-below links n m some =
    any-more (λ (l : Link). nat_eq l.above n && nat_eq l.below m) (λ (l : Link). nat_eq l.below m) links (each links)
    (sym (any-filter (λ (l : Link). nat_eq l.below m) (λ l. nat_eq l.above n) links) ∙ sym (any-map (λ k. nat_eq k m) (λ (l : Link). l.below) (filter (λ l. nat_eq l.above n) links)) ∙ some)
  where
    each : (ls : List Link) → AllByRecursion (λ (l : Link). (nat_eq l.above n && nat_eq l.below m) ≡ true → nat_eq l.below m ≡ true) ls
    each [] = tt
    each (l ∷ ls) = ((λ e. (and_parts (nat_eq l.above n) (nat_eq l.below m) e).1), each ls)

-- each that passes is among those that pass
any-itself : (p : Numbered → Bool) (vs : List Numbered) → AllByRecursion (λ v. p v ≡ true → list_any (λ k. nat_eq k v.number) (map (λ w. w.number) (filter p vs)) ≡ true) vs
any-itself p [] = tt
any-itself p (x ∷ xs) = (
  (λ e. rw e (or_left (nat_eq x.number x.number) (list_any (λ k. nat_eq k x.number) (map (λ (w : Numbered). w.number) (filter p xs))) (eq-eqb x.number x.number refl))),
  all-weaker (λ v. p v ≡ true → list_any (λ k. nat_eq k v.number) (map (λ (w : Numbered). w.number) (filter p xs)) ≡ true)
      (λ v. p v ≡ true → list_any (λ k. nat_eq k v.number) (map (λ (w : Numbered). w.number) (filter p (x ∷ xs))) ≡ true) xs
      (λ v k e. at v (p x) (k e)) (any-itself p xs),
)
  where
    at : (v : Numbered) (b : Bool) → list_any (λ k. nat_eq k v.number) (map (λ (w : Numbered). w.number) (filter p xs)) ≡ true
        → list_any (λ k. nat_eq k v.number) (map (λ (w : Numbered). w.number) (cond b (x ∷ filter p xs) (filter p xs))) ≡ true
    at v true e = or_right (nat_eq x.number v.number) (list_any (λ k. nat_eq k v.number) (map (λ (w : Numbered). w.number) (filter p xs))) e
    at v false e = e

pub below-of : (root : Plain) (axis : Axis) (p : Numbered → Numbered → Bool) (u : Numbered) → Of root u
    → AllByRecursion (λ v. p u v ≡ true → leads_to (links_of axis p (table root)) v.number ≡ true) (axis_of axis u)
below-of root axis p u here =
    all-weaker (λ v. p u v ≡ true → list_any (λ k. nat_eq k v.number) (map (λ (w : Numbered). w.number) (filter (p u) (axis_of axis u))) ≡ true)
    (λ v. p u v ≡ true → leads_to (links_of axis p (table root)) v.number ≡ true) (axis_of axis u)
    (λ v k e. run-below (links_of axis p (table root)) u.number v.number (ap (list_any (λ k. nat_eq k v.number)) (runs-of root axis p u here) ∙ k e))
    (any-itself (p u) (axis_of axis u))

-- A list that is narrowed by numbers.
pub narrowed_list : (t : ℕ → Bool) (p : Numbered → Bool) (rs : List Row) → filter (λ i. t i.node) (listed_by p rs) ≡ listed_by (λ v. p v && t v.number) rs
narrowed_list t p rs =
    filter-map (λ (i : Item). t i.node) item_of (filter (λ r. p (numbered_of r)) rs)
    ∙ ap (map item_of) (both_filters (λ (r : Row). t r.number) (λ r. p (numbered_of r)) (λ r. p (numbered_of r) && t r.number) (λ r. refl) rs)

-- Links without those whose lower node fails.
trim-test : (a b c : Bool) → (a && (c && b)) ≡ ((a && b) && c)
trim-test true true true = refl
trim-test true true false = refl
trim-test true false true = refl
trim-test true false false = refl
trim-test false b c = refl

pub trimmed_links : (t : ℕ → Bool) (axis : Axis) (p : Numbered → Numbered → Bool) (rs : List Row)
    → filter (λ l. t l.below) (links_of axis p rs) ≡ links_of axis (λ u v. t v.number && p u v) rs
trimmed_links t axis p rs =
    filter-flat_map (λ (l : Link). t l.below) (λ (r : Row). map (λ (s : Row). link r.number s.number) (linked_rows axis p rs r)) rs
    ∙ flat_map-alike (λ (r : Row). filter (λ (l : Link). t l.below) (map (λ (s : Row). link r.number s.number) (linked_rows axis p rs r)))
    (λ (r : Row). map (λ (s : Row). link r.number s.number) (linked_rows axis (λ u v. t v.number && p u v) rs r))
    (λ r.
    filter-map (λ (l : Link). t l.below) (λ (s : Row). link r.number s.number) (linked_rows axis p rs r)
    ∙ ap (map (λ (s : Row). link r.number s.number))
    (both_filters (λ (s : Row). t s.number) (λ s. is_on axis r s && p (numbered_of r) (numbered_of s)) (λ s. is_on axis r s && (t s.number && p (numbered_of r) (numbered_of s)))
    (λ s. trim-test (is_on axis r s) (p (numbered_of r) (numbered_of s)) (t s.number)) rs))
    rs

-- The pairs of two lists, by ancestor, are the links of their nodes.
join-test : (a f g : Bool) → f ≡ true → (a && (f && g)) ≡ (g && a)
join-test true true true e = refl
join-test true true false e = refl
join-test false true true e = refl
join-test false true false e = refl
join-test a false g e = absurd (let h : ◌≡◌ {A = Bool} false true = e in cc)

no-test : (a f g : Bool) → f ≡ false → (a && (f && g)) ≡ false
no-test true false g e = refl
no-test false f g e = refl
no-test true true g e = absurd (let h : ◌≡◌ {A = Bool} true false = e in cc)

joined-row : (axis : Axis) (f g : Numbered → Bool) (rs : List Row) (r : Row) (b : Bool) → f (numbered_of r) ≡ b
    → cond b (links_under axis (listed_by g rs) (item_of r)) [] ≡ map (λ (s : Row). link r.number s.number) (linked_rows axis (λ u v. f u && g v) rs r)
joined-row axis f g rs r true e =
    ap (map (λ (y : Item). link r.number y.node)) (filter-map (λ (y : Item). is_related axis r.label y.label) item_of (filter (λ s. g (numbered_of s)) rs))
    ∙ map-map (λ (y : Item). link r.number y.node) item_of (filter (is_on axis r) (filter (λ s. g (numbered_of s)) rs))
    ∙ ap (map (λ (s : Row). link r.number s.number))
    (both_filters (is_on axis r) (λ s. g (numbered_of s)) (λ s. is_on axis r s && (f (numbered_of r) && g (numbered_of s)))
    (λ s. join-test (is_on axis r s) (f (numbered_of r)) (g (numbered_of s)) e) rs)
joined-row axis f g rs r false e =
    ap (map (λ (s : Row). link r.number s.number))
    (sym (filter-fixed false rs)
    ∙ filter_agree (λ (s : Row). false) (λ (s : Row). is_on axis r s && (f (numbered_of r) && g (numbered_of s)))
    (λ s. sym (no-test (is_on axis r s) (f (numbered_of r)) (g (numbered_of s)) e)) rs)

pub joined-links : (axis : Axis) (f g : Numbered → Bool) (rs : List Row) → links_between axis (listed_by f rs) (listed_by g rs) ≡ links_of axis (λ u v. f u && g v) rs
joined-links axis f g rs =
    let d = listed_by g rs in
    let whole = λ (r : Row). map (λ (s : Row). link r.number s.number) (linked_rows axis (λ u v. f u && g v) rs r) in
    flat_map-map (links_under axis d) item_of (filter (λ r. f (numbered_of r)) rs)
    ∙ kept_same (λ (r : Row). links_under axis d (item_of r)) whole (λ r. f (numbered_of r)) rs (each rs)
  where
    each : (xs : List Row) → AllByRecursion (λ (r : Row). cond (f (numbered_of r)) (links_under axis (listed_by g rs) (item_of r)) [] ≡ map (λ (s : Row). link r.number s.number) (linked_rows axis (λ u v. f u && g v) rs r)) xs
    each [] = tt
    each (x ∷ xs) = (joined-row axis f g rs x (f (numbered_of x)) refl, each xs)

-- What the lists and pairs are after the join of edge e: the lower list keeps what a link leads to, and the upper
-- one what has what the mark asks for.
abbrev pub lists_then : ℕ → Branch → List Link → (ℕ → Numbered → Bool) → ℕ → Numbered → Bool
lists_then e s links lists x v =
    cond (nat_eq x (e + 1)) (lists x v && leads_to links v.number) (cond (nat_eq x s.up) (lists x v && is_met s.mark (leads_from links v.number)) (lists x v))

abbrev pub pairs_then : ℕ → Branch → (ℕ → Numbered → Bool) → (ℕ → Numbered → Numbered → Bool) → ℕ → Numbered → Numbered → Bool
pairs_then e s lists pairs f u v = cond (nat_eq f e) (lists s.up u && lists (e + 1) v) (pairs f u v)

then-less : (at_lower at_upper whole below above : Bool) → cond at_lower (whole && below) (cond at_upper (whole && above) whole) ≡ true → whole ≡ true
then-less true at_upper whole below above e = (and_parts whole below e).0
then-less false true whole below above e = (and_parts whole above e).0
then-less false false whole below above e = e

pub narrows : (root : Plain) (es : PlainEdges) (e : ℕ) (lists : ℕ → Numbered → Bool) (links : List Link) → (branch_at es e).up ≤ e
    → links ≡ links_of (branch_at es e).axis (λ u v. lists (branch_at es e).up u && lists (e + 1) v) (table root)
    → Narrows (Of root) (closed_of root) es (numbered_of (document_row root)) (top_of root) e lists (lists_then e (branch_at es e) links lists)
narrows root es e lists links before is =
    let s = branch_at es e in
    let p = λ (u v : Numbered). lists s.up u && lists (e + 1) v in
    record {
      less = λ x v here kept. then-less (nat_eq x (e + 1)) (nat_eq x s.up) (lists x v) (leads_to links v.number) (is_met s.mark (leads_from links v.number)) kept;
      others = λ x low up v here listed.
          cond-false (nat_eq x (e + 1)) (lists x v && leads_to links v.number) (cond (nat_eq x s.up) (lists x v && is_met s.mark (leads_from links v.number)) (lists x v)) (ne_eqb x (e + 1) low)
          ∙ cond-false (nat_eq x s.up) (lists x v && is_met s.mark (leads_from links v.number)) (lists x v) (ne_eqb x s.up up) ∙ listed;
      lower = λ u here listed.
          all-weaker (λ v. p u v ≡ true → leads_to (links_of s.axis p (table root)) v.number ≡ true) (λ v. lists (e + 1) v ≡ true → lists_then e s links lists (e + 1) v ≡ true) (axis_of s.axis u)
          (λ v k low.
          cond-true (nat_eq (e + 1) (e + 1)) (lists (e + 1) v && leads_to links v.number) (cond (nat_eq (e + 1) s.up) (lists (e + 1) v && is_met s.mark (leads_from links v.number)) (lists (e + 1) v)) (eq-eqb (e + 1) (e + 1) refl)
          ∙ and_from (lists (e + 1) v) (leads_to links v.number) low (ap (λ ls. leads_to ls v.number) is ∙ k (and_from (lists s.up u) (lists (e + 1) v) listed low)))
          (below-of root s.axis p u here);
      upper = λ u here listed given.
          cond-false (nat_eq s.up (e + 1)) (lists s.up u && leads_to links u.number) (cond (nat_eq s.up s.up) (lists s.up u && is_met s.mark (leads_from links u.number)) (lists s.up u)) (ne_eqb s.up (e + 1) (λ g. omega (arith, g, before)))
          ∙ cond-true (nat_eq s.up s.up) (lists s.up u && is_met s.mark (leads_from links u.number)) (lists s.up u) (eq-eqb s.up s.up refl)
          ∙ and_from (lists s.up u) (is_met s.mark (leads_from links u.number)) listed
          (met-more s.mark (list_any (lists (e + 1)) (axis_of s.axis u)) (leads_from links u.number)
          (λ some.
          ap (λ ls. leads_from ls u.number) is ∙ above-of root s.axis p u here
          ∙ any-more (lists (e + 1)) (p u) (axis_of s.axis u) (each u listed (axis_of s.axis u)) some)
          given);
    }
  where
    each : (u : Numbered) → lists (branch_at es e).up u ≡ true → (vs : List Numbered) → AllByRecursion (λ v. lists (e + 1) v ≡ true → (lists (branch_at es e).up u && lists (e + 1) v) ≡ true) vs
    each u listed [] = tt
    each u listed (v ∷ vs) = ((λ low. and_from (lists (branch_at es e).up u) (lists (e + 1) v) listed low), each u listed vs)

pub joins : (root : Plain) (es : PlainEdges) (e : ℕ) (lists : ℕ → Numbered → Bool) (pairs : ℕ → Numbered → Numbered → Bool)
    → Joins (Of root) (closed_of root) es (numbered_of (document_row root)) (top_of root) e lists pairs (pairs_then e (branch_at es e) lists pairs)
joins root es e lists pairs = record {
  pairs_are = λ u here. each u (axis_of (branch_at es e).axis u);
  others = λ f ne u v. cond-false (nat_eq f e) (lists (branch_at es e).up u && lists (e + 1) v) (pairs f u v) (ne_eqb f e ne);
}
  where
    each : (u : Numbered) (vs : List Numbered) → AllByRecursion (λ v. pairs_then e (branch_at es e) lists pairs e u v ≡ (lists (branch_at es e).up u && lists (e + 1) v)) vs
    each u [] = tt
    each u (v ∷ vs) = (cond-true (nat_eq e e) (lists (branch_at es e).up u && lists (e + 1) v) (pairs e u v) (eq-eqb e e refl), each u vs)

unmapped : {X Y : Type 0} (P : Y → Type 0) (f : X → Y) (xs : List X) → AllByRecursion P (map f xs) → AllByRecursion (λ x. P (f x)) xs
unmapped P f [] all = tt
unmapped P f (x ∷ xs) all = (all.0, unmapped P f xs all.1)

-- No link leads to the document node.
pub links-later : (root : Plain) (axis : Axis) (p : Numbered → Numbered → Bool) → All (λ (l : Link). 1 ≤ l.below) (links_of axis p (table root))
links-later root axis p =
    All-from_recursion (λ (l : Link). 1 ≤ l.below) (links_of axis p rs)
    (all-flat_map (λ (l : Link). 1 ≤ l.below) (λ r. map (λ s. link r.number s.number) (filter (passes r) rs)) rs
    (all-weaker (Member rs) (λ r. AllByRecursion (λ (l : Link). 1 ≤ l.below) (map (λ s. link r.number s.number) (filter (passes r) rs))) rs of_row (all-members rs)))
  where
    rs : List Row
    rs = table root

    passes : Row → Row → Bool
    passes r s = is_on axis r s && p (numbered_of r) (numbered_of s)

    of_row : (r : Row) → Member rs r → AllByRecursion (λ (l : Link). 1 ≤ l.below) (map (λ s. link r.number s.number) (filter (passes r) rs))
    of_row r m =
        all-map (λ (l : Link). 1 ≤ l.below) (λ s. link r.number s.number) (filter (passes r) rs)
        (all-passing (λ (s : Row). 1 ≤ s.number) (passes r) rs
        (all-weaker (λ s. is_on axis r s ≡ true → r.number + 1 ≤ s.number) (λ s. passes r s ≡ true → 1 ≤ s.number) rs
        (λ s k e. let low = k (and_parts (is_on axis r s) (p (numbered_of r) (numbered_of s)) e).0 in omega (arith, low))
        (recursion_from_All (λ s. is_on axis r s ≡ true → r.number + 1 ≤ s.number) rs
        (All-unfilter (is_on axis r) (λ (s : Row). r.number + 1 ≤ s.number) rs
        (All-from_recursion (λ (s : Row). r.number + 1 ≤ s.number) (filter (is_on axis r) rs)
        (unmapped (λ (v : Numbered). r.number + 1 ≤ v.number) numbered_of (filter (is_on axis r) rs)
        (subst (AllByRecursion (λ (v : Numbered). r.number + 1 ≤ v.number)) (sym (axis-found root axis r m)) (later axis (numbered_of r)))))))))
