-- Rows built from pairs of neighbouring pattern nodes are the naive ones, where each pair that is kept fits, and each
-- pair that matters is kept.
use Rattle.std.proofs.Common.{◌≡◌, ℕ, zero, suc, ◌+◌, ◌<◌, Bool, true, false, cond, ◌&&◌, List, [], ◌∷◌, ◌++◌, length, get_or, map, filter, flat_map, refl, sym, ap, ap₂, ◌∙◌, subst, arith, length-append}
use Rattle.std.specs.List.{AllByRecursion}
use Rattle.std.proofs.lemmas.Bool.{cond-true, false≢true, and_parts, and_from, false_from_ne_true}
use Rattle.tb_tree.specs.Plain.{kids_of}
use Rattle.tb_tree.specs.Numbers.{Numbered}
use Rattle.tb_tree.proofs.lists.Alls.{all-both, all-weaker}
use Rattle.tb_span.specs.declared.item.Axis.{Axis}
use Rattle.tb_pattern.specs.Plain.{PlainPattern, matching, PlainEdges, no_edges, edge, nodes_in}
use Rattle.tb_pattern.specs.Witness.{witness, Offers, no_offers, offer, offered, witnesses_at, choices}
use Rattle.tb_pattern.specs.declared.pattern.Mark.{Mark}
use Rattle.tb_twig.specs.Branches.{Branch, branches, fits, axis_of}
use Rattle.tb_twig.proofs.HasLaws.{has, has-map, has-none, has-flat_map, has-product, has-offered, met-more, any-filter, any-more}

-- The rows from pairs: those of edge e for which `pairs e` holds.
abbrev pub built : (ℕ → Numbered → Numbered → Bool) → ℕ → PlainEdges → Numbered → List Offers
built pairs e no_edges u = no_offers ∷ []
built pairs e (edge axis mark (matching test conds whole below) others) u =
    flat_map (λ ws. map (offer ws) (built pairs (e + 1 + nodes_in below) others u))
    (offered mark (flat_map (λ v. map (witness v.number v.node) (built pairs (e + 1) below v)) (filter (pairs e u) (axis_of axis u))))

-- it holds of each of these edges and its number, the first of which is e
abbrev pub AllFrom : (ℕ → Branch → Type 0) → ℕ → List Branch → Type 0
AllFrom P e [] = Unit {0}
AllFrom P e (s ∷ ss) = P e s × AllFrom P (e + 1) ss

pub from-parts : (P : ℕ → Branch → Type 0) (e f : ℕ) (xs ys : List Branch) → e + length xs ≡ f → AllFrom P e (xs ++ ys) → AllFrom P e xs × AllFrom P f ys
from-parts P e f [] ys long all = (tt, subst (λ n. AllFrom P n ys) (let g : e ≡ f = omega (arith, long) in g) all)
from-parts P e f (x ∷ xs) ys long all =
    let rest = from-parts P (e + 1) f xs ys (omega (arith, long)) all.1 in
    ((all.0, rest.0), rest.1)

pub from-append : (P : ℕ → Branch → Type 0) (e f : ℕ) (xs ys : List Branch) → e + length xs ≡ f → AllFrom P e xs → AllFrom P f ys → AllFrom P e (xs ++ ys)
from-append P e f [] ys long first second = subst (λ n. AllFrom P n ys) (let g : f ≡ e = omega (arith, long) in g) second
from-append P e f (x ∷ xs) ys long first second = (first.0, from-append P (e + 1) f xs ys (omega (arith, long)) first.1 second)

pub from-weaker : (P Q : ℕ → Branch → Type 0) (e : ℕ) (ss : List Branch) → ((f : ℕ) (s : Branch) → P f s → Q f s) → AllFrom P e ss → AllFrom Q e ss
from-weaker P Q e [] weaker all = tt
from-weaker P Q e (s ∷ ss) weaker all = (weaker e s all.0, from-weaker P Q (e + 1) ss weaker all.1)

pub from-all : (P : ℕ → Branch → Type 0) (e : ℕ) (ss : List Branch) (d : Branch) → ((f : ℕ) → f < length ss → P (e + f) (get_or ss f d)) → AllFrom P e ss
from-all P e [] d all = tt
from-all P e (s ∷ ss) d all = (
  subst (λ n. P n s) (let g : e + 0 ≡ e = omega arith in g) (all 0 (omega arith)),
  from-all P (e + 1) ss d (λ f less. subst (λ n. P n (get_or ss f d)) (let g : e + suc f ≡ e + 1 + f = omega arith in g) (all (suc f) (omega (arith, less)))),
)

pub at-place : (P : ℕ → Branch → Type 0) (e : ℕ) (ss : List Branch) (d : Branch) (f : ℕ) → f < length ss → AllFrom P e ss → P (e + f) (get_or ss f d)
at-place P e [] d f less all = absurd (omega (arith, less))
at-place P e (s ∷ ss) d zero less all = subst (λ n. P n s) (let g : e ≡ e + 0 = omega arith in g) all.0
at-place P e (s ∷ ss) d (suc f) less all =
    subst (λ n. P n (get_or ss f d)) (let g : e + 1 + f ≡ e + suc f = omega arith in g) (at-place P (e + 1) ss d f (omega (arith, less)) all.1)

pub length-branches : (n e : ℕ) (es : PlainEdges) → length (branches n e es) ≡ nodes_in es
length-branches n e no_edges = refl
length-branches n e (edge axis mark (matching test conds whole below) others) =
    omega (
      arith,
      length-append (branches (e + 1) (e + 1) below) (branches n (e + 1 + nodes_in below) others),
      length-branches (e + 1) (e + 1) below,
      length-branches n (e + 1 + nodes_in below) others,
    )

-- what holds of an edge and all behind it: of itself, of those below it, and of the others
pub record Parts (P : ℕ → Branch → Type 0) (n e : ℕ) (axis : Axis) (mark : Mark) (to : PlainPattern) (below others : PlainEdges) : Type 0 where
  pub this : P e (record { up = n; axis = axis; mark = mark; to = to })
  pub inside : AllFrom P (e + 1) (branches (e + 1) (e + 1) below)
  pub behind : AllFrom P (e + 1 + nodes_in below) (branches n (e + 1 + nodes_in below) others)

pub parts-of : (P : ℕ → Branch → Type 0) (n e : ℕ) (axis : Axis) (mark : Mark) (to : PlainPattern) (below others : PlainEdges)
    → P e (record { up = n; axis = axis; mark = mark; to = to }) × AllFrom P (e + 1) (branches (e + 1) (e + 1) below ++ branches n (e + 1 + nodes_in below) others)
    → Parts P n e axis mark to below others
parts-of P n e axis mark to below others all =
    let halves = from-parts P (e + 1) (e + 1 + nodes_in below) (branches (e + 1) (e + 1) below) (branches n (e + 1 + nodes_in below) others) (omega (arith, length-branches (e + 1) (e + 1) below)) all.1 in
    record { this = all.0; inside = halves.0; behind = halves.1 }

-- the axes of these nodes have none but such nodes
abbrev pub Closed : (Numbered → Type 0) → Type 0
Closed In = (axis : Axis) (u : Numbered) → In u → AllByRecursion In (axis_of axis u)

-- a pair that is kept has a lower node that fits
abbrev pub Sound : (Numbered → Type 0) → (ℕ → Numbered → Numbered → Bool) → ℕ → Branch → Type 0
Sound In pairs e s = (u : Numbered) → In u → AllByRecursion (λ v. pairs e u v ≡ true → fits s.to v ≡ true) (axis_of s.axis u)

-- A pair below a node of the upper list whose lower node has a witness is kept, and its lower node is in the lower list.
abbrev pub Complete : (Numbered → Type 0) → (ℕ → Numbered → Bool) → (ℕ → Numbered → Numbered → Bool) → ℕ → Branch → Type 0
Complete In lists pairs e s =
    (u : Numbered) → In u → lists s.up u ≡ true
    → AllByRecursion (λ v. has (witnesses_at s.to v) ≡ true → (lists (e + 1) v ≡ true) × (pairs e u v ≡ true)) (axis_of s.axis u)

pub has-witnesses : (to : PlainPattern) (below : PlainEdges) (v : Numbered) (b : Bool) → fits to v ≡ b
    → witnesses_at to v ≡ cond b (map (witness v.number v.node) (choices below v.number (kids_of v.node))) [] → has (witnesses_at to v) ≡ (b && has (choices below v.number (kids_of v.node)))
has-witnesses to below v true e is = ap has is ∙ has-map (witness v.number v.node) (choices below v.number (kids_of v.node))
has-witnesses to below v false e is = ap has is

module _ (In : Numbered → Type 0) (closed : Closed In) (pairs : ℕ → Numbered → Numbered → Bool) where
  -- Where rows are built for a node, the definition has some: soundness alone.
  pub has-built : (n e : ℕ) (es : PlainEdges) → AllFrom (Sound In pairs) e (branches n e es) → (u : Numbered) → In u
      → has (built pairs e es u) ≡ true → has (choices es u.number (kids_of u.node)) ≡ true
  has-built n e no_edges sound u here some = refl
  has-built n e (edge axis mark (matching test conds whole below) others) sound u here some =
      let to = matching test conds whole below in
      let p = parts-of (Sound In pairs) n e axis mark to below others sound in
      let behind = built pairs (e + 1 + nodes_in below) others u in
      let found = λ (v : Numbered). map (witness v.number v.node) (built pairs (e + 1) below v) in
      let vs = axis_of axis u in
      let both = and_parts (has behind) (has (offered mark (flat_map found (filter (pairs e u) vs)))) (sym (has-product offer (offered mark (flat_map found (filter (pairs e u) vs))) behind) ∙ some) in
      let more =
      any-more (λ v. pairs e u v && has (found v)) (λ v. has (witnesses_at to v)) vs
      (all-weaker (λ v. (pairs e u v ≡ true → fits to v ≡ true) × In v) (λ v. (pairs e u v && has (found v)) ≡ true → has (witnesses_at to v) ≡ true) vs
      (λ v k f.
      let q = and_parts (pairs e u v) (has (found v)) f in
      has-witnesses to below v true (k.0 q.0) (cond-true (fits to v) (map (witness v.number v.node) (choices below v.number (kids_of v.node))) [] (k.0 q.0))
      ∙ has-built (e + 1) (e + 1) below p.inside v k.1 (sym (has-map (witness v.number v.node) (built pairs (e + 1) below v)) ∙ q.1))
      (all-both (λ v. pairs e u v ≡ true → fits to v ≡ true) In vs (p.this u here) (closed axis u here))) in
      let offers =
      met-more mark (has (flat_map found (filter (pairs e u) vs))) (has (flat_map (witnesses_at to) vs))
      (λ f. has-flat_map (witnesses_at to) vs ∙ more (sym (any-filter (λ v. has (found v)) (pairs e u) vs) ∙ sym (has-flat_map found (filter (pairs e u) vs)) ∙ f))
      (sym (has-offered mark (flat_map found (filter (pairs e u) vs))) ∙ both.1) in
      has-product offer (offered mark (flat_map (witnesses_at to) vs)) (choices others u.number (kids_of u.node))
      ∙ and_from (has (choices others u.number (kids_of u.node))) (has (offered mark (flat_map (witnesses_at to) vs)))
      (has-built n (e + 1 + nodes_in below) others p.behind u here both.0)
      (has-offered mark (flat_map (witnesses_at to) vs) ∙ offers)

-- a filter that drops only elements that give nothing, where the others give the same
kept_one : {X Y : Type 0} (f g : X → List Y) (x : X) (kept : List X) (whole : List Y) (b : Bool) → flat_map f kept ≡ whole → cond b (f x) [] ≡ g x
    → flat_map f (cond b (x ∷ kept) kept) ≡ g x ++ whole
kept_one f g x kept whole true e is = ap₂ (λ a r. a ++ r) is e
kept_one f g x kept whole false e is = ap₂ (λ a r. a ++ r) is e

pub kept_same : {X Y : Type 0} (f g : X → List Y) (p : X → Bool) (xs : List X) → AllByRecursion (λ x. cond (p x) (f x) [] ≡ g x) xs → flat_map f (filter p xs) ≡ flat_map g xs
kept_same f g p [] same = refl
kept_same f g p (x ∷ xs) same = kept_one f g x (filter p xs) (flat_map g xs) (p x) (kept_same f g p xs same.1) same.0

-- The rows of one lower node: those that are built and those of the definition.
one_node : (to : PlainPattern) (below : PlainEdges) (v : Numbered) (kept : Bool) (rows : List Offers)
    → witnesses_at to v ≡ cond (fits to v) (map (witness v.number v.node) (choices below v.number (kids_of v.node))) []
    → (kept ≡ true → fits to v ≡ true) → (has rows ≡ true → has (choices below v.number (kids_of v.node)) ≡ true)
    → (has (witnesses_at to v) ≡ true → kept ≡ true) → (has (witnesses_at to v) ≡ true → rows ≡ choices below v.number (kids_of v.node))
    → cond kept (map (witness v.number v.node) rows) [] ≡ witnesses_at to v
one_node to below v kept rows is sound some complete same = at kept (has (witnesses_at to v)) refl refl
  where
    at : (k h : Bool) → kept ≡ k → has (witnesses_at to v) ≡ h → cond k (map (witness v.number v.node) rows) [] ≡ witnesses_at to v
    at true true e f = ap (map (witness v.number v.node)) (same f) ∙ sym (cond-true (fits to v) (map (witness v.number v.node) (choices below v.number (kids_of v.node))) [] (sound e)) ∙ sym is
    at true false e f =
        ap (map (witness v.number v.node)) (has-none rows (false_from_ne_true (has rows) (λ g.
        false≢true (sym f ∙ has-witnesses to below v (fits to v) refl is ∙ and_from (fits to v) (has (choices below v.number (kids_of v.node))) (sound e) (some g)))))
        ∙ sym (has-none (witnesses_at to v) f)
    at false true e f = absurd (false≢true (sym e ∙ complete f))
    at false false e f = sym (has-none (witnesses_at to v) f)

module _ (In : Numbered → Type 0) (closed : Closed In) (lists : ℕ → Numbered → Bool) (pairs : ℕ → Numbered → Numbered → Bool) where
  -- Where each pair that is kept fits and each that matters is kept, the rows are those of the definition.
  pub built-is : (n e : ℕ) (es : PlainEdges) → AllFrom (Sound In pairs) e (branches n e es) → AllFrom (Complete In lists pairs) e (branches n e es)
      → (u : Numbered) → In u → lists n u ≡ true → built pairs e es u ≡ choices es u.number (kids_of u.node)
  built-is n e no_edges sound complete u here listed = refl
  built-is n e (edge axis mark (matching test conds whole below) others) sound complete u here listed =
      let to = matching test conds whole below in
      let p = parts-of (Sound In pairs) n e axis mark to below others sound in
      let q = parts-of (Complete In lists pairs) n e axis mark to below others complete in
      let found = λ (v : Numbered). map (witness v.number v.node) (built pairs (e + 1) below v) in
      let vs = axis_of axis u in
      let same =
      all-weaker (λ v. (pairs e u v ≡ true → fits to v ≡ true) × ((has (witnesses_at to v) ≡ true → (lists (e + 1) v ≡ true) × (pairs e u v ≡ true)) × In v))
      (λ v. cond (pairs e u v) (found v) [] ≡ witnesses_at to v) vs
      (λ v k.
      one_node to below v (pairs e u v) (built pairs (e + 1) below v) refl k.0
      (has-built In closed pairs (e + 1) (e + 1) below p.inside v k.1.1) (λ f. (k.1.0 f).1)
      (λ f. built-is (e + 1) (e + 1) below p.inside q.inside v k.1.1 (k.1.0 f).0))
      (all-both (λ v. pairs e u v ≡ true → fits to v ≡ true) (λ v. (has (witnesses_at to v) ≡ true → (lists (e + 1) v ≡ true) × (pairs e u v ≡ true)) × In v) vs (p.this u here)
      (all-both (λ v. has (witnesses_at to v) ≡ true → (lists (e + 1) v ≡ true) × (pairs e u v ≡ true)) In vs (q.this u here listed) (closed axis u here))) in
      ap₂ (λ (rest : List Offers) ws. flat_map (λ w. map (offer w) rest) (offered mark ws))
      (built-is n (e + 1 + nodes_in below) others p.behind q.behind u here listed)
      (kept_same found (witnesses_at to) (pairs e u) vs same)
