-- The nodes of a document by its rows: those on the axis of a node are such nodes, and numbers tell rows apart.
use Rattle.std.proofs.Common.{◌≡◌, ℕ, ◌+◌, ◌*◌, ◌<◌, ◌≤◌, cond, nat_eq, ◌⊎◌, inl, inr, List, [], ◌∷◌, ◌++◌, length, map, filter, flat_map, refl, sym, ap, ◌∙◌, subst, arith, append-nil}
use Rattle.std.specs.List.{AllByRecursion}
use Rattle.std.proofs.lemmas.Bool.{cond-true, cond-false, eq-eqb, ne_eqb}
use Rattle.tb_tree.specs.Plain.{Plain, elem, attr, text, Plains, no_kids, kid, kids_of, one}
use Rattle.tb_tree.specs.Numbers.{counts, Numbered}
use Rattle.tb_tree.proofs.lists.Alls.{all-weaker, all-kept}
use Rattle.tb_span.specs.declared.item.Axis.{Axis}
use Rattle.tb_span.specs.declared.item.Axis.TheVariants.{Child, Descendant}
use Rattle.tb_label.specs.Rows.{Row, rows, rows_of, document_row, table, numbered_of, is_on, numbered_on}
use Rattle.tb_label.proofs.RowLaws.{length-rows}
use Rattle.tb_label.proofs.AxisLaws.{FindsOn, all_find_on}
use Rattle.tb_twig.specs.Branches.{axis_of}
use Rattle.tb_twig.proofs.BuiltLaws.{Closed}

-- the row is one of these
abbrev pub Member : List Row → Row → Type 0
Member [] r = ⊥
Member (x ∷ xs) r = (r ≡ x) ⊎ Member xs r

-- a node of the document, the document node among them
abbrev pub Of : Plain → Numbered → Type 0
Of root v = (r : Row) × (v ≡ numbered_of r) × Member (table root) r

pub member-all : (P : Row → Type 0) (rs : List Row) (r : Row) → AllByRecursion P rs → Member rs r → P r
member-all P [] r all none = absurd none
member-all P (x ∷ xs) r all (inl is) = subst P (sym is) all.0
member-all P (x ∷ xs) r all (inr later) = member-all P xs r all.1 later

pub all-members : (rs : List Row) → AllByRecursion (Member rs) rs
all-members [] = tt
all-members (x ∷ xs) = (inl refl, all-weaker (Member xs) (Member (x ∷ xs)) xs (λ r m. inr m) (all-members xs))

axis-numbered : (axis : Axis) (u : Numbered) → numbered_on axis (u.number + 1) (kids_of u.node) ≡ axis_of axis u
axis-numbered Child u = refl
axis-numbered Descendant u = refl

-- the labels find the nodes on the axis of a row
pub axis-found : (root : Plain) (axis : Axis) (r : Row) → Member (table root) r → map numbered_of (filter (is_on axis r) (table root)) ≡ axis_of axis (numbered_of r)
axis-found root axis r m = member-all (FindsOn axis (table root)) (table root) r (all_find_on axis root) m ∙ axis-numbered axis (numbered_of r)

pub closed_of : (root : Plain) → Closed (Of root)
closed_of root axis u here =
    subst (AllByRecursion (Of root)) (axis-found root axis here.0 here.2 ∙ ap (axis_of axis) (sym here.1))
    (all-kept (Member (table root)) (Of root) numbered_of (is_on axis here.0) (table root) (λ s m. (s, refl, m)) (all-members (table root)))

-- the document node
pub top_of : (root : Plain) → Of root (numbered_of (document_row root))
top_of root = (document_row root, refl, inl refl)

-- Numbers count on from the first row's.
abbrev pub CountOn : ℕ → List Row → Type 0
CountOn n [] = Unit {0}
CountOn n (r ∷ rs) = (r.number ≡ n) × CountOn (n + 1) rs

count-append : (n m : ℕ) (xs ys : List Row) → n + length xs ≡ m → CountOn n xs → CountOn m ys → CountOn n (xs ++ ys)
count-append n m [] ys long first second = subst (λ k. CountOn k ys) (let g : m ≡ n = omega (arith, long) in g) second
count-append n m (x ∷ xs) ys long first second = (first.0, count-append (n + 1) m xs ys (omega (arith, long)) first.1 second)

rows-count : (clock number parent : ℕ) (at : List ℕ) (k : ℕ) (ks : Plains) → CountOn number (rows clock number parent at k ks)
rows-count clock number parent at k no_kids = tt
rows-count clock number parent at k (kid (elem name kids) rest) = (
  refl,
  count-append (number + 1) (number + 1 + counts kids) (rows (clock + 1) (number + 1) number (at ++ k ∷ []) 0 kids) (rows (clock + 2 * counts kids + 2) (number + 1 + counts kids) parent at (k + 1) rest)
      (omega (arith, length-rows (clock + 1) (number + 1) number (at ++ k ∷ []) 0 kids))
      (rows-count (clock + 1) (number + 1) number (at ++ k ∷ []) 0 kids) (rows-count (clock + 2 * counts kids + 2) (number + 1 + counts kids) parent at (k + 1) rest),
)
rows-count clock number parent at k (kid (attr name value) rest) = (refl, rows-count (clock + 2) (number + 1) parent at (k + 1) rest)
rows-count clock number parent at k (kid (text value) rest) = (refl, rows-count (clock + 2) (number + 1) parent at (k + 1) rest)

pub table-count : (root : Plain) → CountOn 0 (table root)
table-count root = (refl, subst (λ n. CountOn n (rows_of root)) (let g : 1 ≡ 0 + 1 = omega arith in g) (rows-count 2 1 0 [] 0 (one root)))

pub count-later : (n : ℕ) (rs : List Row) → CountOn n rs → AllByRecursion (λ r. n ≤ r.number) rs
count-later n [] count = tt
count-later n (r ∷ rs) count = (omega (arith, count.0), all-weaker (λ s. n + 1 ≤ s.number) (λ s. n ≤ s.number) rs (λ s less. omega (arith, less)) (count-later (n + 1) rs count.1))

-- what rows of one number give
abbrev of_number : {X : Type 0} → ℕ → (Row → List X) → Row → List X
of_number n f s = cond (nat_eq s.number n) (f s) []

none-of : {X : Type 0} (n m : ℕ) (f : Row → List X) (rs : List Row) → n < m → CountOn m rs → flat_map (of_number n f) rs ≡ []
none-of n m f [] less count = refl
none-of n m f (r ∷ rs) less count =
    ap (λ xs. xs ++ flat_map (of_number n f) rs) (cond-false (nat_eq r.number n) (f r) [] (ne_eqb r.number n (λ g. omega (arith, g, less, count.0))))
    ∙ none-of n (m + 1) f rs (omega (arith, less)) count.1

-- one row alone has its number
pub alone-of : {X : Type 0} (m : ℕ) (f : Row → List X) (rs : List Row) (r : Row) → CountOn m rs → Member rs r → flat_map (of_number r.number f) rs ≡ f r
alone-of m f [] r count none = absurd none
alone-of m f (x ∷ xs) r count (inl is) =
    ap (λ ys. ys ++ flat_map (of_number r.number f) xs) (cond-true (nat_eq x.number r.number) (f x) [] (eq-eqb x.number r.number (ap (λ (s : Row). s.number) (sym is))))
    ∙ ap (λ ys. f x ++ ys) (none-of r.number (m + 1) f xs (let g : r.number ≡ x.number = ap (λ (s : Row). s.number) is in omega (arith, g, count.0)) count.1)
    ∙ append-nil (f x) ∙ ap f (sym is)
alone-of m f (x ∷ xs) r count (inr later) =
    ap (λ ys. ys ++ flat_map (of_number r.number f) xs)
    (cond-false (nat_eq x.number r.number) (f x) [] (ne_eqb x.number r.number (λ g. omega (arith, g, count.0, member-all (λ s. m + 1 ≤ s.number) xs r (count-later (m + 1) xs count.1) later))))
    ∙ alone-of (m + 1) f xs r count.1 later
