-- Places and numbers. Numbers run without a gap, places rise in the same order, and what is listed below
-- a node has that node as its ancestor. So the number of a node is its turn in document order.
use Rattle.std.proofs.Common.{◌≡◌, ℕ, suc, ◌+◌, ◌≤◌, List, [], ◌∷◌, ◌++◌, map, refl, sym, ap, ap₂, ◌∙◌, arith, append_assoc, eq-eqb}
use Rattle.std.specs.Ordering.{nat_cmp}
use Rattle.std.specs.Cmp.Lexicographic.{slice_cmp}
use Rattle.std.specs.List.{range_with_len, AllByRecursion}
use Rattle.std.specs.List.Sorted.{IsStrictlySortedBy}
use Rattle.std.proofs.lemmas.List.{map-append}
use Rattle.std.proofs.lemmas.Bool.{lt-ltb, le-ltb}
use Rattle.tb_tree.specs.Plain.{elem, attr, text, Plains, no_kids, kid}
use Rattle.tb_tree.specs.Numbers.{counts, all_numbered}
use Rattle.tb_tree.specs.Places.{IsAncestor, Precedes, Placed, placed_below}
use Rattle.tb_tree.proofs.lists.Alls.{all-append, all-weaker}
use Rattle.tb_tree.proofs.lists.Ranges.{range_join}

-- Numbers run without a gap.
pub numbers-range : (n : ℕ) (ks : Plains) → map (λ x. x.number) (all_numbered n ks) ≡ range_with_len n (counts ks)
numbers-range n no_kids = refl
numbers-range n (kid (elem name kids) rest) =
    let sum : 1 + counts kids + counts rest ≡ suc (counts kids + counts rest) = omega arith in
    rw sum
    (ap (λ r. n ∷ r)
    (map-append (λ x. x.number) (all_numbered (n + 1) kids) (all_numbered (n + 1 + counts kids) rest)
    ∙ ap₂ (λ a b. a ++ b) (numbers-range (n + 1) kids) (numbers-range (n + 1 + counts kids) rest) ∙ range_join (n + 1) (counts kids) (counts rest)))
numbers-range n (kid (attr name value) rest) =
    let sum : 1 + counts rest ≡ suc (counts rest) = omega arith in
    rw sum (ap (λ r. n ∷ r) (numbers-range (n + 1) rest))
numbers-range n (kid (text value) rest) =
    let sum : 1 + counts rest ≡ suc (counts rest) = omega arith in
    rw sum (ap (λ r. n ∷ r) (numbers-range (n + 1) rest))

-- Numbered nodes and placed nodes are the same, in the same order.
pub nodes-placed : (n k : ℕ) (at : List ℕ) (ks : Plains) → map (λ x. x.node) (all_numbered n ks) ≡ map (λ x. x.node) (placed_below at k ks)
nodes-placed n k at no_kids = refl
nodes-placed n k at (kid (elem name kids) rest) =
    ap (λ r. elem name kids ∷ r)
    (map-append (λ x. x.node) (all_numbered (n + 1) kids) (all_numbered (n + 1 + counts kids) rest)
    ∙ ap₂ (λ a b. a ++ b) (nodes-placed (n + 1) 0 (at ++ k ∷ []) kids) (nodes-placed (n + 1 + counts kids) (k + 1) at rest)
    ∙ sym (map-append (λ x. x.node) (placed_below (at ++ k ∷ []) 0 kids) (placed_below at (k + 1) rest)))
nodes-placed n k at (kid (attr name value) rest) = ap (λ r. attr name value ∷ r) (nodes-placed (n + 1) (k + 1) at rest)
nodes-placed n k at (kid (text value) rest) = ap (λ r. text value ∷ r) (nodes-placed (n + 1) (k + 1) at rest)

-- a place below this one, under one of its kids from the k-th on
pub record IsUnder (at : List ℕ) (k : ℕ) (place : List ℕ) : Type 0 where
  pub turn : ℕ
  pub rest : List ℕ
  pub from : k ≤ turn
  pub is : place ≡ at ++ turn ∷ rest

abbrev pub places : List Placed → List (List ℕ)
places ps = map (λ p. p.place) ps

under_kid : (at : List ℕ) (k : ℕ) (place : List ℕ) → IsUnder (at ++ k ∷ []) 0 place → IsUnder at k place
under_kid at k place u = record { turn = k; rest = u.turn ∷ u.rest; from = omega arith; is = u.is ∙ append_assoc at (k ∷ []) (u.turn ∷ u.rest) }

under_later : (at : List ℕ) (k : ℕ) (place : List ℕ) → IsUnder at (k + 1) place → IsUnder at k place
under_later at k place u = record { turn = u.turn; rest = u.rest; from = omega (arith, u.from); is = u.is }

-- What is listed below a place has that place as its ancestor.
pub all_under : (at : List ℕ) (k : ℕ) (ks : Plains) → AllByRecursion (IsUnder at k) (places (placed_below at k ks))
all_under at k no_kids = tt
all_under at k (kid (elem name kids) rest) =
    let here : IsUnder at k (at ++ k ∷ []) = record { turn = k; rest = []; from = omega arith; is = refl } in
    let inside = all-weaker (IsUnder (at ++ k ∷ []) 0) (IsUnder at k) (places (placed_below (at ++ k ∷ []) 0 kids)) (under_kid at k) (all_under (at ++ k ∷ []) 0 kids) in
    let later = all-weaker (IsUnder at (k + 1)) (IsUnder at k) (places (placed_below at (k + 1) rest)) (under_later at k) (all_under at (k + 1) rest) in
    (here, rw (map-append (λ p. p.place) (placed_below (at ++ k ∷ []) 0 kids) (placed_below at (k + 1) rest)) (all-append (IsUnder at k) _ _ inside later))
all_under at k (kid (attr name value) rest) =
    (record { turn = k; rest = []; from = omega arith; is = refl }, all-weaker (IsUnder at (k + 1)) (IsUnder at k) (places (placed_below at (k + 1) rest)) (under_later at k) (all_under at (k + 1) rest))
all_under at k (kid (text value) rest) =
    (record { turn = k; rest = []; from = omega arith; is = refl }, all-weaker (IsUnder at (k + 1)) (IsUnder at k) (places (placed_below at (k + 1) rest)) (under_later at k) (all_under at (k + 1) rest))

pub under-ancestor : (at : List ℕ) (k : ℕ) (place : List ℕ) → IsUnder at k place → IsAncestor at place
under-ancestor at k place u = (u.turn, u.rest, u.is)

-- document order
cmp-prefix : (prefix a b : List ℕ) → slice_cmp nat_cmp (prefix ++ a) (prefix ++ b) ≡ slice_cmp nat_cmp a b
cmp-prefix [] a b = refl
cmp-prefix (x ∷ prefix) a b = rw (le-ltb x x (omega arith), eq-eqb x x refl) (cmp-prefix prefix a b)

above_precedes : (at : List ℕ) (k : ℕ) (place : List ℕ) → IsUnder (at ++ k ∷ []) 0 place → Precedes (at ++ k ∷ []) place
above_precedes at k place u =
    let long : place ≡ at ++ (k ∷ u.turn ∷ u.rest) = u.is ∙ append_assoc at (k ∷ []) (u.turn ∷ u.rest) in
    rw (long, cmp-prefix at (k ∷ []) (k ∷ u.turn ∷ u.rest), le-ltb k k (omega arith), eq-eqb k k refl) refl

left_precedes : (at : List ℕ) (k : ℕ) (left right : List ℕ) → IsUnder (at ++ k ∷ []) 0 left → IsUnder at (k + 1) right → Precedes left right
left_precedes at k left right u v =
    let long : left ≡ at ++ (k ∷ u.turn ∷ u.rest) = u.is ∙ append_assoc at (k ∷ []) (u.turn ∷ u.rest) in
    rw (long, v.is, cmp-prefix at (k ∷ u.turn ∷ u.rest) (v.turn ∷ v.rest), lt-ltb k v.turn (omega (arith, v.from))) refl

kid_precedes : (at : List ℕ) (k : ℕ) (right : List ℕ) → IsUnder at (k + 1) right → Precedes (at ++ k ∷ []) right
kid_precedes at k right v = rw (v.is, cmp-prefix at (k ∷ []) (v.turn ∷ v.rest), lt-ltb k v.turn (omega (arith, v.from))) refl

sorted-append : (xs ys : List (List ℕ)) → IsStrictlySortedBy (slice_cmp nat_cmp) xs → IsStrictlySortedBy (slice_cmp nat_cmp) ys
    → AllByRecursion (λ x. AllByRecursion (Precedes x) ys) xs → IsStrictlySortedBy (slice_cmp nat_cmp) (xs ++ ys)
unfolding IsStrictlySortedBy
sorted-append [] ys p q r = q
sorted-append (x ∷ xs) ys p q r = (all-append (Precedes x) xs ys p.0 r.0, sorted-append xs ys p.1 q r.1)

-- Places rise strictly in document order.
pub places-rise : (at : List ℕ) (k : ℕ) (ks : Plains) → IsStrictlySortedBy (slice_cmp nat_cmp) (places (placed_below at k ks))
unfolding IsStrictlySortedBy
places-rise at k no_kids = tt
places-rise at k (kid (elem name kids) rest) =
    let inside = all_under (at ++ k ∷ []) 0 kids in
    let later = all_under at (k + 1) rest in
    let left = places (placed_below (at ++ k ∷ []) 0 kids) in
    let right = places (placed_below at (k + 1) rest) in
    let first = all-append (Precedes (at ++ k ∷ [])) left right (all-weaker _ _ left (above_precedes at k) inside) (all-weaker _ _ right (kid_precedes at k) later) in
    let across = all-weaker (IsUnder (at ++ k ∷ []) 0) (λ x. AllByRecursion (Precedes x) right) left (λ x u. all-weaker (IsUnder at (k + 1)) (Precedes x) right (λ y v. left_precedes at k x y u v) later) inside in
    rw (map-append (λ p. p.place) (placed_below (at ++ k ∷ []) 0 kids) (placed_below at (k + 1) rest))
    (first, sorted-append left right (places-rise (at ++ k ∷ []) 0 kids) (places-rise at (k + 1) rest) across)
places-rise at k (kid (attr name value) rest) =
    (all-weaker _ _ (places (placed_below at (k + 1) rest)) (kid_precedes at k) (all_under at (k + 1) rest), places-rise at (k + 1) rest)
places-rise at k (kid (text value) rest) =
    (all-weaker _ _ (places (placed_below at (k + 1) rest)) (kid_precedes at k) (all_under at (k + 1) rest), places-rise at (k + 1) rest)
