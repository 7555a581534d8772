-- The pairs by descendant, sorted by ancestor, are the pairs by ancestor.
use Rattle.std.proofs.Common.{not, ◌&&◌, ◌≡◌, ℕ, zero, suc, ◌+◌, ◌<◌, ◌≤◌, ◌⊎◌, inl, inr, Bool, true, false, cond, nat_eq, nat_lt, List, [], ◌∷◌, ◌++◌, length, get_or, Some, All, AllPairs, map, filter, flat_map, refl, sym, ap, ap₂, ◌∙◌, arith}
use Rattle.std.specs.List.{range_with_len, IsAllAdjacentAnswer}
use Rattle.std.proofs.lemmas.Bool.Decides.{nat_tests}
use Rattle.std.proofs.lemmas.Bool.{cases_eq, eqb-true, eq-eqb, ne_eqb, ltb-true, lt-ltb, false_from_ne_true, false≢true}
use Rattle.std.proofs.lemmas.List.Elements.{All-head, All-tail, All-filter, filter-append, filter_passes}
use Rattle.std.proofs.lemmas.List.Kept.{AllPairs-filter}
use Rattle.std.specs.List.Sorted.{IsPermutation, IsNonDecreasingBy, IsStableByKey}
use Rattle.std.specs.Ordering.{nat_cmp, is_lt, is_le, is_some_and}
use Rattle.std.specs.declared.cmp.Ordering.TheVariants.{Less, Equal, Greater}
use Rattle.std.proofs.lemmas.List.Sorted.{All-permutation, IsNonDecreasingBy-from_all_adjacent}
use Rattle.tb_span.specs.Lists.{is_related}
use Rattle.tb_span.specs.Seeds.{label_at, places, Range, places_in}
use Rattle.tb_span.specs.declared.item.Axis.{Axis}
use Rattle.tb_span.specs.declared.item.Item.{Item}
use Rattle.tb_span.specs.declared.item.Pair.{Pair}
use Rattle.tb_stackjoin.specs.Pairs.{pair, above, pairs_of, pairs_by_descendant, pairs_under, pairs_by_ancestor, of_ancestor, AreByAncestor}
use Rattle.tb_tree.proofs.lists.Filters.{filter_all, filter_none, filter_filter, filter-keep, filter-skip, filter_swap, filter-map, filter_same}
use Rattle.tb_tree.proofs.lists.Maps.{flat_map_same}
use Rattle.tb_tree.proofs.lists.Ranges.{All-range}
use Rattle.tb_tree.proofs.lists.Pairs.{AllPairs-head, AllPairs-tail}
use Rattle.tb_stackjoin.proofs.ListedLaws.{IsRelatedPair, listed-related}

-- the elements with this key, and those with a greater one
abbrev pub part : {X : Type 0} → (X → ℕ) → ℕ → List X → List X
part key i xs = filter (λ x. nat_eq (key x) i) xs

abbrev pub later : {X : Type 0} → (X → ℕ) → ℕ → List X → List X
later key i xs = filter (λ x. nat_lt i (key x)) xs

-- A sorted list begins with the elements of the least key.
pub front : {X : Type 0} (key : X → ℕ) (i : ℕ) (xs : List X) → AllPairs (λ x y. key x ≤ key y) xs → All (λ x. i ≤ key x) xs → xs ≡ part key i xs ++ later key i xs
front key i [] rises low = refl
front key i (x ∷ xs) rises low =
    at (cases_eq (key x) i) (front key i xs (AllPairs-tail (λ y z. key y ≤ key z) x xs rises) (All-tail (λ y. i ≤ key y) x xs low))
  where
    at : (key x ≡ i) ⊎ (key x ≡ i → ⊥) → xs ≡ part key i xs ++ later key i xs → x ∷ xs ≡ part key i (x ∷ xs) ++ later key i (x ∷ xs)
    at (inl e) rest =
        ap (λ r. x ∷ r) rest
        ∙ sym (ap₂ (λ p l. p ++ l) (filter-keep (λ y. nat_eq (key y) i) x xs (eq-eqb (key x) i e))
        (filter-skip (λ y. nat_lt i (key y)) x xs (false_from_ne_true (nat_lt i (key x)) (λ t. omega (arith, e, ltb-true i (key x) t)))))
    at (inr ne) rest =
        let first : i < key x = omega (arith, ne, All-head (λ y. i ≤ key y) x xs low) in
        let others = AllPairs-head (λ y z. key y ≤ key z) x xs rises in
        sym (ap₂ (λ p l. p ++ l)
        (filter-skip (λ y. nat_eq (key y) i) x xs (ne_eqb (key x) i ne)
        ∙ filter_none (λ y. nat_eq (key y) i) xs (λ k d within. ne_eqb _ i (λ e. omega (arith, first, e, others k d within))))
        (filter-keep (λ y. nat_lt i (key y)) x xs (lt-ltb i (key x) first)
        ∙ ap (λ r. x ∷ r) (filter_all (λ y. nat_lt i (key y)) xs (λ k d within. lt-ltb i _ (omega (arith, first, others k d within))))))

-- A sorted list is its parts by key, one after the other.
parts : {X : Type 0} (key : X → ℕ) (lo n : ℕ) (xs : List X) → AllPairs (λ x y. key x ≤ key y) xs → All (λ x. lo ≤ key x) xs → All (λ x. key x < lo + n) xs
    → xs ≡ flat_map (λ i. part key i xs) (range_with_len lo n)
parts key lo zero [] rises low high = refl
parts key lo zero (x ∷ xs) rises low high = absurd (omega (arith, All-head (λ y. lo ≤ key y) x xs low, All-head (λ y. key y < lo + 0) x xs high))
parts key lo (suc n) xs rises low high =
    let rest = later key lo xs in
    let passes = λ (x : _). nat_lt lo (key x) in
    let kept : All (λ x. nat_lt lo (key x) ≡ true) rest = filter_passes passes xs in
    let within = All-filter passes (λ x. key x < lo + suc n) xs high in
    front key lo xs rises low
    ∙ ap (λ r. part key lo xs ++ r)
    (parts key (lo + 1) n rest (AllPairs-filter (λ x y. key x ≤ key y) passes xs rises)
    (λ k d less. omega (arith, ltb-true lo _ (kept k d less)))
    (λ k d less. omega (arith, within k d less))
    ∙ flat_map_same (λ i. part key i rest) (λ i. part key i xs) (range_with_len (lo + 1) n)
    (All-range (λ i. part key i rest ≡ part key i xs) (lo + 1) n
    (λ i first last. filter_filter (λ x. nat_eq (key x) i) passes xs (λ k d less e. lt-ltb lo _ (omega (arith, first, eqb-true _ i e))))))

-- a range has each of its numbers once
pub range_at : (lo n i : ℕ) → lo ≤ i → i < lo + n → filter (λ k. nat_eq k i) (range_with_len lo n) ≡ i ∷ []
range_at lo zero i low high = absurd (omega arith)
range_at lo (suc n) i low high = at (cases_eq lo i) (range_at (lo + 1) n i)
  where
    at : (lo ≡ i) ⊎ (lo ≡ i → ⊥) → (lo + 1 ≤ i → i < lo + 1 + n → filter (λ k. nat_eq k i) (range_with_len (lo + 1) n) ≡ i ∷ []) → filter (λ k. nat_eq k i) (range_with_len lo (suc n)) ≡ i ∷ []
    at (inl e) rest =
        filter-keep (λ k. nat_eq k i) lo (range_with_len (lo + 1) n) (eq-eqb lo i e)
        ∙ ap₂ (λ x xs. x ∷ xs) e
        (filter_none (λ k. nat_eq k i) (range_with_len (lo + 1) n) (All-range (λ k. nat_eq k i ≡ false) (lo + 1) n (λ k first last. ne_eqb k i (λ same. omega arith))))
    at (inr ne) rest =
        filter-skip (λ k. nat_eq k i) lo (range_with_len (lo + 1) n) (ne_eqb lo i ne) ∙ rest (omega arith) (omega arith)

-- what one descendant has with the ancestor at place i
one_at : (axis : Axis) (a d : List Item) (i j : ℕ) → i < length a
    → of_ancestor i (pairs_of axis a d j) ≡ map (λ k. pair k j) (cond (is_related axis (label_at a i) (label_at d j)) (i ∷ []) [])
one_at axis a d i j within =
    let related = λ (k : ℕ). is_related axis (label_at a k) (label_at d j) in
    filter-map (λ p. nat_eq p.a i) (λ k. pair k j) (above axis a (label_at d j))
    ∙ ap (λ ks. map (λ k. pair k j) ks)
    (filter_swap (λ k. nat_eq k i) related (places (length a)) ∙ ap (λ ks. filter related ks) (range_at 0 (length a) i (omega arith) (omega (arith, within))))

one_more : (i j : ℕ) (js : List ℕ) (related : Bool) → map (λ k. pair k j) (cond related (i ∷ []) []) ++ map (λ k. pair i k) js ≡ map (λ k. pair i k) (cond related (j ∷ js) js)
one_more i j js true = refl
one_more i j js false = refl

-- The part of an ancestor in the pairs by descendant.
pairs_at : (axis : Axis) (a d : List Item) (i : ℕ) (js : List ℕ) → i < length a
    → of_ancestor i (flat_map (pairs_of axis a d) js) ≡ map (λ j. pair i j) (filter (λ j. is_related axis (label_at a i) (label_at d j)) js)
pairs_at axis a d i [] within = refl
pairs_at axis a d i (j ∷ js) within =
    let related = λ (k : ℕ). is_related axis (label_at a i) (label_at d k) in
    filter-append (λ p. nat_eq p.a i) (pairs_of axis a d j) (flat_map (pairs_of axis a d) js)
    ∙ ap₂ (λ p q. p ++ q) (one_at axis a d i j within) (pairs_at axis a d i js within)
    ∙ one_more i j (filter related js) (related j)

-- Sorted by ancestor, the pairs of a join are the pairs by ancestor.
pub by_ancestor : (axis : Axis) (a d : List Item) (r : Range) (sorted : List Pair) → r.lo ≤ r.hi → AreByAncestor (pairs_by_descendant axis a d r) sorted → sorted ≡ pairs_by_ancestor axis a d r
by_ancestor axis a d r sorted le h =
    let within = All-permutation (IsRelatedPair axis a d r) (pairs_by_descendant axis a d r) sorted h.moved (listed-related axis a d r le) in
    parts (λ p. p.a) 0 (length a) sorted (λ i j e less last. h.rises i j e (omega arith) last) (λ k e less. omega arith) (λ k e less. omega (arith, (within k e less).ancestor))
    ∙ flat_map_same (λ i. of_ancestor i sorted) (pairs_under axis a d r) (places (length a))
    (All-range (λ i. of_ancestor i sorted ≡ pairs_under axis a d r i) 0 (length a) (λ i first last. h.kept i ∙ pairs_at axis a d i (places_in r) (omega (arith, last))))

ties_are : (m n : ℕ) → (not (is_lt (nat_cmp m n)) && not (is_lt (nat_cmp n m))) ≡ nat_eq n m
ties_are m n = grind (arith, nat_tests)

-- A stable sort by ancestor puts the pairs in that order.
pub by_stable_sort : (pairs sorted : List Pair) → IsPermutation pairs sorted → IsNonDecreasingBy (λ p. p.a) sorted → IsStableByKey (λ (p : Pair). p.a) nat_cmp pairs sorted
    → AreByAncestor pairs sorted
by_stable_sort pairs sorted moved rises stable = record {
  moved = moved;
  rises = rises;
  kept = λ i.
      sym (filter_same _ (λ p. nat_eq p.a i) sorted (λ k e less. ties_are i _))
      ∙ stable (pair i 0)
      ∙ filter_same _ (λ p. nat_eq p.a i) pairs (λ k e less. ties_are i _);
}

-- what the test of the order says
rises-one : (m n : ℕ) (less same : Bool) → (less ≡ true → m ≤ n) → (same ≡ true → m ≤ n) → is_le (cond less Less (cond same Equal Greater)) ≡ true → m ≤ n
rises-one m n true same less is e = less refl
rises-one m n false true less is e = is refl
rises-one m n false false less is e = absurd (false≢true e)

pub rises-from_test : (pairs : List Pair) (r : Bool) → IsAllAdjacentAnswer (λ (x y : Pair) (b : Bool). b ≡ is_some_and is_le (Some (nat_cmp x.a y.a))) pairs r → r ≡ true → IsNonDecreasingBy (λ p. p.a) pairs
rises-from_test pairs true h e =
    IsNonDecreasingBy-from_all_adjacent (λ p. p.a) pairs (λ k d less.
    let m = (get_or pairs k d).a in
    let n = (get_or pairs (k + 1) d).a in
    rises-one m n (nat_lt m n) (nat_eq m n) (λ t. omega (arith, ltb-true m n t)) (λ t. omega (arith, eqb-true m n t)) (sym (h k d less)))
rises-from_test pairs false h e = absurd (false≢true e)
