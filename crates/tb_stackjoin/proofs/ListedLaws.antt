-- The pairs are the relation, listed in order: each pair of places that is related stands in the list, nothing
-- else does, and each pair precedes all later ones, so that none stands there twice.
use Rattle.std.proofs.Common.{◌≡◌, ℕ, zero, suc, ◌+◌, ◌-◌, ◌<◌, ◌≤◌, ◌⊎◌, inl, inr, Bool, true, false, cond, List, [], ◌∷◌, length, get_or, All, AllPairs, Contains, filter, flat_map, refl, sym, ap, ◌∙◌, subst, arith}
use Rattle.std.specs.List.{range_with_len}
use Rattle.std.proofs.lemmas.Bool.{cases_eq}
use Rattle.std.proofs.lemmas.List.{get_or-map, length-map}
use Rattle.std.proofs.lemmas.List.Elements.{All-map, All-filter, filter_passes, Contains-append_left, Contains-append_right}
use Rattle.std.proofs.lemmas.List.Kept.{AllPairs-filter}
use Rattle.tb_span.specs.Lists.{is_related}
use Rattle.tb_span.specs.Seeds.{label_at, places, Range, places_in}
use Rattle.tb_span.specs.declared.item.Axis.{Axis}
use Rattle.tb_span.specs.declared.item.Item.{Item}
use Rattle.tb_span.specs.declared.item.Pair.{Pair}
use Rattle.tb_stackjoin.specs.Pairs.{pair, above, paired, pairs_of, pairs_by_descendant}
use Rattle.tb_tree.proofs.lists.Filters.{filter-keep}
use Rattle.tb_tree.proofs.lists.Ranges.{All-range, range_rises}
use Rattle.tb_tree.proofs.lists.Maps.{All-flat_map}
use Rattle.tb_tree.proofs.lists.Pairs.{AllPairs-nil, AllPairs-append}

-- the places of an ancestor in `a` and of a descendant in the range of `d`, related on the axis
pub record IsRelatedPair (axis : Axis) (a d : List Item) (r : Range) (p : Pair) : Type 0 where
  pub ancestor : p.a < length a
  pub from : r.lo ≤ p.d
  pub below : p.d < r.hi
  pub related : is_related axis (label_at a p.a) (label_at d p.d) ≡ true

-- by descendant, and then by ancestor
abbrev pub Precedes : Pair → Pair → Type 0
Precedes p q = (p.d < q.d) ⊎ ((p.d ≡ q.d) × (p.a < q.a))

related_of : (axis : Axis) (a d : List Item) (r : Range) (j : ℕ) → r.lo ≤ j → j < r.hi → All (IsRelatedPair axis a d r) (pairs_of axis a d j)
related_of axis a d r j low high =
    let test = λ (i : ℕ). is_related axis (label_at a i) (label_at d j) in
    let within = All-filter test (λ i. i < length a) (places (length a)) (All-range (λ i. i < length a) 0 (length a) (λ i first last. omega arith)) in
    All-map (IsRelatedPair axis a d r) (λ i. pair i j) (above axis a (label_at d j))
    (λ k e less. record { ancestor = within k e less; from = low; below = high; related = filter_passes test (places (length a)) k e less })

-- nothing else is listed
pub listed-related : (axis : Axis) (a d : List Item) (r : Range) → r.lo ≤ r.hi → All (IsRelatedPair axis a d r) (pairs_by_descendant axis a d r)
listed-related axis a d r le =
    All-flat_map (IsRelatedPair axis a d r) (pairs_of axis a d) (places_in r)
    (All-range (λ j. All (IsRelatedPair axis a d r) (pairs_of axis a d j)) r.lo (r.hi - r.lo) (λ j low high. related_of axis a d r j low (omega arith)))

own-rise : (axis : Axis) (a d : List Item) (j : ℕ) → AllPairs Precedes (pairs_of axis a d j)
own-rise axis a d j = λ i k e less within.
    let is = above axis a (label_at d j) in
    let long = length-map is (λ m. pair m j) in
    let rises = AllPairs-filter (λ m n. m < n) (λ m. is_related axis (label_at a m) (label_at d j)) (places (length a)) (range_rises 0 (length a)) i k e.a less (omega arith) in
    subst (λ p. Precedes p (get_or (paired is j) k e)) (sym (get_or-map (λ m. pair m j) is i e.a e (omega arith)))
    (subst (λ q. Precedes (pair (get_or is i e.a) j) q) (sym (get_or-map (λ m. pair m j) is k e.a e (omega arith))) (inr (refl, rises)))

descendant_is : (axis : Axis) (a d : List Item) (j : ℕ) → All (λ p. p.d ≡ j) (pairs_of axis a d j)
descendant_is axis a d j = All-map (λ p. p.d ≡ j) (λ i. pair i j) (above axis a (label_at d j)) (λ k e less. refl)

descendants_from : (axis : Axis) (a d : List Item) (lo n : ℕ) → All (λ p. lo ≤ p.d) (flat_map (pairs_of axis a d) (range_with_len lo n))
descendants_from axis a d lo n =
    All-flat_map (λ p. lo ≤ p.d) (pairs_of axis a d) (range_with_len lo n)
    (All-range (λ j. All (λ p. lo ≤ p.d) (pairs_of axis a d j)) lo n
    (λ j low high. All-map (λ p. lo ≤ p.d) (λ i. pair i j) (above axis a (label_at d j)) (λ k e less. low)))

range-rise : (axis : Axis) (a d : List Item) (lo n : ℕ) → AllPairs Precedes (flat_map (pairs_of axis a d) (range_with_len lo n))
range-rise axis a d lo zero = AllPairs-nil Precedes
range-rise axis a d lo (suc n) =
    let rest = flat_map (pairs_of axis a d) (range_with_len (lo + 1) n) in
    AllPairs-append Precedes (pairs_of axis a d lo) rest (own-rise axis a d lo) (range-rise axis a d (lo + 1) n)
    (λ i e less k f within. inl (omega (arith, descendant_is axis a d lo i e less, descendants_from axis a d (lo + 1) n k f within)))

-- each pair precedes all later ones
pub listed-rise : (axis : Axis) (a d : List Item) (r : Range) → AllPairs Precedes (pairs_by_descendant axis a d r)
listed-rise axis a d r = range-rise axis a d r.lo (r.hi - r.lo)

cond-contains : (b : Bool) (x : ℕ) (xs : List ℕ) (y : ℕ) → Contains xs y → Contains (cond b (x ∷ xs) xs) y
cond-contains true x xs y h = Contains-append_right (x ∷ []) xs y h
cond-contains false x xs y h = h

filter-contains : (f : ℕ → Bool) (lo n i : ℕ) → lo ≤ i → i < lo + n → f i ≡ true → Contains (filter f (range_with_len lo n)) i
filter-contains f lo zero i low high e = absurd (omega arith)
filter-contains f lo (suc n) i low high e = at (cases_eq lo i) (filter-contains f (lo + 1) n i)
  where
    at : (lo ≡ i) ⊎ (lo ≡ i → ⊥) → (lo + 1 ≤ i → i < lo + 1 + n → f i ≡ true → Contains (filter f (range_with_len (lo + 1) n)) i) → Contains (filter f (range_with_len lo (suc n))) i
    at (inl is) later =
        subst (λ xs. Contains xs i) (sym (filter-keep f lo (range_with_len (lo + 1) n) (ap f is ∙ e))) (zero, omega arith, is)
    at (inr ne) later = cond-contains (f lo) lo (filter f (range_with_len (lo + 1) n)) i (later (omega arith) (omega arith) e)

map-contains : (is : List ℕ) (i j : ℕ) → Contains is i → Contains (paired is j) (pair i j)
map-contains is i j (k, within, at) =
    (k, omega (arith, length-map is (λ m. pair m j)), get_or-map (λ m. pair m j) is k i (pair i j) within ∙ ap (λ m. pair m j) at)

range-contains : (axis : Axis) (a d : List Item) (lo n : ℕ) (p : Pair) → lo ≤ p.d → p.d < lo + n → Contains (pairs_of axis a d p.d) p
    → Contains (flat_map (pairs_of axis a d) (range_with_len lo n)) p
range-contains axis a d lo zero p low high h = absurd (omega arith)
range-contains axis a d lo (suc n) p low high h = at (cases_eq lo p.d) (range-contains axis a d (lo + 1) n p)
  where
    at : (lo ≡ p.d) ⊎ (lo ≡ p.d → ⊥) → (lo + 1 ≤ p.d → p.d < lo + 1 + n → Contains (pairs_of axis a d p.d) p → Contains (flat_map (pairs_of axis a d) (range_with_len (lo + 1) n)) p)
        → Contains (flat_map (pairs_of axis a d) (range_with_len lo (suc n))) p
    at (inl is) later =
        Contains-append_left (pairs_of axis a d lo) (flat_map (pairs_of axis a d) (range_with_len (lo + 1) n)) p (subst (λ j. Contains (pairs_of axis a d j) p) (sym is) h)
    at (inr ne) later =
        Contains-append_right (pairs_of axis a d lo) (flat_map (pairs_of axis a d) (range_with_len (lo + 1) n)) p (later (omega arith) (omega arith) h)

-- each related pair is listed
pub related-listed : (axis : Axis) (a d : List Item) (r : Range) (p : Pair) → IsRelatedPair axis a d r p → Contains (pairs_by_descendant axis a d r) p
related-listed axis a d r p h =
    range-contains axis a d r.lo (r.hi - r.lo) p h.from (omega (arith, h.from, h.below))
    (map-contains (above axis a (label_at d p.d)) p.a p.d
    (filter-contains (λ i. is_related axis (label_at a i) (label_at d p.d)) 0 (length a) p.a (omega arith) (omega (arith, h.ancestor)) h.related))
