-- The pairs of one ancestor: among pairs by ancestor they stand side by side.
use Rattle.std.proofs.Common.{◌≡◌, ℕ, zero, suc, ◌+◌, ◌-◌, ◌<◌, ◌≤◌, ◌⊎◌, inl, inr, Bool, true, false, nat_eq, nat_lt, nat_le, List, [], ◌∷◌, ◌++◌, length, get_or, take, drop, All, AllPairs, count_by, filter, flat_map, refl, sym, ap, ap₂, ◌∙◌, subst, arith, append-nil, length-append, take-append-drop, length-drop}
use Rattle.std.specs.List.{range_with_len}
use Rattle.std.specs.List.Sorted.{IsNonDecreasingBy, IsPartitionPoint}
use Rattle.std.proofs.lemmas.Bool.{cases_eq, cases_lt, eqb-true, eq-eqb, ne_eqb, ltb-true, lt-ltb, le-ltb, le-leb, lt-leb}
use Rattle.std.proofs.lemmas.List.{get_or-take, get_or-drop, length-take-le, take_at, drop_at}
use Rattle.std.proofs.lemmas.List.Elements.{All-cons, All-map, All-filter, filter-append, filter_passes}
use Rattle.std.proofs.lemmas.List.Sums.{length-filter, count_by-le-length}
use Rattle.tb_span.specs.Lists.{is_related}
use Rattle.tb_span.specs.Seeds.{label_at, places, Range, places_in}
use Rattle.tb_span.specs.declared.item.Axis.{Axis}
use Rattle.tb_span.specs.declared.item.Item.{Item}
use Rattle.tb_span.specs.declared.item.Pair.{Pair}
use Rattle.tb_tree.proofs.lists.Filters.{filter_all, filter_none, filter-keep, filter-skip, filter-flat_map}
use Rattle.tb_tree.proofs.lists.Maps.{All-flat_map, flat_map-filter}
use Rattle.tb_tree.proofs.lists.Pairs.{AllPairs-nil, AllPairs-head, AllPairs-tail, AllPairs-append}
use Rattle.tb_tree.proofs.lists.Ranges.{All-range}
use Rattle.tb_stackjoin.specs.Pairs.{pair, below, pairs_under, pairs_by_ancestor, of_ancestor}
use Rattle.tb_stackjoin.proofs.ListedLaws.{IsRelatedPair}
use Rattle.tb_stackjoin.proofs.SortLaws.{later, front, range_at}

-- where a list begins with all that pass, these are its first ones
pub filter-point : {X : Type 0} (p : X → Bool) (xs : List X) (i : ℕ) → i ≤ length xs → IsPartitionPoint (λ y. p y ≡ true) (λ y. p y ≡ false) xs i → filter p xs ≡ take i xs
filter-point p xs i within point =
    let short = length-take-le i xs within in
    let long = length-drop i xs in
    ap (filter p) (sym (take-append-drop i xs))
    ∙ filter-append p (take i xs) (drop i xs)
    ∙ ap₂ (λ ys zs. ys ++ zs)
    (filter_all p (take i xs) (λ k d less. ap p (get_or-take i xs k d (omega arith)) ∙ point.0 k d (omega arith) (omega arith)))
    (filter_none p (drop i xs) (λ k d less. ap p (get_or-drop i xs k d) ∙ point.1 (i + k) d (omega arith) (omega (arith, long, less))))
    ∙ append-nil (take i xs)

pub point-counts : {X : Type 0} (p : X → Bool) (xs : List X) (i : ℕ) → i ≤ length xs → IsPartitionPoint (λ y. p y ≡ true) (λ y. p y ≡ false) xs i → i ≡ count_by p xs
point-counts p xs i within point = sym (length-take-le i xs within) ∙ ap length (sym (filter-point p xs i within point)) ∙ length-filter p xs

-- the pairs with an earlier ancestor
abbrev earlier : ℕ → List Pair → List Pair
earlier i pairs = filter (λ p. nat_lt p.a i) pairs

three-parts : (i : ℕ) (pairs : List Pair) → AllPairs (λ p q. p.a ≤ q.a) pairs → pairs ≡ earlier i pairs ++ (of_ancestor i pairs ++ later (λ p. p.a) i pairs)
three-parts i [] rises = refl
three-parts i (x ∷ xs) rises = at (cases_lt x.a i) (three-parts i xs (AllPairs-tail (λ (p q : Pair). p.a ≤ q.a) x xs rises))
  where
    at : (x.a < i) ⊎ (i ≤ x.a) → xs ≡ earlier i xs ++ (of_ancestor i xs ++ later (λ p. p.a) i xs)
        → x ∷ xs ≡ earlier i (x ∷ xs) ++ (of_ancestor i (x ∷ xs) ++ later (λ p. p.a) i (x ∷ xs))
    at (inl less) rest =
        ap (λ r. x ∷ r) rest
        ∙ sym (ap₂ (λ l r. l ++ r) (filter-keep (λ (p : Pair). nat_lt p.a i) x xs (lt-ltb x.a i less))
        (ap₂ (λ o h. o ++ h) (filter-skip (λ (p : Pair). nat_eq p.a i) x xs (ne_eqb x.a i (λ e. omega (arith, e, less))))
        (filter-skip (λ (p : Pair). nat_lt i p.a) x xs (le-ltb i x.a (omega (arith, less))))))
    at (inr ge) rest =
        let low : All (λ p. i ≤ p.a) (x ∷ xs) =
        All-cons (λ (p : Pair). i ≤ p.a) x xs ge (λ k d less. omega (arith, ge, AllPairs-head (λ (p q : Pair). p.a ≤ q.a) x xs rises k d less)) in
        ap₂ (λ l r. l ++ r) (sym (filter_none (λ (p : Pair). nat_lt p.a i) (x ∷ xs) (λ k d less. le-ltb _ i (low k d less)))) (front (λ (p : Pair). p.a) i (x ∷ xs) rises low)

all_of_pairs : (pairs : List Pair) → IsNonDecreasingBy (λ p. p.a) pairs → AllPairs (λ p q. p.a ≤ q.a) pairs
all_of_pairs pairs rises = λ i j d less last. rises i j d (omega arith) last

up-to : (i : ℕ) (pairs : List Pair) → IsNonDecreasingBy (λ p. p.a) pairs → filter (λ p. nat_le p.a i) pairs ≡ earlier i pairs ++ of_ancestor i pairs
up-to i pairs rises =
    let le = λ (p : Pair). nat_le p.a i in
    let low = earlier i pairs in
    let own = of_ancestor i pairs in
    let high = later (λ (p : Pair). p.a) i pairs in
    ap (filter le) (three-parts i pairs (all_of_pairs pairs rises))
    ∙ filter-append le low (own ++ high)
    ∙ ap₂ (λ l r. l ++ r) (filter_all le low (λ k d less. le-leb _ i (omega (arith, ltb-true _ i (filter_passes (λ (p : Pair). nat_lt p.a i) pairs k d less)))))
    (filter-append le own high
    ∙ ap₂ (λ o h. o ++ h) (filter_all le own (λ k d less. le-leb _ i (omega (arith, eqb-true _ i (filter_passes (λ (p : Pair). nat_eq p.a i) pairs k d less)))))
    (filter_none le high (λ k d less. lt-leb _ i (ltb-true i _ (filter_passes (λ (p : Pair). nat_lt i p.a) pairs k d less))))
    ∙ append-nil own)

own-length : (i : ℕ) (pairs : List Pair) → IsNonDecreasingBy (λ p. p.a) pairs → count_by (λ p. nat_le p.a i) pairs ≡ count_by (λ p. nat_lt p.a i) pairs + length (of_ancestor i pairs)
own-length i pairs rises =
    sym (length-filter (λ (p : Pair). nat_le p.a i) pairs) ∙ ap length (up-to i pairs rises) ∙ length-append (earlier i pairs) (of_ancestor i pairs)
    ∙ ap (λ n. n + length (of_ancestor i pairs)) (length-filter (λ (p : Pair). nat_lt p.a i) pairs)

-- where the pairs of an ancestor begin and end
pub own-bounds : (i : ℕ) (pairs : List Pair) → IsNonDecreasingBy (λ p. p.a) pairs
    → (count_by (λ p. nat_lt p.a i) pairs ≤ count_by (λ p. nat_le p.a i) pairs) × (count_by (λ p. nat_le p.a i) pairs ≤ length pairs)
own-bounds i pairs rises = (omega (arith, own-length i pairs rises), count_by-le-length (λ (p : Pair). nat_le p.a i) pairs)

-- The pairs of an ancestor are those between.
pub own-part : (i : ℕ) (pairs : List Pair) → IsNonDecreasingBy (λ p. p.a) pairs
    → take (count_by (λ p. nat_le p.a i) pairs - count_by (λ p. nat_lt p.a i) pairs) (drop (count_by (λ p. nat_lt p.a i) pairs) pairs) ≡ of_ancestor i pairs
own-part i pairs rises =
    let low = earlier i pairs in
    let own = of_ancestor i pairs in
    let high = later (λ (p : Pair). p.a) i pairs in
    let start : count_by (λ p. nat_lt p.a i) pairs ≡ length low = sym (length-filter (λ (p : Pair). nat_lt p.a i) pairs) in
    let long : count_by (λ p. nat_le p.a i) pairs - count_by (λ p. nat_lt p.a i) pairs ≡ length own = omega (arith, own-length i pairs rises) in
    ap₂ (λ m n. take m (drop n pairs)) long start
    ∙ ap (λ ps. take (length own) (drop (length low) ps)) (three-parts i pairs (all_of_pairs pairs rises))
    ∙ ap (take (length own)) (drop_at low (own ++ high) (length low) refl)
    ∙ take_at own high (length own) refl

under-own : (axis : Axis) (a d : List Item) (r : Range) (i : ℕ) → All (λ p. p.a ≡ i) (pairs_under axis a d r i)
under-own axis a d r i = All-map (λ p. p.a ≡ i) (λ j. pair i j) (below axis d (label_at a i) r) (λ k e less. refl)

-- In the pairs of a join by ancestor they are those of the definition.
pub own-pairs : (axis : Axis) (a d : List Item) (r : Range) (i : ℕ) → i < length a → of_ancestor i (pairs_by_ancestor axis a d r) ≡ pairs_under axis a d r i
own-pairs axis a d r i within =
    let f = pairs_under axis a d r in
    let g = λ (k : ℕ). of_ancestor i (f k) in
    filter-flat_map (λ p. nat_eq p.a i) f (places (length a))
    ∙ sym (flat_map-filter g (λ k. nat_eq k i) (places (length a))
    (λ k e less other. filter_none (λ p. nat_eq p.a i) (f (get_or (places (length a)) k e)) (λ m q at. ap (λ n. nat_eq n i) (under-own axis a d r (get_or (places (length a)) k e) m q at) ∙ other)))
    ∙ ap (flat_map g) (range_at 0 (length a) i (omega arith) (omega (arith, within)))
    ∙ append-nil (g i)
    ∙ filter_all (λ p. nat_eq p.a i) (f i) (λ m q at. eq-eqb _ i (under-own axis a d r i m q at))

rises-from : (f : ℕ → List Pair) (lo n : ℕ) → ((k : ℕ) → All (λ p. p.a ≡ k) (f k)) → AllPairs (λ p q. p.a ≤ q.a) (flat_map f (range_with_len lo n))
rises-from f lo zero own = AllPairs-nil (λ (p q : Pair). p.a ≤ q.a)
rises-from f lo (suc n) own =
    let rest = flat_map f (range_with_len (lo + 1) n) in
    let behind : All (λ p. lo ≤ p.a) rest =
    All-flat_map (λ p. lo ≤ p.a) f (range_with_len (lo + 1) n) (All-range (λ k. All (λ p. lo ≤ p.a) (f k)) (lo + 1) n (λ k low high m q at. omega (arith, own k m q at, low))) in
    AllPairs-append (λ (p q : Pair). p.a ≤ q.a) (f lo) rest
    (λ i j q less last. omega (arith, own lo i q (omega arith), own lo j q last))
    (rises-from f (lo + 1) n own)
    (λ i q less j s last. omega (arith, own lo i q less, behind j s last))

-- ancestors rise in them
pub by_ancestor-rises : (axis : Axis) (a d : List Item) (r : Range) → IsNonDecreasingBy (λ p. p.a) (pairs_by_ancestor axis a d r)
by_ancestor-rises axis a d r = λ i j q le last. at i j q le last (cases_eq i j)
  where
    at : (i j : ℕ) (q : Pair) → i ≤ j → j < length (pairs_by_ancestor axis a d r) → (i ≡ j) ⊎ (i ≡ j → ⊥)
        → (get_or (pairs_by_ancestor axis a d r) i q).a ≤ (get_or (pairs_by_ancestor axis a d r) j q).a
    at i j q le last (inl e) = subst (λ k. (get_or (pairs_by_ancestor axis a d r) i q).a ≤ (get_or (pairs_by_ancestor axis a d r) k q).a) e (omega arith)
    at i j q le last (inr ne) = rises-from (pairs_under axis a d r) 0 (length a) (under-own axis a d r) i j q (omega arith) last

related_under : (axis : Axis) (a d : List Item) (r : Range) (i : ℕ) → i < length a → All (IsRelatedPair axis a d r) (pairs_under axis a d r i)
related_under axis a d r i within =
    let test = λ (j : ℕ). is_related axis (label_at a i) (label_at d j) in
    let inside = All-filter test (λ j. (r.lo ≤ j) × (j < r.hi)) (places_in r) (All-range (λ j. (r.lo ≤ j) × (j < r.hi)) r.lo (r.hi - r.lo) (λ j low high. (low, omega arith))) in
    All-map (IsRelatedPair axis a d r) (λ j. pair i j) (below axis d (label_at a i) r)
    (λ k e less. record { ancestor = within; from = (inside k e less).0; below = (inside k e less).1; related = filter_passes test (places_in r) k e less })

-- and each of them is related
pub by_ancestor-related : (axis : Axis) (a d : List Item) (r : Range) → All (IsRelatedPair axis a d r) (pairs_by_ancestor axis a d r)
by_ancestor-related axis a d r =
    All-flat_map (IsRelatedPair axis a d r) (pairs_under axis a d r) (places (length a))
    (All-range (λ i. All (IsRelatedPair axis a d r) (pairs_under axis a d r i)) 0 (length a) (λ i low high. related_under axis a d r i (omega (arith, high))))
