-- A join by ancestor from its seed to its end: the pairs of all reaches are the pairs by ancestor.
use Rattle.std.proofs.Common.{◌≡◌, ℕ, ◌+◌, ◌-◌, ◌<◌, ◌≤◌, ◌⊎◌, inl, inr, true, false, nat_lt, nat_eq, List, [], ◌++◌, length, get_or, map, All, filter, flat_map, refl, sym, ap, ◌∙◌, arith, append-nil, append_assoc, map-id}
use Rattle.std.specs.List.{range_with_len}
use Rattle.std.proofs.lemmas.Bool.{cases_lt, lt-ltb, ltb-false, eq-eqb, and_from, false_from_ne_true, false≢true}
use Rattle.std.proofs.lemmas.List.{length-map, get_or-map}
use Rattle.std.proofs.lemmas.Simd.{map-map}
use Rattle.std.proofs.lemmas.List.Concat.{flat_map-append}
use Rattle.std.proofs.lemmas.List.Elements.{All-nil, All-map, All-append}
use Rattle.std.proofs.lemmas.List.FromFn.{length-range_with_len}
use Rattle.std.proofs.lemmas.List.Folds.{flat_map-map}
use Rattle.std.proofs.lemmas.List.Sums.{length-filter, count_by-le-length}
use Rattle.tb_span.specs.Lists.{AreJoinable, is_related}
use Rattle.tb_span.specs.Seeds.{label_at, places, Range, range, places_in, is_open_at, IsSeed}
use Rattle.tb_span.specs.declared.item.Axis.TheVariants.{Descendant}
use Rattle.tb_span.specs.declared.item.Item.{Item}
use Rattle.tb_span.specs.declared.item.Pair.{Pair}
use Rattle.tb_tree.proofs.lists.Filters.{filter_all, filter_none}
use Rattle.tb_tree.proofs.lists.Maps.{flat_map_same, flat_map_none, flat_map-filter}
use Rattle.tb_tree.proofs.lists.Ranges.{All-range, range_none, range_split, map-range}
use Rattle.tb_stackjoin.specs.Pairs.{pair, below, pairs_under, pairs_by_ancestor}
use Rattle.tb_stackjoin.specs.Reaches.{no_reach, reach_at, pairs_in, opened, ancestors, ancestors_of, is_open_reach, IsReach, HasReaches}
use Rattle.tb_stackjoin.specs.declared.reach.Reach.{Reach}
use Rattle.tb_stackjoin.proofs.PlaceLaws.{places_join}
use Rattle.tb_stackjoin.proofs.RunLaws.{start_rises}
use Rattle.tb_stackjoin.proofs.ThinLaws.{thin-same, thin-pairs}
use Rattle.tb_stackjoin.proofs.ReachLaws.{below-none, ended_unrelated}

pub seed-ancestors_of : (r : Range) (seed : List ℕ) → ancestors_of (map (λ i. opened r i r.lo) seed) (range_with_len 0 (length seed)) ≡ seed
seed-ancestors_of r seed =
    map-range 0 (λ k. (reach_at (map (λ i. opened r i r.lo) seed) k).a) 0 seed (λ k less.
    let same : 0 + k ≡ k = omega arith in
    ap (λ m. (reach_at (map (λ i. opened r i r.lo) seed) m).a) same ∙ ap (λ (x : Reach). x.a) (get_or-map (λ i. opened r i r.lo) seed k 0 no_reach less))

-- a seed has no more places than there are before `from`
pub seed_few : (a d : List Item) (seed : List ℕ) (from : ℕ) (r : Range) → r.lo ≤ r.hi → IsSeed a d seed from r → length seed ≤ from
seed_few a d seed from r le seeded = at (cases_lt r.lo r.hi)
  where
    at : (r.lo < r.hi) ⊎ (r.hi ≤ r.lo) → length seed ≤ from
    at (inl some) =
        let test = λ (i : ℕ). is_open_at (label_at d r.lo).start (label_at a i) in
        omega (arith, ap length (seeded.holds some), length-filter test (places from), count_by-le-length test (places from), length-range_with_len 0 from)
    at (inr none) = omega (arith, ap length (seeded.none (omega arith)))

-- what started before the range and isn't open at its start has nothing in it
not_open : (a d : List Item) (r : Range) (i : ℕ) → AreJoinable a d → r.lo < r.hi → r.hi ≤ length d → ((j : ℕ) → r.lo ≤ j → j < r.hi → (label_at d j).start < (label_at d j).end)
    → (label_at a i).start < (label_at d r.lo).start → is_open_at (label_at d r.lo).start (label_at a i) ≡ false → pairs_under Descendant a d r i ≡ []
not_open a d r i ok some within behind started closed =
    let u = label_at a i in
    let point = (label_at d r.lo).start in
    let past : u.end ≤ point = ltb-false point u.end (false_from_ne_true (nat_lt point u.end) (λ t. false≢true (sym closed ∙ and_from (nat_lt u.start point) (nat_lt point u.end) (lt-ltb u.start point started) t))) in
    ap (λ js. map (λ j. pair i j) js)
    (filter_none (λ j. is_related Descendant u (label_at d j)) (places_in r)
    (All-range (λ j. is_related Descendant u (label_at d j) ≡ false) r.lo (r.hi - r.lo)
    (λ j low high. ended_unrelated u (label_at d j) (behind j low (omega arith)) (omega (arith, past, start_rises d r.lo j ok.descendants_sorted low (omega arith))))))

seed_pairs : (a d : List Item) (seed : List ℕ) (from : ℕ) (r : Range) → AreJoinable a d → r.lo ≤ r.hi → r.hi ≤ length d → IsSeed a d seed from r
    → ((j : ℕ) → r.lo ≤ j → j < r.hi → (label_at d j).start < (label_at d j).end)
    → flat_map (pairs_under Descendant a d r) seed ≡ flat_map (pairs_under Descendant a d r) (places from)
seed_pairs a d seed from r ok le within seeded behind = at (cases_lt r.lo r.hi)
  where
    at : (r.lo < r.hi) ⊎ (r.hi ≤ r.lo) → flat_map (pairs_under Descendant a d r) seed ≡ flat_map (pairs_under Descendant a d r) (places from)
    at (inl some) =
        let test = λ (i : ℕ). is_open_at (label_at d r.lo).start (label_at a i) in
        ap (λ is. flat_map (pairs_under Descendant a d r) is) (seeded.holds some)
        ∙ flat_map-filter (pairs_under Descendant a d r) test (places from)
        (All-range (λ i. test i ≡ false → pairs_under Descendant a d r i ≡ []) 0 from
        (λ i low high closed. not_open a d r i ok some within behind (seeded.started some i (omega arith)) closed))
    at (inr none) =
        ap (λ is. flat_map (pairs_under Descendant a d r) is) (seeded.none (omega arith))
        ∙ sym (flat_map_none (pairs_under Descendant a d r) (places from)
        (λ k e less. ap (λ js. map (λ j. pair (get_or (places from) k e) j) js) (below-none d (label_at a (get_or (places from) k e)) r.lo r.hi none)))

-- the pairs of a reach are those of its ancestor
reach_pairs : (a d : List Item) (r : Range) (x : Reach) → IsReach a d r r.hi x → pairs_in x ≡ pairs_under Descendant a d r x.a
reach_pairs a d r x (inl h) = ap (λ n. map (λ j. pair x.a j) (places_in (range x.first n))) h.lasts ∙ ap (λ js. map (λ j. pair x.a j) js) (sym h.has)
reach_pairs a d r x (inr h) = ap (λ js. map (λ j. pair x.a j) js) (sym h.has)

-- All reaches together have the pairs of all ancestors: those before `from` that aren't in the seed have none, and
-- those that weren't opened have none.
all_pairs : (a d : List Item) (seed : List ℕ) (from next : ℕ) (r : Range) (reaches : List Reach) → AreJoinable a d → r.lo ≤ r.hi → r.hi ≤ length d → from ≤ next → next ≤ length a
    → IsSeed a d seed from r → ((j : ℕ) → r.lo ≤ j → j < r.hi → (label_at d j).start < (label_at d j).end)
    → ancestors reaches ≡ seed ++ range_with_len from (next - from) → ((k : ℕ) → next ≤ k → k < length a → below Descendant d (label_at a k) r ≡ [])
    → All (IsReach a d r r.hi) reaches → flat_map pairs_in reaches ≡ pairs_by_ancestor Descendant a d r
all_pairs a d seed from next r reaches ok le within low high seeded behind made rest each =
    let f = pairs_under Descendant a d r in
    flat_map_same pairs_in (λ (x : Reach). f x.a) reaches (λ k e less. reach_pairs a d r (get_or reaches k e) (each k e less))
    ∙ sym (flat_map-map f (λ (x : Reach). x.a) reaches)
    ∙ ap (λ is. flat_map f is) made
    ∙ flat_map-append f seed (range_with_len from (next - from))
    ∙ ap (λ ps. ps ++ flat_map f (range_with_len from (next - from))) (seed_pairs a d seed from r ok le within seeded behind)
    ∙ sym (flat_map-append f (places from) (range_with_len from (next - from)))
    ∙ ap (λ is. flat_map f is) (places_join from next low)
    ∙ sym (append-nil (flat_map f (places next)))
    ∙ ap (λ ps. flat_map f (places next) ++ ps)
    (sym (flat_map_none f (range_with_len next (length a - next))
    (All-range (λ k. f k ≡ []) next (length a - next) (λ k first last. ap (λ js. map (λ j. pair k j) js) (rest k first (omega arith))))))
    ∙ sym (flat_map-append f (places next) (range_with_len next (length a - next)))
    ∙ ap (λ is. flat_map f is) (places_join next (length a) high)

pub seed-ancestors : (r : Range) (seed : List ℕ) (from : ℕ) → ancestors (map (λ i. opened r i r.lo) seed) ≡ seed ++ range_with_len from (from - from)
seed-ancestors r seed from =
    map-map (λ (x : Reach). x.a) (λ i. opened r i r.lo) seed ∙ map-id seed
    ∙ sym (append-nil seed) ∙ ap (λ is. seed ++ is) (sym (range_none from from (omega arith)))

-- The reaches of a seed, before the first descendant.
pub seed-reaches : (a d : List Item) (r : Range) (seed : List ℕ) (from : ℕ) (pairs : List Pair) → pairs ≡ []
    → HasReaches a d r r.lo (seed ++ range_with_len from (from - from)) pairs (map (λ i. opened r i r.lo) seed) (range_with_len 0 (length seed))
seed-reaches a d r seed from pairs none =
    let reaches = map (λ i. opened r i r.lo) seed in
    record {
      all = reaches;
      gone = [];
      made = seed-ancestors r seed from;
      each = All-map (IsReach a d r r.lo) (λ i. opened r i r.lo) seed
          (λ k e less. inl (record { lasts = refl; begins = omega arith; has = below-none d (label_at a (get_or seed k e)) r.lo r.lo (omega arith) ∙ sym (range_none r.lo r.lo (omega arith)) }));
      thin = thin-same reaches;
      over = All-nil (λ x. x.last < r.hi);
      written = none;
      stacked = sym (ap (λ n. filter (is_open_reach r reaches) (places n)) (length-map seed (λ i. opened r i r.lo))
          ∙ filter_all (is_open_reach r reaches) (places (length seed))
          (All-range (λ k. is_open_reach r reaches k ≡ true) 0 (length seed)
          (λ k low high. ap (λ (x : Reach). nat_eq x.last r.hi) (get_or-map (λ i. opened r i r.lo) seed k 0 no_reach (omega arith)) ∙ eq-eqb r.hi r.hi refl)));
    }

-- What was written, and what is left to write, are the pairs by ancestor.
pub written-all : (a d : List Item) (seed : List ℕ) (from next : ℕ) (r : Range) (pairs new : List Pair) (reaches : List Reach) (stack : List ℕ) → AreJoinable a d → r.lo ≤ r.hi → r.hi ≤ length d → from ≤ next
    → next ≤ length a → IsSeed a d seed from r → ((j : ℕ) → r.lo ≤ j → j < r.hi → (label_at d j).start < (label_at d j).end) → ((k : ℕ) → next ≤ k → k < length a → below Descendant d (label_at a k) r ≡ [])
    → HasReaches a d r r.hi (seed ++ range_with_len from (next - from)) pairs reaches stack → new ≡ pairs ++ flat_map pairs_in reaches → new ≡ pairs_by_ancestor Descendant a d r
written-all a d seed from next r pairs new reaches stack ok le within low high seeded behind rest h added =
    added ∙ ap (λ ps. ps ++ flat_map pairs_in reaches) h.written
    ∙ sym (flat_map-append pairs_in h.gone reaches)
    ∙ thin-pairs (h.gone ++ reaches) h.all h.thin
    ∙ all_pairs a d seed from next r h.all ok le within low high seeded behind h.made rest h.each

-- more ancestors
pub made-more : (seed : List ℕ) (from next after : ℕ) → from ≤ next → next ≤ after
    → (seed ++ range_with_len from (next - from)) ++ range_with_len next (after - next) ≡ seed ++ range_with_len from (after - from)
made-more seed from next after low high =
    append_assoc seed (range_with_len from (next - from)) (range_with_len next (after - next))
    ∙ ap (λ is. seed ++ is) (range_split from next after low high)

-- they stand before the next one
pub made-before : (seed : List ℕ) (from next : ℕ) → from ≤ next → All (λ i. i < from) seed → All (λ i. i < next) (seed ++ range_with_len from (next - from))
made-before seed from next low first =
    All-append (λ i. i < next) seed (range_with_len from (next - from)) (λ k e less. omega (arith, first k e less))
    (All-range (λ i. i < next) from (next - from) (λ i start end. omega arith))
