-- Reaches: what a place more, an ancestor that ends and an ancestor that starts do to them.
use Rattle.std.proofs.Common.{◌≡◌, ℕ, suc, ◌+◌, ◌-◌, ◌<◌, ◌≤◌, ◌⊎◌, inl, inr, Bool, true, false, ◌&&◌, cond, nat_eq, List, [], ◌∷◌, ◌++◌, Some, set, take, length, get_or, flat_map, All, AllPairs, filter, refl, sym, ap, ◌∙◌, subst, arith, append_assoc, append-nil, length-append}
use Rattle.std.specs.List.{range_with_len}
use Rattle.std.proofs.lemmas.Bool.{cases_eq, eqb-true, eq-eqb, ne_eqb, leb-true, false_from_ne_true, false≢true, and_parts}
use Rattle.std.proofs.lemmas.List.{length-set, length_push, get_or-set_same, get_or-set_other, get_or_append_left, get_or-append-add, get_or_at, map_push, set_split, set-append_right, drop_all}
use Rattle.std.proofs.lemmas.List.Concat.{flat_map-append}
use Rattle.std.proofs.lemmas.List.Elements.{All-nil, All-append, All-push, All-pop, All-from_get_or, filter_passes}
use Rattle.std.proofs.lemmas.List.Kept.{AllPairs-filter}
use Rattle.tb_span.specs.Span.{Span, IsAbove}
use Rattle.tb_span.specs.Lists.{AreJoinable, IsSortedByStart, is_related}
use Rattle.tb_span.specs.Seeds.{no_item, label_at, places, Range, range}
use Rattle.tb_span.specs.declared.item.Axis.TheVariants.{Descendant}
use Rattle.tb_span.specs.declared.item.Item.{Item}
use Rattle.tb_span.specs.declared.item.Pair.{Pair}
use Rattle.tb_tree.proofs.lists.Filters.{filter_all, filter_filter, filter_same, filter_push-yes, filter_push-no, All-unfilter}
use Rattle.tb_tree.proofs.lists.Maps.{All-unmap}
use Rattle.tb_tree.proofs.lists.Ranges.{All-range, All-of_range, range_more, range_none, range_rises}
use Rattle.tb_tree.proofs.lists.Pairs.{AllPairs-last}
use Rattle.tb_stackjoin.specs.Pairs.{below}
use Rattle.tb_stackjoin.specs.Reaches.{no_reach, reach_at, pairs_in, opened, ended, reaches_ended, ancestors_of, is_open_reach, open_reaches, Thins, IsReach, HasReaches}
use Rattle.tb_stackjoin.specs.Stacks.{lasts}
use Rattle.tb_stackjoin.specs.declared.reach.Reach.{Reach}
use Rattle.tb_stackjoin.proofs.PlaceLaws.{places-more}
use Rattle.tb_stackjoin.proofs.RunLaws.{start_rises}
use Rattle.tb_stackjoin.proofs.StackLaws.{nest_above}
use Rattle.tb_stackjoin.proofs.PairLaws.{related_inside, unrelated, is_above-related}
use Rattle.tb_stackjoin.proofs.ThinLaws.{thin-all, thin-back, thin-push, thin-last, thin-set}

-- what an ancestor has below it, up to a place more
below-yes : (d : List Item) (u : Span) (lo place : ℕ) → lo ≤ place → is_related Descendant u (label_at d place) ≡ true
    → below Descendant d u (range lo (place + 1)) ≡ below Descendant d u (range lo place) ++ place ∷ []
below-yes d u lo place low e =
    let f = λ (j : ℕ). is_related Descendant u (label_at d j) in
    ap (λ js. filter f js) (range_more lo place low) ∙ filter_push-yes f (range_with_len lo (place - lo)) place e

pub below-no : (d : List Item) (u : Span) (lo place : ℕ) → lo ≤ place → is_related Descendant u (label_at d place) ≡ false
    → below Descendant d u (range lo (place + 1)) ≡ below Descendant d u (range lo place)
below-no d u lo place low e =
    let f = λ (j : ℕ). is_related Descendant u (label_at d j) in
    ap (λ js. filter f js) (range_more lo place low) ∙ filter_push-no f (range_with_len lo (place - lo)) place e

pub below-none : (d : List Item) (u : Span) (lo hi : ℕ) → hi ≤ lo → below Descendant d u (range lo hi) ≡ []
below-none d u lo hi none = ap (λ js. filter (λ j. is_related Descendant u (label_at d j)) js) (range_none lo hi none)

-- what starts later has nothing
pub below-later : (d : List Item) (u : Span) (lo place : ℕ) → lo ≤ place → (label_at d place).start ≤ u.start
    → below Descendant d u (range lo place) ≡ [] → below Descendant d u (range lo (place + 1)) ≡ []
below-later d u lo place low late none = below-no d u lo place low (unrelated Descendant u (label_at d place) late) ∙ none

-- what has ended has no more
pub ended_unrelated : (u v : Span) → v.start < v.end → u.end ≤ v.start → is_related Descendant u v ≡ false
ended_unrelated u v some past = false_from_ne_true (is_related Descendant u v) (λ e. omega (arith, related_inside Descendant u v e))

-- a reach, a place more
reach-grown : (a d : List Item) (r : Range) (place : ℕ) (x : Reach) → IsSortedByStart d → r.lo ≤ place → place < length d → (label_at d place).start < (label_at d place).end
    → (x.last ≡ r.hi → IsAbove (label_at a x.a) (label_at d place)) → IsReach a d r place x → IsReach a d r (place + 1) x
reach-grown a d r place x sorted low within some up (inl h) = inl (record {
  lasts = h.lasts;
  begins = omega (arith, h.begins);
  has = below-yes d (label_at a x.a) r.lo place low (is_above-related (label_at a x.a) (label_at d place) (up h.lasts))
      ∙ ap (λ js. js ++ place ∷ []) h.has ∙ sym (range_more x.first place h.begins);
})
reach-grown a d r place x sorted low within some up (inr h) = inr (record {
  within = omega (arith, h.within);
  short = h.short;
  past = h.past;
  has = below-no d (label_at a x.a) r.lo place low
      (ended_unrelated (label_at a x.a) (label_at d place) some (omega (arith, h.past, start_rises d x.last place sorted h.within within))) ∙ h.has;
})

-- What holds of the open reaches that wait holds of all open ones: those that were written, and those that have no
-- place, have ended.
going-all : (a d : List Item) (r : Range) (place : ℕ) (P : ℕ → Type 0) (passed : List ℕ) (pairs : List Pair) (reaches : List Reach) (stack : List ℕ) → place < r.hi
    → All (λ k. P (reach_at reaches k).a) stack → (h : HasReaches a d r place passed pairs reaches stack) → All (λ x. x.last ≡ r.hi → P x.a) h.all
going-all a d r place P passed pairs reaches stack short holds h =
    let kept = All-unfilter (is_open_reach r reaches) (λ m. P (reach_at reaches m).a) (places (length reaches)) (subst (λ ks. All (λ m. P (reach_at reaches m).a) ks) h.stacked holds) in
    thin-back (λ x. x.last ≡ r.hi → P x.a) (h.gone ++ reaches) h.all h.thin
    (All-append (λ x. x.last ≡ r.hi → P x.a) h.gone reaches
    (λ k e less is. absurd (omega (arith, h.over k e less, is)))
    (All-from_get_or (λ x. x.last ≡ r.hi → P x.a) reaches no_reach
    (λ k less is. All-of_range (λ m. is_open_reach r reaches m ≡ true → P (reach_at reaches m).a) 0 (length reaches) kept k (omega arith) (omega (arith, less)) (eq-eqb (reach_at reaches k).last r.hi is))))
    (λ k e less none is. absurd (no_place (get_or h.all k e) none is (h.each k e less)))
  where
    no_place : (x : Reach) → x.last ≤ x.first → x.last ≡ r.hi → IsReach a d r place x → ⊥
    no_place x none is (inl o) = omega (arith, o.begins, none, is, short)
    no_place x none is (inr o) = omega (arith, o.short, is)

-- All reaches, a place more: the ancestors of the open ones are on the stack, and last till the descendant starts.
pub reaches-grown : (a d : List Item) (r : Range) (place next : ℕ) (passed : List ℕ) (pairs : List Pair) (reaches : List Reach) (stack : List ℕ) → AreJoinable a d → r.lo ≤ place → place < r.hi → place < length d
    → next ≤ length a → (label_at d place).start < (label_at d place).end → All (λ i. i < next) passed → ((k : ℕ) → k < next → (label_at a k).start < (label_at d place).start)
    → All (λ i. lasts a (label_at d place).start i ≡ true) (ancestors_of reaches stack) → HasReaches a d r place passed pairs reaches stack → HasReaches a d r (place + 1) passed pairs reaches stack
reaches-grown a d r place next passed pairs reaches stack ok low short within many some early started lasting h = record {
  all = h.all;
  gone = h.gone;
  made = h.made;
  each = All-from_get_or (IsReach a d r (place + 1)) h.all no_reach (λ k less.
      let x = reach_at h.all k in
      let mine : x.a < next = All-unmap (λ i. i < next) (λ (y : Reach). y.a) h.all (subst (λ is. All (λ i. i < next) is) (sym h.made) early) k no_reach less in
      let last = going-all a d r place (λ i. lasts a (label_at d place).start i ≡ true) passed pairs reaches stack short
      (All-unmap (λ i. lasts a (label_at d place).start i ≡ true) (λ m. (reach_at reaches m).a) stack lasting) h in
      reach-grown a d r place x ok.descendants_sorted low within some
      (λ e. nest_above (label_at a x.a) (label_at d place) (ok.both_nest x.a no_item (omega arith) place no_item within) (started x.a mine)
      (leb-true (label_at d place).start (label_at a x.a).end (last k no_reach less e)) some)
      (h.each k no_reach less));
  thin = h.thin;
  over = h.over;
  written = h.written;
  stacked = h.stacked;
}

-- whether a reach is open, when another one has ended
still : (r : Range) (reaches : List Reach) (top place k : ℕ) → (k ≡ top → ⊥) → is_open_reach r (set reaches top (ended place (reach_at reaches top))) k ≡ is_open_reach r reaches k
still r reaches top place k ne = ap (λ (x : Reach). nat_eq x.last r.hi) (get_or-set_other reaches top k (ended place (reach_at reaches top)) no_reach ne)

closed : (r : Range) (reaches : List Reach) (top place : ℕ) → top < length reaches → place < r.hi → is_open_reach r (set reaches top (ended place (reach_at reaches top))) top ≡ false
closed r reaches top place less short =
    ap (λ (x : Reach). nat_eq x.last r.hi) (get_or-set_same reaches top (ended place (reach_at reaches top)) no_reach less) ∙ ne_eqb place r.hi (λ e. omega (arith, e, short))

still-open : (r : Range) (reaches : List Reach) (top place k : ℕ) → top < length reaches → place < r.hi
    → is_open_reach r (set reaches top (ended place (reach_at reaches top))) k ≡ true → is_open_reach r reaches k ≡ true
still-open r reaches top place k less short is = at (cases_eq k top)
  where
    at : (k ≡ top) ⊎ (k ≡ top → ⊥) → is_open_reach r reaches k ≡ true
    at (inl e) = absurd (false≢true (sym (closed r reaches top place less short) ∙ ap (is_open_reach r (set reaches top (ended place (reach_at reaches top)))) (sym e) ∙ is))
    at (inr ne) = sym (still r reaches top place k ne) ∙ is

-- the numbers below the top are the open ones when the top has ended
below_top-open : (r : Range) (reaches : List Reach) (top place : ℕ) (rest : List ℕ) → top < length reaches → place < r.hi → rest ++ top ∷ [] ≡ open_reaches r reaches
    → rest ≡ open_reaches r (set reaches top (ended place (reach_at reaches top)))
below_top-open r reaches top place rest less short is =
    let new = set reaches top (ended place (reach_at reaches top)) in
    let f = is_open_reach r new in
    let g = is_open_reach r reaches in
    let rises = subst (λ ks. AllPairs (λ i k. i < k) ks) (sym is) (AllPairs-filter (λ i k. i < k) g (places (length reaches)) (range_rises 0 (length reaches))) in
    let before = AllPairs-last (λ i k. i < k) rest top rises in
    let passes = All-pop (λ k. g k ≡ true) (rest ++ top ∷ []) rest (Some top) refl (subst (λ ks. All (λ k. g k ≡ true) ks) (sym is) (filter_passes g (places (length reaches)))) in
    sym (filter_all f rest (λ k e in_rest. still r reaches top place _ (λ same. omega (arith, same, before k e in_rest)) ∙ passes.0 k e in_rest))
    ∙ sym (filter_push-no f rest top (closed r reaches top place less short))
    ∙ ap (λ ks. filter f ks) is
    ∙ filter_filter f g (places (length reaches)) (λ k e within. still-open r reaches top place _ less short)
    ∙ ap (λ n. filter f (places n)) (sym (length-set reaches top (ended place (reach_at reaches top))))

reach-ended : (a d : List Item) (r : Range) (place : ℕ) (x : Reach) → place < r.hi → x.last ≡ r.hi → (label_at a x.a).end < (label_at d place).start
    → IsReach a d r place x → IsReach a d r place (ended place x)
reach-ended a d r place x short lasts past (inl h) = inr (record { within = omega arith; short = short; past = past; has = h.has })
reach-ended a d r place x short lasts past (inr h) = absurd (omega (arith, h.short, lasts))

-- The top has ended before the descendant at the place.
reaches-set : (a d : List Item) (r : Range) (place point top : ℕ) (passed : List ℕ) (pairs : List Pair) (reaches : List Reach) (stack rest : List ℕ) → place < r.hi → point ≤ (label_at d place).start
    → top < length reaches → stack ≡ rest ++ top ∷ [] → (label_at a (reach_at reaches top).a).end < point → HasReaches a d r place passed pairs reaches stack
    → HasReaches a d r place passed pairs (set reaches top (ended place (reach_at reaches top))) rest
reaches-set a d r place point top passed pairs reaches stack rest short early less parts past h =
    let x = reach_at reaches top in
    let y = ended place x in
    let at = length h.gone + top in
    let is : rest ++ top ∷ [] ≡ open_reaches r reaches = sym parts ∙ h.stacked in
    let passes = All-pop (λ k. is_open_reach r reaches k ≡ true) (rest ++ top ∷ []) rest (Some top) refl
    (subst (λ ks. All (λ k. is_open_reach r reaches k ≡ true) ks) (sym is) (filter_passes (is_open_reach r reaches) (places (length reaches)))) in
    let here : get_or (h.gone ++ reaches) at no_reach ≡ x = get_or-append-add h.gone reaches top no_reach in
    let mine : IsReach a d r place x =
    subst (IsReach a d r place) here (thin-all (IsReach a d r place) (h.gone ++ reaches) h.all h.thin h.each at no_reach (omega (arith, length-append h.gone reaches, less))) in
    let changed = thin-set (IsReach a d r place) (h.gone ++ reaches) h.all at y h.thin (omega (arith, length-append h.gone reaches, less)) (ap (λ (z : Reach). z.a) (sym here))
    (reach-ended a d r place x short (eqb-true x.last r.hi passes.1) (omega (arith, past, early)) mine) h.each in
    let back : at - length h.gone ≡ top = omega arith in
    record {
      all = changed.all;
      gone = h.gone;
      made = changed.same ∙ h.made;
      each = changed.each;
      thin = subst (λ rs. Thins rs changed.all) (set-append_right h.gone reaches (length h.gone) at y refl (omega arith) ∙ ap (λ m. h.gone ++ set reaches m y) back) changed.thin;
      over = h.over;
      written = h.written;
      stacked = below_top-open r reaches top place rest less short is;
    }

-- the newest has no place, and goes
reaches-dropped : (a d : List Item) (r : Range) (place : ℕ) (passed : List ℕ) (pairs : List Pair) (front : List Reach) (y : Reach) (stack : List ℕ) → y.last ≤ y.first → y.last < r.hi
    → HasReaches a d r place passed pairs (front ++ y ∷ []) stack → HasReaches a d r place passed pairs front stack
reaches-dropped a d r place passed pairs front y stack none short h =
    let n = length front in
    let f = is_open_reach r (front ++ y ∷ []) in
    record {
      all = h.all;
      gone = h.gone;
      made = h.made;
      each = h.each;
      thin = thin-last (h.gone ++ front) h.all y none (subst (λ rs. Thins rs h.all) (sym (append_assoc h.gone front (y ∷ []))) h.thin);
      over = h.over;
      written = h.written;
      stacked = h.stacked
          ∙ ap (λ m. filter f (places m)) (length_push front y)
          ∙ ap (λ ks. filter f ks) (places-more n)
          ∙ filter_push-no f (places n) n (ap (λ (x : Reach). nat_eq x.last r.hi) (get_or_at front y [] no_reach n refl) ∙ ne_eqb y.last r.hi (λ e. omega (arith, e, short)))
          ∙ filter_same f (is_open_reach r front) (places n)
          (All-range (λ k. f k ≡ is_open_reach r front k) 0 n (λ k low high. ap (λ (x : Reach). nat_eq x.last r.hi) (get_or_append_left front (y ∷ []) no_reach k (omega arith))));
    }

-- the newest of the reaches stands behind all others
newest : (reaches : List Reach) (top : ℕ) (y : Reach) → top + 1 ≡ length reaches → set reaches top y ≡ take top reaches ++ y ∷ []
newest reaches top y is =
    set_split reaches top y (omega (arith, is)) ∙ ap (λ rs. take top reaches ++ y ∷ rs) (drop_all (suc top) reaches (omega (arith, is)))

pub reaches-ended : (a d : List Item) (r : Range) (place point top : ℕ) (passed : List ℕ) (pairs : List Pair) (reaches : List Reach) (stack rest : List ℕ) → place < r.hi → point ≤ (label_at d place).start
    → top < length reaches → stack ≡ rest ++ top ∷ [] → (label_at a (reach_at reaches top).a).end < point → HasReaches a d r place passed pairs reaches stack
    → HasReaches a d r place passed pairs (reaches_ended place top reaches) rest
reaches-ended a d r place point top passed pairs reaches stack rest short early less parts past h =
    at (nat_eq (reach_at reaches top).first place && nat_eq (top + 1) (length reaches)) refl
  where
    y : Reach
    y = ended place (reach_at reaches top)

    now : HasReaches a d r place passed pairs (set reaches top (ended place (reach_at reaches top))) rest
    now = reaches-set a d r place point top passed pairs reaches stack rest short early less parts past h

    at : (b : Bool) → (nat_eq (reach_at reaches top).first place && nat_eq (top + 1) (length reaches)) ≡ b
        → HasReaches a d r place passed pairs (cond b (take top reaches) (set reaches top (ended place (reach_at reaches top)))) rest
    at true e =
        let both = and_parts (nat_eq (reach_at reaches top).first place) (nat_eq (top + 1) (length reaches)) e in
        reaches-dropped a d r place passed pairs (take top reaches) (ended place (reach_at reaches top)) rest (omega (arith, eqb-true (reach_at reaches top).first place both.0)) short
        (subst (λ rs. HasReaches a d r place passed pairs rs rest) (newest reaches top (ended place (reach_at reaches top)) (eqb-true (top + 1) (length reaches) both.1)) now)
    at false e = now

-- An ancestor starts that has nothing before the place.
pub reaches-opened : (a d : List Item) (r : Range) (place i : ℕ) (passed : List ℕ) (pairs : List Pair) (reaches : List Reach) (stack : List ℕ) → below Descendant d (label_at a i) (range r.lo place) ≡ []
    → HasReaches a d r place passed pairs reaches stack → HasReaches a d r place (passed ++ i ∷ []) pairs (reaches ++ opened r i place ∷ []) (stack ++ length reaches ∷ [])
reaches-opened a d r place i passed pairs reaches stack none h =
    let x = opened r i place in
    let f = is_open_reach r (reaches ++ x ∷ []) in
    let n = length reaches in
    record {
      all = h.all ++ x ∷ [];
      gone = h.gone;
      made = map_push (λ (y : Reach). y.a) h.all x ∙ ap (λ is. is ++ i ∷ []) h.made;
      each = All-push (IsReach a d r place) h.all x h.each (inl (record { lasts = refl; begins = omega arith; has = none ∙ sym (range_none place place (omega arith)) }));
      thin = subst (λ rs. Thins rs (h.all ++ x ∷ [])) (append_assoc h.gone reaches (x ∷ [])) (thin-push (h.gone ++ reaches) h.all x h.thin);
      over = h.over;
      written = h.written;
      stacked = ap (λ ks. ks ++ n ∷ []) (h.stacked
          ∙ filter_same (is_open_reach r reaches) f (places n)
          (All-range (λ k. is_open_reach r reaches k ≡ f k) 0 n (λ k low high. ap (λ (y : Reach). nat_eq y.last r.hi) (sym (get_or_append_left reaches (x ∷ []) no_reach k (omega arith))))))
          ∙ sym (filter_push-yes f (places n) n (ap (λ (y : Reach). nat_eq y.last r.hi) (get_or_at reaches x [] no_reach n refl) ∙ eq-eqb r.hi r.hi refl))
          ∙ ap (λ ks. filter f ks) (sym (places-more n))
          ∙ ap (λ m. filter f (places m)) (sym (length_push reaches x));
    }

-- None is open any more, and all are written.
pub reaches-written : (a d : List Item) (r : Range) (place : ℕ) (passed : List ℕ) (pairs more : List Pair) (reaches new : List Reach) (stack : List ℕ) → stack ≡ [] → new ≡ [] → more ≡ pairs ++ flat_map pairs_in reaches
    → HasReaches a d r place passed pairs reaches stack → HasReaches a d r place passed more new stack
reaches-written a d r place passed pairs more reaches new stack none clear added h =
    let closed_all = All-unfilter (is_open_reach r reaches) (λ k. ⊥) (places (length reaches)) (subst (λ ks. All (λ k. ⊥) ks) (sym none ∙ h.stacked) (All-nil (λ k. ⊥))) in
    record {
      all = h.all;
      gone = h.gone ++ reaches;
      made = h.made;
      each = h.each;
      thin = subst (λ rs. Thins ((h.gone ++ reaches) ++ rs) h.all) (sym clear) (subst (λ rs. Thins rs h.all) (sym (append-nil (h.gone ++ reaches))) h.thin);
      over = All-append (λ x. x.last < r.hi) h.gone reaches h.over
          (All-from_get_or (λ x. x.last < r.hi) reaches no_reach (λ k less.
          over-one (reach_at reaches k)
          (λ e. All-of_range (λ m. is_open_reach r reaches m ≡ true → ⊥) 0 (length reaches) closed_all k (omega arith) (omega (arith, less)) (eq-eqb (reach_at reaches k).last r.hi e))
          (subst (IsReach a d r place) (get_or-append-add h.gone reaches k no_reach)
          (thin-all (IsReach a d r place) (h.gone ++ reaches) h.all h.thin h.each (length h.gone + k) no_reach (omega (arith, length-append h.gone reaches, less))))));
      written = added ∙ ap (λ ps. ps ++ flat_map pairs_in reaches) h.written ∙ sym (flat_map-append pairs_in h.gone reaches);
      stacked = none ∙ ap (open_reaches r) (sym clear);
    }
  where
    over-one : (x : Reach) → (x.last ≡ r.hi → ⊥) → IsReach a d r place x → x.last < r.hi
    over-one x ne (inl o) = absurd (ne o.lasts)
    over-one x ne (inr o) = o.short
