-- The pairs of a descendant are those of the stack, and the pairs of a range those of its descendants in turn.
use Rattle.std.proofs.Common.{◌≡◌, ℕ, ◌+◌, ◌-◌, ◌<◌, ◌≤◌, true, false, ◌&&◌, nat_lt, nat_eq, List, [], ◌∷◌, ◌++◌, length, get_or, filter, flat_map, refl, sym, ap, ◌∙◌, subst, arith, append-nil, append_assoc}
use Rattle.std.specs.List.{range_with_len}
use Rattle.std.proofs.lemmas.Bool.{le-leb, ltb-true, lt-ltb, and_parts, and_from, and_right, ne_eqb, eq-eqb, false_from_ne_true}
use Rattle.std.proofs.lemmas.List.{map-append, get_or_append_left, get_or_at, length_push}
use Rattle.std.proofs.lemmas.List.Elements.{filter-append}
use Rattle.std.proofs.lemmas.Grind.{flat_map-append}
use Rattle.tb_span.specs.Span.{Span, IsAbove}
use Rattle.tb_span.specs.Lists.{is_related}
use Rattle.tb_span.specs.Seeds.{label_at, places, range}
use Rattle.tb_span.specs.declared.item.Axis.{Axis}
use Rattle.tb_span.specs.declared.item.Axis.TheVariants.{Child, Descendant}
use Rattle.tb_span.specs.declared.item.Item.{Item}
use Rattle.tb_span.specs.declared.item.Pair.{Pair}
use Rattle.tb_stackjoin.specs.Pairs.{pair, above, paired, related_places, pairs_of, pairs_by_descendant}
use Rattle.tb_stackjoin.specs.Stacks.{IsStack, AreAbove, lasts}
use Rattle.tb_tree.proofs.lists.Filters.{filter_all, filter_none, filter_filter, filter-keep, filter-skip}
use Rattle.tb_tree.proofs.lists.Ranges.{All-range, range_more, range_none}
use Rattle.tb_stackjoin.proofs.PlaceLaws.{places_join, filter_places-yes, filter_places-no}

-- on either axis the ancestor contains the descendant
pub related_inside : (axis : Axis) (u v : Span) → is_related axis u v ≡ true → (u.start < v.start) × (v.end < u.end)
related_inside Descendant u v e =
    let parts = and_parts (nat_lt u.start v.start) (nat_lt v.end u.end) e in
    (ltb-true u.start v.start parts.0, ltb-true v.end u.end parts.1)
related_inside Child u v e =
    let whole = and_parts (nat_lt u.start v.start && nat_lt v.end u.end) (nat_eq (u.level + 1) v.level) e in
    let parts = and_parts (nat_lt u.start v.start) (nat_lt v.end u.end) whole.0 in
    (ltb-true u.start v.start parts.0, ltb-true v.end u.end parts.1)

related_lasts : (axis : Axis) (u v : Span) → v.start < v.end → is_related axis u v ≡ true → v.start ≤ u.end
related_lasts axis u v some e = omega (arith, related_inside axis u v e)

pub unrelated : (axis : Axis) (u v : Span) → v.start ≤ u.start → is_related axis u v ≡ false
unrelated axis u v late = false_from_ne_true (is_related axis u v) (λ e. omega (arith, related_inside axis u v e))

-- what the stack has on the axis is what the whole list has
pub above-stack : (axis : Axis) (a : List Item) (v : Span) (next : ℕ) (stack : List ℕ) → v.start < v.end → next ≤ length a
    → ((k : ℕ) → next ≤ k → k < length a → v.start ≤ (label_at a k).start) → stack ≡ filter (lasts a v.start) (places next)
    → filter (λ i. is_related axis (label_at a i) v) stack ≡ above axis a v
above-stack axis a v next stack some within rest is =
    let f = λ (i : ℕ). is_related axis (label_at a i) v in
    let tail = range_with_len next (length a - next) in
    ap (λ xs. filter f xs) is
    ∙ filter_filter f (lasts a v.start) (places next) (λ k d less e. le-leb v.start _ (related_lasts axis _ v some e))
    ∙ sym (append-nil (filter f (places next)))
    ∙ ap (λ xs. filter f (places next) ++ xs) (sym (filter_none f tail (All-range (λ i. f i ≡ false) next (length a - next) (λ k low high. unrelated axis (label_at a k) v (rest k low (omega arith))))))
    ∙ sym (filter-append f (places next) tail)
    ∙ ap (λ xs. filter f xs) (places_join next (length a) within)

pub is_above-related : (u v : Span) → IsAbove u v → is_related Descendant u v ≡ true
is_above-related u v h = and_from (nat_lt u.start v.start) (nat_lt v.end u.end) (lt-ltb u.start v.start h.starts_before) (lt-ltb v.end u.end h.ends_after)

-- all on the stack are ancestors
pub all_related : (a : List Item) (stack : List ℕ) (v : Span) → AreAbove a stack v → filter (λ i. is_related Descendant (label_at a i) v) stack ≡ stack
all_related a stack v on = filter_all (λ i. is_related Descendant (label_at a i) v) stack (λ k d within. is_above-related _ v (on k d within))

no_parent : (u v : Span) → (u.level + 1 ≡ v.level → ⊥) → is_related Child u v ≡ false
no_parent u v ne = and_right (nat_lt u.start v.start && nat_lt v.end u.end) (nat_eq (u.level + 1) v.level) (ne_eqb (u.level + 1) v.level ne)

parent : (u v : Span) → IsAbove u v → u.level + 1 ≡ v.level → is_related Child u v ≡ true
parent u v h e = and_from (nat_lt u.start v.start && nat_lt v.end u.end) (nat_eq (u.level + 1) v.level) (is_above-related u v h) (eq-eqb (u.level + 1) v.level e)

-- none but the top can be the parent
below_top : (a : List Item) (n : ℕ) (rest : List ℕ) (top : ℕ) (v : Span) → IsStack a n (rest ++ top ∷ []) → AreAbove a (rest ++ top ∷ []) v
    → filter (λ i. is_related Child (label_at a i) v) rest ≡ []
below_top a n rest top v h on = filter_none (λ i. is_related Child (label_at a i) v) rest (λ k d within.
    let long = length_push rest top in
    let at : get_or (rest ++ top ∷ []) k d ≡ get_or rest k d = get_or_append_left rest (top ∷ []) d k within in
    let last : get_or (rest ++ top ∷ []) (length rest) d ≡ top = get_or_at rest top [] d (length rest) refl in
    let up : IsAbove (label_at a (get_or rest k d)) (label_at a top) =
    subst (λ i. IsAbove (label_at a i) (label_at a top)) at
    (subst (λ i. IsAbove (label_at a (get_or (rest ++ top ∷ []) k d)) (label_at a i)) last (h.inside k (length rest) d within (omega arith))) in
    let down : IsAbove (label_at a top) v = subst (λ i. IsAbove (label_at a i) v) last (on (length rest) d (omega arith)) in
    no_parent (label_at a (get_or rest k d)) v (λ e. omega (arith, up.level, down.level)))

parents : (a : List Item) (n : ℕ) (rest : List ℕ) (top : ℕ) (v : Span) → IsStack a n (rest ++ top ∷ []) → AreAbove a (rest ++ top ∷ []) v
    → filter (λ i. is_related Child (label_at a i) v) (rest ++ top ∷ []) ≡ filter (λ i. is_related Child (label_at a i) v) (top ∷ [])
parents a n rest top v h on =
    filter-append (λ i. is_related Child (label_at a i) v) rest (top ∷ [])
    ∙ ap (λ xs. xs ++ filter (λ i. is_related Child (label_at a i) v) (top ∷ [])) (below_top a n rest top v h on)

top_above : (a : List Item) (rest : List ℕ) (top : ℕ) (v : Span) → AreAbove a (rest ++ top ∷ []) v → IsAbove (label_at a top) v
top_above a rest top v on =
    subst (λ i. IsAbove (label_at a i) v) (get_or_at rest top [] top (length rest) refl) (on (length rest) top (omega (arith, length_push rest top)))

pub parent-top : (a : List Item) (n : ℕ) (stack rest : List ℕ) (top : ℕ) (v : Span) → stack ≡ rest ++ top ∷ [] → IsStack a n stack → AreAbove a stack v
    → (label_at a top).level + 1 ≡ v.level → filter (λ i. is_related Child (label_at a i) v) stack ≡ top ∷ []
parent-top a n stack rest top v is h on e =
    let on' = subst (λ xs. AreAbove a xs v) is on in
    ap (λ xs. filter (λ i. is_related Child (label_at a i) v) xs) is
    ∙ parents a n rest top v (subst (λ xs. IsStack a n xs) is h) on'
    ∙ filter-keep (λ i. is_related Child (label_at a i) v) top [] (parent (label_at a top) v (top_above a rest top v on') e)

pub parent-none : (a : List Item) (n : ℕ) (stack rest : List ℕ) (top : ℕ) (v : Span) → stack ≡ rest ++ top ∷ [] → IsStack a n stack → AreAbove a stack v
    → ((label_at a top).level + 1 ≡ v.level → ⊥) → filter (λ i. is_related Child (label_at a i) v) stack ≡ []
parent-none a n stack rest top v is h on ne =
    ap (λ xs. filter (λ i. is_related Child (label_at a i) v) xs) is
    ∙ parents a n rest top v (subst (λ xs. IsStack a n xs) is h) (subst (λ xs. AreAbove a xs v) is on)
    ∙ filter-skip (λ i. is_related Child (label_at a i) v) top [] (no_parent (label_at a top) v ne)

pub pairs-none : (axis : Axis) (a d : List Item) (lo hi : ℕ) → hi ≤ lo → pairs_by_descendant axis a d (range lo hi) ≡ []
pairs-none axis a d lo hi none = ap (λ js. flat_map (pairs_of axis a d) js) (range_none lo hi none)

-- one descendant more
pub pairs-more : (axis : Axis) (a d : List Item) (lo j : ℕ) → lo ≤ j → pairs_by_descendant axis a d (range lo (j + 1)) ≡ pairs_by_descendant axis a d (range lo j) ++ pairs_of axis a d j
pairs-more axis a d lo j low =
    ap (λ js. flat_map (pairs_of axis a d) js) (range_more lo j low)
    ∙ flat_map-append (pairs_of axis a d) (range_with_len lo (j - lo)) (j ∷ [])
    ∙ ap (λ ps. pairs_by_descendant axis a d (range lo j) ++ ps) (append-nil (pairs_of axis a d j))

-- one ancestor more, on the axis or not
pub related-yes : (axis : Axis) (a : List Item) (v : Span) (n : ℕ) → is_related axis (label_at a n) v ≡ true
    → related_places axis a v (places (n + 1)) ≡ related_places axis a v (places n) ++ n ∷ []
related-yes axis a v n e = filter_places-yes (λ i. is_related axis (label_at a i) v) n e

pub related-no : (axis : Axis) (a : List Item) (v : Span) (n : ℕ) → is_related axis (label_at a n) v ≡ false
    → related_places axis a v (places (n + 1)) ≡ related_places axis a v (places n)
related-no axis a v n e = filter_places-no (λ i. is_related axis (label_at a i) v) n e

pub paired-push : (before : List Pair) (is : List ℕ) (i j : ℕ) → (before ++ paired is j) ++ pair i j ∷ [] ≡ before ++ paired (is ++ i ∷ []) j
paired-push before is i j =
    append_assoc before (paired is j) (pair i j ∷ []) ∙ ap (λ ps. before ++ ps) (sym (map-append (λ k. pair k j) is (i ∷ [])))
