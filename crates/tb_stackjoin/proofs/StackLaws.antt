-- What lies on a stack, and what stays when it is cut, filtered or pushed.
use Rattle.std.proofs.Common.{◌≡◌, ℕ, ◌+◌, ◌-◌, ◌<◌, ◌≤◌, ◌⊎◌, inl, inr, Bool, true, nat_lt, List, [], ◌∷◌, ◌++◌, length, get_or, slice_get, Option, Some, option_to_list, All, filter, sym, ap, ◌∙◌, subst, arith}
use Rattle.std.proofs.lemmas.Bool.{cases_eq, le-leb, leb-true, ltb-true, and_parts}
use Rattle.std.proofs.lemmas.List.{get_or_append_left, length_push}
use Rattle.std.proofs.lemmas.List.Elements.{All-nil, All-filter, All-weaker, All-push, filter_passes, All-from_get_or}
use Rattle.std.proofs.lemmas.List.Kept.{AllPairs-filter}
use Rattle.tb_span.specs.Span.{Span, Nests, same, before, after, above, below, IsAbove}
use Rattle.tb_span.specs.Lists.{IsSortedByStart, Nest}
use Rattle.tb_span.specs.Seeds.{no_item, label_at, places, is_open_at, open_places}
use Rattle.tb_span.specs.declared.item.Item.{Item}
use Rattle.tb_stackjoin.specs.Stacks.{IsStack, AreAbove, lasts}
use Rattle.tb_tree.proofs.lists.Ranges.{All-range, range_rises}
use Rattle.tb_tree.proofs.lists.Pairs.{AllPairs-push}

-- of two labels that nest, the one that starts first and lasts till the other starts is above it
pub nest_above : (u v : Span) → Nests u v → u.start < v.start → v.start ≤ u.end → v.start < v.end → IsAbove u v
nest_above u v (same e) first reaches some = absurd (omega (arith, ap (λ (w : Span). w.start) e))
nest_above u v (before b) first reaches some = absurd (omega arith)
nest_above u v (after b) first reaches some = absurd (omega arith)
nest_above u v (above h) first reaches some = h
nest_above u v (below h) first reaches some = absurd (omega (arith, h.starts_before))

pub IsStack-weaker : (a : List Item) (m n : ℕ) (stack : List ℕ) → m ≤ n → IsStack a m stack → IsStack a n stack
IsStack-weaker a m n stack le h = record { below = All-weaker (λ i. i < m) (λ i. i < n) (λ i l. omega arith) stack h.below; inside = h.inside }

pub IsStack-filter : (a : List Item) (n : ℕ) (f : ℕ → Bool) (stack : List ℕ) → IsStack a n stack → IsStack a n (filter f stack)
IsStack-filter a n f stack h = record {
  below = All-filter f (λ i. i < n) stack h.below;
  inside = AllPairs-filter (λ i k. IsAbove (label_at a i) (label_at a k)) f stack h.inside;
}

pub IsStack-pop : (a : List Item) (n : ℕ) (rest : List ℕ) (top : ℕ) → IsStack a n (rest ++ top ∷ []) → IsStack a n rest
IsStack-pop a n rest top h =
    let long = length_push rest top in
    record {
      below = λ k d within. subst (λ x. x < n) (get_or_append_left rest (top ∷ []) d k within) (h.below k d (omega arith));
      inside = λ i j d less within.
          let first : get_or (rest ++ top ∷ []) i d ≡ get_or rest i d = get_or_append_left rest (top ∷ []) d i (omega arith) in
          let second : get_or (rest ++ top ∷ []) j d ≡ get_or rest j d = get_or_append_left rest (top ∷ []) d j within in
          subst (λ x. IsAbove (label_at a x) (label_at a (get_or rest j d))) first
          (subst (λ y. IsAbove (label_at a (get_or (rest ++ top ∷ []) i d)) (label_at a y)) second (h.inside i j d less (omega arith)));
    }

pub IsStack-push : (a : List Item) (n : ℕ) (stack : List ℕ) → IsStack a n stack → AreAbove a stack (label_at a n) → IsStack a (n + 1) (stack ++ n ∷ [])
IsStack-push a n stack h on = record {
  below = All-push (λ i. i < n + 1) stack n (IsStack-weaker a n (n + 1) stack (omega arith) h).below (omega arith);
  inside = AllPairs-push (λ i k. IsAbove (label_at a i) (label_at a k)) stack n h.inside on;
}

-- where the top lasts, all last
pub all_last : (a : List Item) (n point : ℕ) (stack : List ℕ) (top : ℕ) → IsStack a n stack → 0 < length stack → get_or stack (length stack - 1) top ≡ top
    → point ≤ (label_at a top).end → All (λ i. lasts a point i ≡ true) stack
all_last a n point stack top h some last lasting = All-from_get_or (λ i. lasts a point i ≡ true) stack top (λ k within. one k within (cases_eq k (length stack - 1)))
  where
    one : (k : ℕ) → k < length stack → (k ≡ length stack - 1) ⊎ (k ≡ length stack - 1 → ⊥) → lasts a point (get_or stack k top) ≡ true
    one k within (inl e) =
        subst (λ i. lasts a point i ≡ true) (sym (ap (λ i. get_or stack i top) e ∙ last)) (le-leb point (label_at a top).end lasting)
    one k within (inr ne) =
        let up : IsAbove (label_at a (get_or stack k top)) (label_at a top) =
        subst (λ i. IsAbove (label_at a (get_or stack k top)) (label_at a i)) last (h.inside k (length stack - 1) top (omega arith) (omega arith)) in
        le-leb point (label_at a (get_or stack k top)).end (omega (arith, up.ends_after))

-- where all below a place start before the label, what lasts till then is above it
pub all_above : (a : List Item) (n : ℕ) (stack : List ℕ) (v : Span) → IsStack a n stack → n ≤ length a → All (λ i. lasts a v.start i ≡ true) stack
    → ((k : ℕ) → k < n → (label_at a k).start < v.start) → ((k : ℕ) → k < length a → Nests (label_at a k) v) → v.start < v.end → AreAbove a stack v
all_above a n stack v h within lasting started nests some = λ k d less.
    let place = get_or stack k d in
    let low : place < n = h.below k d less in
    nest_above (label_at a place) v (nests place (omega arith)) (started place low) (leb-true v.start (label_at a place).end (lasting k d less)) some

open_above : (a : List Item) (point i k : ℕ) → IsSortedByStart a → Nest a a → i < k → k < length a
    → is_open_at point (label_at a i) ≡ true → is_open_at point (label_at a k) ≡ true → IsAbove (label_at a i) (label_at a k)
open_above a point i k sorted nest less within first second =
    let u = label_at a i in
    let v = label_at a k in
    let reaches : point < u.end = ltb-true point u.end (and_parts (nat_lt u.start point) (nat_lt point u.end) first).1 in
    let starts : v.start < point = ltb-true v.start point (and_parts (nat_lt v.start point) (nat_lt point v.end) second).0 in
    let ends : point < v.end = ltb-true point v.end (and_parts (nat_lt v.start point) (nat_lt point v.end) second).1 in
    nest_above u v (nest i no_item (omega arith) k no_item within) (sorted i k no_item less within) (omega arith) (omega arith)

-- what is open at a point is a stack
pub open_places-stack : (a : List Item) (from point : ℕ) → IsSortedByStart a → Nest a a → from ≤ length a → IsStack a from (open_places a from point)
open_places-stack a from point sorted nest within =
    let test = λ (i : ℕ). is_open_at point (label_at a i) in
    let low : All (λ i. i < from) (open_places a from point) = All-filter test (λ i. i < from) (places from) (All-range (λ i. i < from) 0 from (λ i first last. omega arith)) in
    record {
      below = low;
      inside = λ i j d less last.
          open_above a point (get_or (open_places a from point) i d) (get_or (open_places a from point) j d) sorted nest
          (AllPairs-filter (λ i k. i < k) test (places from) (range_rises 0 from) i j d less last)
          (omega (arith, low j d last))
          (filter_passes test (places from) i d (omega arith))
          (filter_passes test (places from) j d last);
    }

pub IsStack-nil : (a : List Item) (n : ℕ) → IsStack a n []
IsStack-nil a n = record { below = All-nil (λ i. i < n); inside = λ i j d less within. absurd (omega arith) }

-- an ancestor on what lasts till it starts
pub IsStack-pushed : (a : List Item) (n : ℕ) (old popped new : List ℕ) (v : Span) → IsSortedByStart a → Nest a a → n < length a → v ≡ label_at a n → v.start < v.end
    → IsStack a n old → popped ≡ filter (lasts a v.start) old → new ≡ popped ++ n ∷ [] → IsStack a (n + 1) new
IsStack-pushed a n old popped new v sorted nest within is some h left pushed =
    let kept : IsStack a n popped = subst (λ xs. IsStack a n xs) (sym left) (IsStack-filter a n (lasts a v.start) old h) in
    let lasting : All (λ i. lasts a v.start i ≡ true) popped = subst (λ xs. All (λ i. lasts a v.start i ≡ true) xs) (sym left) (filter_passes (lasts a v.start) old) in
    let on : AreAbove a popped v =
    all_above a n popped v kept (omega arith) lasting
    (λ k less. subst (λ (w : Span). (label_at a k).start < w.start) (sym is) (sorted k n no_item less within))
    (λ k less. subst (λ w. Nests (label_at a k) w) (sym is) (nest k no_item less n no_item within)) some in
    subst (λ xs. IsStack a (n + 1) xs) (sym pushed) (IsStack-push a n popped kept (subst (λ w. AreAbove a popped w) is on))

-- what the last place of a stack is, however it was read
pub last-same : (stack seen : List ℕ) (top : ℕ) → seen ≡ stack → top ≡ get_or seen (length seen - 1) top → get_or stack (length stack - 1) top ≡ top
last-same stack seen top read is = ap (λ xs. get_or xs (length xs - 1) top) (sym read) ∙ sym is

pub popped-last : (stack seen rest : List ℕ) (top : ℕ) (taken : Option ℕ) → seen ≡ stack → stack ≡ rest ++ option_to_list taken → taken ≡ slice_get stack (length stack - 1)
    → ◌≡◌ {A = Option ℕ} (Some top) (slice_get seen (length seen - 1)) → stack ≡ rest ++ top ∷ []
popped-last stack seen rest top taken read parts last is =
    parts ∙ ap (λ o. rest ++ option_to_list o) (last ∙ ap (λ xs. slice_get xs (length xs - 1)) (sym read) ∙ sym is)
