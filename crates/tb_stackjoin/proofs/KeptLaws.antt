-- For each point still to come, the stack has all places passed so far whose items last till then.
use Rattle.std.proofs.Common.{◌≡◌, ℕ, ◌+◌, ◌-◌, ◌<◌, ◌≤◌, true, nat_lt, List, [], ◌∷◌, ◌++◌, length, filter, refl, sym, ap, ◌∙◌, arith, append_assoc}
use Rattle.std.specs.List.{range_with_len}
use Rattle.std.proofs.lemmas.Bool.{leb-true, le-leb, lt-ltb, and_from}
use Rattle.std.proofs.lemmas.List.Elements.{filter-append}
use Rattle.tb_span.specs.Lists.{AreJoinable}
use Rattle.tb_span.specs.Seeds.{no_item, label_at, places, is_open_at, open_places}
use Rattle.tb_span.specs.declared.item.Item.{Item}
use Rattle.tb_stackjoin.specs.Stacks.{lasts}
use Rattle.tb_tree.proofs.lists.Filters.{filter_filter}
use Rattle.tb_tree.proofs.lists.Ranges.{range_more, All-range}
use Rattle.tb_stackjoin.proofs.PlaceLaws.{places_join}
use Rattle.tb_stackjoin.proofs.RunLaws.{start_rises}
use Rattle.tb_stackjoin.proofs.StackLaws.{nest_above}

-- what lasts till a point lasts till an earlier one
lasts_earlier : (a : List Item) (p q i : ℕ) → p ≤ q → lasts a q i ≡ true → lasts a p i ≡ true
lasts_earlier a p q i le e = le-leb p (label_at a i).end (omega (arith, leb-true q (label_at a i).end e))

-- what ended before a point doesn't matter for a later one
pub kept_pop : (a : List Item) (p q : ℕ) (old new : List ℕ) → p ≤ q → new ≡ filter (lasts a p) old → filter (lasts a q) new ≡ filter (lasts a q) old
kept_pop a p q old new le is =
    ap (λ xs. filter (lasts a q) xs) is ∙ filter_filter (lasts a q) (lasts a p) old (λ k d within. lasts_earlier a p q _ le)

-- one ancestor more
pub kept_push : (a : List Item) (p q first next : ℕ) (before old new : List ℕ) → p ≤ q → first ≤ next → new ≡ filter (lasts a p) old ++ next ∷ []
    → filter (lasts a q) old ≡ filter (lasts a q) before ++ filter (lasts a q) (range_with_len first (next - first))
    → filter (lasts a q) new ≡ filter (lasts a q) before ++ filter (lasts a q) (range_with_len first (next + 1 - first))
kept_push a p q first next before old new le low is had =
    let f = lasts a q in
    let passed = range_with_len first (next - first) in
    ap (λ xs. filter f xs) is
    ∙ filter-append f (filter (lasts a p) old) (next ∷ [])
    ∙ ap (λ xs. xs ++ filter f (next ∷ [])) (kept_pop a p q old (filter (lasts a p) old) le refl ∙ had)
    ∙ append_assoc (filter f before) (filter f passed) (filter f (next ∷ []))
    ∙ ap (λ xs. filter f before ++ xs) (sym (filter-append f passed (next ∷ [])) ∙ ap (λ xs. filter f xs) (sym (range_more first next low)))

-- all ancestors that start before a descendant
pub kept_all : (a : List Item) (q first next : ℕ) (old new : List ℕ) → first ≤ next
    → filter (lasts a q) new ≡ filter (lasts a q) old ++ filter (lasts a q) (range_with_len first (next - first))
    → filter (lasts a q) old ≡ filter (lasts a q) (places first) → filter (lasts a q) new ≡ filter (lasts a q) (places next)
kept_all a q first next old new low pushed had =
    pushed ∙ ap (λ xs. xs ++ filter (lasts a q) (range_with_len first (next - first))) had
    ∙ sym (filter-append (lasts a q) (places first) (range_with_len first (next - first)))
    ∙ ap (λ xs. filter (lasts a q) xs) (places_join first next low)

-- a seed has what lasts till any descendant of the range
pub seed_kept : (a d : List Item) (from lo j : ℕ) → AreJoinable a d → from ≤ length a → lo ≤ j → j < length d
    → ((i : ℕ) → i < from → (label_at a i).start < (label_at d lo).start) → (label_at d j).start < (label_at d j).end
    → filter (lasts a (label_at d j).start) (open_places a from (label_at d lo).start) ≡ filter (lasts a (label_at d j).start) (places from)
seed_kept a d from lo j ok within low last started some =
    let point = (label_at d lo).start in
    filter_filter (lasts a (label_at d j).start) (λ i. is_open_at point (label_at a i)) (places from)
    (All-range (λ i. lasts a (label_at d j).start i ≡ true → is_open_at point (label_at a i) ≡ true) 0 from (λ i first less lasting. open_at i (omega arith) lasting))
  where
    open_at : (i : ℕ) → i < from → lasts a (label_at d j).start i ≡ true → is_open_at (label_at d lo).start (label_at a i) ≡ true
    open_at i less lasting =
        let u = label_at a i in
        let v = label_at d j in
        let rises = start_rises d lo j ok.descendants_sorted low last in
        let up = nest_above u v (ok.both_nest i no_item (omega arith) j no_item last) (omega (arith, started i less)) (leb-true v.start u.end lasting) some in
        and_from (nat_lt u.start (label_at d lo).start) (nat_lt (label_at d lo).start u.end) (lt-ltb u.start (label_at d lo).start (started i less)) (lt-ltb (label_at d lo).start u.end (omega (arith, up.ends_after)))
