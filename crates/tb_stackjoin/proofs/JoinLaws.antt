-- One turn of a join: what was looked at, what is on the stack, and which pairs it has given.
use Rattle.std.proofs.Common.{◌≡◌, ℕ, ◌+◌, ◌<◌, ◌≤◌, ◌⊎◌, inl, inr, true, List, ◌++◌, length, map, All, filter, sym, ap, ◌∙◌, subst, arith}
use Rattle.std.proofs.lemmas.Bool.{cases_lt}
use Rattle.std.proofs.lemmas.List.Elements.{filter_passes}
use Rattle.tb_span.specs.Span.{Span, Nests}
use Rattle.tb_span.specs.Lists.{AreJoinable, is_related}
use Rattle.tb_span.specs.Seeds.{no_item, label_at, places, range, IsSeed}
use Rattle.tb_span.specs.declared.item.Axis.{Axis}
use Rattle.tb_span.specs.declared.item.Item.{Item}
use Rattle.tb_span.specs.declared.item.Pair.{Pair}
use Rattle.tb_stackjoin.specs.Pairs.{pair, above, pairs_by_descendant}
use Rattle.tb_stackjoin.specs.Stacks.{IsStack, AreAbove, lasts, run, HasPushed}
use Rattle.tb_stackjoin.proofs.RunLaws.{run_skip, run_within, run_passes, run_rest, start_rises}
use Rattle.tb_stackjoin.proofs.StackLaws.{all_above, open_places-stack, IsStack-nil, IsStack-filter}
use Rattle.tb_stackjoin.proofs.KeptLaws.{kept_all, seed_kept}
use Rattle.tb_stackjoin.proofs.PairLaws.{above-stack, pairs-more}

-- a seed is a stack
pub seed_stack : (a d : List Item) (seed : List ℕ) (from lo hi : ℕ) → AreJoinable a d → from ≤ length a → lo ≤ hi → IsSeed a d seed from (range lo hi) → IsStack a from seed
seed_stack a d seed from lo hi ok within range seeded = at (cases_lt lo hi)
  where
    at : (lo < hi) ⊎ (hi ≤ lo) → IsStack a from seed
    at (inl some) = subst (λ xs. IsStack a from xs) (sym (seeded.holds some)) (open_places-stack a from (label_at d lo).start ok.ancestors_sorted ok.ancestors_nest within)
    at (inr none) = subst (λ xs. IsStack a from xs) (sym (seeded.none (omega arith))) (IsStack-nil a from)

-- the ancestors before `from` start before each descendant of the range
pub seed_started : (a d : List Item) (seed : List ℕ) (from lo hi : ℕ) → AreJoinable a d → hi ≤ length d → IsSeed a d seed from (range lo hi)
    → (j : ℕ) → lo ≤ j → j < hi → (k : ℕ) → k < from → (label_at a k).start < (label_at d j).start
seed_started a d seed from lo hi ok within seeded j low high k less =
    omega (arith, seeded.started (omega arith) k less, start_rises d lo j ok.descendants_sorted low (omega arith))

pub seed_all : (a d : List Item) (seed stack : List ℕ) (from lo hi : ℕ) → AreJoinable a d → from ≤ length a → hi ≤ length d → IsSeed a d seed from (range lo hi) → stack ≡ seed
    → (j : ℕ) → lo ≤ j → j < hi → (label_at d j).start < (label_at d j).end
    → filter (lasts a (label_at d j).start) stack ≡ filter (lasts a (label_at d j).start) (places from)
seed_all a d seed stack from lo hi ok low within seeded same j first last some =
    ap (λ xs. filter (lasts a (label_at d j).start) xs) (same ∙ seeded.holds (omega arith))
    ∙ seed_kept a d from lo j ok low first (omega arith) (seeded.started (omega arith)) some

-- what the ancestors that are left come to, seen from any later descendant
pub counted-more : (a : List Item) (next after p q whole : ℕ) → after ≡ next + run a next p → p ≤ q → next + run a next q ≡ whole → after + run a after q ≡ whole
counted-more a next after p q whole is le counted =
    ap (λ n. n + run a n q) is ∙ omega (arith, run_skip a next p q le, counted)

pub started-more : (a : List Item) (next after p q : ℕ) → after ≡ next + run a next p → p ≤ q → ((k : ℕ) → k < next → (label_at a k).start < q)
    → (k : ℕ) → k < after → (label_at a k).start < q
started-more a next after p q is le started k less = at (cases_lt k next)
  where
    at : (k < next) ⊎ (next ≤ k) → (label_at a k).start < q
    at (inl before) = started k before
    at (inr behind) = omega (arith, run_passes a next p k behind (omega arith))

-- all on the stack are ancestors of the descendant
pub stack-above : (a d : List Item) (next after j : ℕ) (old new : List ℕ) (v : Span) → AreJoinable a d → after ≤ length a → j < length d → v ≡ label_at d j → v.start < v.end
    → IsStack a after old → new ≡ filter (lasts a v.start) old → after ≡ next + run a next v.start
    → ((k : ℕ) → k < next → (label_at a k).start < (label_at d j).start) → AreAbove a new v
stack-above a d next after j old new v ok within last is some h left passed started =
    let same : (label_at d j).start ≡ v.start = ap (λ (w : Span). w.start) (sym is) in
    all_above a after new v
    (subst (λ xs. IsStack a after xs) (sym left) (IsStack-filter a after (lasts a v.start) old h)) within
    (subst (λ xs. All (λ i. lasts a v.start i ≡ true) xs) (sym left) (filter_passes (lasts a v.start) old))
    (started-more a next after v.start v.start passed (omega arith) (λ k less. omega (arith, started k less, same)))
    (λ k less. subst (λ w. Nests (label_at a k) w) (sym is) (ok.both_nest k no_item less j no_item last))
    some

-- the pairs of one descendant more
pub paired-more : (axis : Axis) (a d : List Item) (lo next after j : ℕ) (old stack new : List ℕ) (v : Span) (had have : List Pair) → AreJoinable a d → lo ≤ j → next ≤ length a
    → v ≡ label_at d j → v.start < v.end → HasPushed a next v.start old stack after → new ≡ filter (lasts a v.start) stack
    → ((label_at d j).start < (label_at d j).end → filter (lasts a (label_at d j).start) old ≡ filter (lasts a (label_at d j).start) (places next))
    → had ≡ pairs_by_descendant axis a d (range lo j) → have ≡ had ++ map (λ i. pair i j) (filter (λ i. is_related axis (label_at a i) v) new)
    → have ≡ pairs_by_descendant axis a d (range lo (j + 1))
paired-more axis a d lo next after j old stack new v had have ok low start is some pushed left kept pairs added =
    let within : after ≤ length a = omega (arith, pushed.is, run_within a next v.start start) in
    let before : filter (lasts a v.start) old ≡ filter (lasts a v.start) (places next) =
    subst (λ (w : Span). filter (lasts a w.start) old ≡ filter (lasts a w.start) (places next)) (sym is) (kept (subst (λ (w : Span). w.start < w.end) is some)) in
    let open_now : new ≡ filter (lasts a v.start) (places after) =
    left ∙ kept_all a v.start next after old stack (omega (arith, pushed.is)) (pushed.kept v.start (omega arith)) before in
    let mine : filter (λ i. is_related axis (label_at a i) v) new ≡ above axis a v =
    above-stack axis a v after new some within (λ k behind less. run_rest a next v.start k ok.ancestors_sorted start (omega (arith, pushed.is)) less) open_now in
    added ∙ ap (λ ps. ps ++ map (λ i. pair i j) (filter (λ i. is_related axis (label_at a i) v) new)) pairs
    ∙ ap (λ xs. pairs_by_descendant axis a d (range lo j) ++ map (λ i. pair i j) xs) (mine ∙ ap (λ w. above axis a w) is)
    ∙ sym (pairs-more axis a d lo j low)
