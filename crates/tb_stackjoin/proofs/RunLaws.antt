-- Runs: how many ancestors in a row start before a point.
use Rattle.std.proofs.Common.{◌≡◌, ℕ, zero, suc, ◌+◌, ◌-◌, ◌^◌, ◌<◌, ◌≤◌, ◌⊎◌, inl, inr, true, false, nat_lt, List, length, get_or, drop, count_by, sym, ap, ◌∙◌, subst, arith, length-drop, drop-drop, get_or-drop}
use Rattle.std.specs.List.{prefix_len}
use Rattle.std.proofs.lemmas.Bool.{cases_eq, cond-true, ltb-true, ltb-false, lt-ltb, le-ltb}
use Rattle.std.proofs.lemmas.List.{drop_more, get_or_default}
use Rattle.std.proofs.lemmas.List.Sums.{prefix_len-le-length, prefix_len-drop_all, prefix_len-drop_no, prefix_len_passes, prefix_len_stops}
use Rattle.tb_span.specs.Lists.{IsSortedByStart}
use Rattle.tb_span.specs.Seeds.{no_item, label_at, range}
use Rattle.tb_span.specs.declared.item.Item.{Item}
use Rattle.tb_stackjoin.specs.Turns.{starts_before, turns}
use Rattle.tb_stackjoin.specs.Stacks.{run}
use Rattle.tb_tree.proofs.lists.Prefixes.{prefix_skip, prefix_le_count}

-- Starts rise, so the item at a place starts at the place or later.
pub place-start : (a : List Item) (i : ℕ) → IsSortedByStart a → i < length a → i ≤ (label_at a i).start
place-start a zero sorted within = omega arith
place-start a (suc i) sorted within = omega (arith, place-start a i sorted (omega (arith, within)), sorted i (suc i) no_item (omega arith) within)

-- A label's numbers are short, so a list in order of starts is.
pub few-items : (xs : List Item) (last : Item) → IsSortedByStart xs → 0 < length xs → last ≡ get_or xs (length xs - 1) last
    → last.label.start < last.label.end → last.label.end < 2 ^ 32 → length xs < 2 ^ 32
few-items xs last sorted some is behind short =
    let at = length xs - 1 in
    let within : at < length xs = omega (arith, some) in
    let same : last ≡ get_or xs at no_item = is ∙ get_or_default xs at last no_item within in
    omega (arith, some, place-start xs at sorted within, ap (λ x. x.label.start) same, behind, short)

pub run_more : (a : List Item) (n point : ℕ) → n < length a → (label_at a n).start < point → run a n point ≡ 1 + run a (n + 1) point
run_more a n point within starts =
    ap (λ xs. prefix_len (starts_before point) xs) (drop_more a n no_item within)
    ∙ cond-true (nat_lt (label_at a n).start point) (1 + run a (n + 1) point) 0 (lt-ltb (label_at a n).start point starts)

pub run_stop : (a : List Item) (n point : ℕ) → n < length a → point ≤ (label_at a n).start → run a n point ≡ 0
run_stop a n point within late = prefix_len-drop_no (starts_before point) a n no_item within (le-ltb (label_at a n).start point late)

pub run_end : (a : List Item) (n point : ℕ) → length a ≤ n → run a n point ≡ 0
run_end a n point past = prefix_len-drop_all (starts_before point) a n past

later : (p q : ℕ) → p ≤ q → (x : Item) → starts_before p x ≡ true → starts_before q x ≡ true
later p q le x e = lt-ltb x.label.start q (omega (arith, ltb-true x.label.start p e))

-- a run up to one point, and on to a later one
pub run_skip : (a : List Item) (n p q : ℕ) → p ≤ q → run a n p + run a (n + run a n p) q ≡ run a n q
run_skip a n p q le =
    ap (λ xs. run a n p + prefix_len (starts_before q) xs) (sym (drop-drop (run a n p) n a))
    ∙ prefix_skip (starts_before p) (starts_before q) (later p q le) (drop n a)

pub run_mono : (a : List Item) (n p q : ℕ) → p ≤ q → run a n p ≤ run a n q
run_mono a n p q le = omega (arith, run_skip a n p q le)

pub run_within : (a : List Item) (n point : ℕ) → n ≤ length a → n + run a n point ≤ length a
run_within a n point within = omega (arith, prefix_len-le-length (starts_before point) (drop n a), length-drop n a)

-- what a run passes starts before the point
pub run_passes : (a : List Item) (n point k : ℕ) → n ≤ k → k < n + run a n point → (label_at a k).start < point
run_passes a n point k low high =
    let at : n + (k - n) ≡ k = omega arith in
    let passes = prefix_len_passes (starts_before point) (drop n a) (k - n) no_item (omega arith) in
    let same : get_or (drop n a) (k - n) no_item ≡ get_or a k no_item = get_or-drop n a (k - n) no_item ∙ ap (λ i. get_or a i no_item) at in
    ltb-true (label_at a k).start point (subst (λ x. starts_before point x ≡ true) same passes)

stops : (a : List Item) (n point : ℕ) → n ≤ length a → n + run a n point < length a → point ≤ (label_at a (n + run a n point)).start
stops a n point within short =
    let long = length-drop n a in
    let fails = prefix_len_stops (starts_before point) (drop n a) no_item (omega arith) in
    let same : get_or (drop n a) (run a n point) no_item ≡ get_or a (n + run a n point) no_item = get_or-drop n a (run a n point) no_item in
    ltb-false (label_at a (n + run a n point)).start point (subst (λ x. starts_before point x ≡ false) same fails)

-- what stands behind a run starts at the point or later
pub run_rest : (a : List Item) (n point k : ℕ) → IsSortedByStart a → n ≤ length a → n + run a n point ≤ k → k < length a → point ≤ (label_at a k).start
run_rest a n point k sorted within behind last = at (cases_eq (n + run a n point) k)
  where
    at : (n + run a n point ≡ k) ⊎ (n + run a n point ≡ k → ⊥) → point ≤ (label_at a k).start
    at (inl e) = subst (λ i. point ≤ (label_at a i).start) e (stops a n point within (omega arith))
    at (inr ne) = omega (arith, stops a n point within (omega arith), sorted (n + run a n point) k no_item (omega arith) last)

-- starts of descendants rise
pub start_rises : (d : List Item) (i k : ℕ) → IsSortedByStart d → i ≤ k → k < length d → (label_at d i).start ≤ (label_at d k).start
start_rises d i k sorted le within = at (cases_eq i k)
  where
    at : (i ≡ k) ⊎ (i ≡ k → ⊥) → (label_at d i).start ≤ (label_at d k).start
    at (inl e) = subst (λ x. (label_at d i).start ≤ (label_at d x).start) e (omega arith)
    at (inr ne) = omega (arith, sorted i k no_item (omega arith) within)

-- a run up to any descendant of the range is not longer than the turns
pub run_turns : (a d : List Item) (from lo hi j : ℕ) → IsSortedByStart d → lo ≤ j → j < hi → hi ≤ length d → run a from (label_at d j).start ≤ turns a d from (range lo hi)
run_turns a d from lo hi j sorted low high within =
    let last = (label_at d (hi - 1)).start in
    let rises = start_rises d j (hi - 1) sorted (omega arith) (omega arith) in
    let all = cond-true (nat_lt lo hi) (count_by (starts_before last) (drop from a)) 0 (lt-ltb lo hi (omega arith)) in
    omega (arith, run_mono a from (label_at d j).start last rises, prefix_le_count (starts_before last) (drop from a), all)
