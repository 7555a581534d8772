-- Entries with their marks, and what is left when the marks are taken away.
use Rattle.std.proofs.Common.{◌≡◌, ℕ, ◌+◌, ◌-◌, ◌^◌, ◌<◌, ◌≤◌, Bool, true, false, ◌||◌, nat_eq, nat_lt, cond, ◌⊎◌, inl, inr, ◌↔◌, All, List, [], ◌++◌, length, get_or, take, drop, set, map, refl, sym, ap, ap₂, subst, ◌∙◌, arith, append-nil, length-append}
use Rattle.std.proofs.lemmas.Bool.{cases_eq, cases_Bool, ne_eqb, eq-eqb, le-ltb, lt-ltb, cond-true, cond-false, or_right}
use Rattle.std.proofs.lemmas.List.{length-set, length-map, get_or-set_same, get_or-set_other, get_or-map, take-append-drop, take_all, drop_all}
use Rattle.std.proofs.lemmas.List.Elements.{All-get_or, All-from_get_or, All-same, All-map, All-weaker}
use Rattle.std.proofs.lemmas.List.Folds.{list_any_more}
use Rattle.std.proofs.lemmas.List.FromFn.{length-map-range_with_len, get_or-map-range_with_len, fill_by_all}
use Rattle.tb_plan.specs.Orders.{IsOrder}
use Rattle.tb_plan.specs.Marks.{has, mark, marked, unmarked}
use Rattle.tb_plan.proofs.OrderLaws.{each-order, order-each}

-- the entry at a place, with its mark
abbrev entry : List ℕ → List ℕ → ℕ → ℕ
entry seen xs k = get_or xs k 0 + mark seen k

pub length-marked : (seen xs : List ℕ) → length (marked seen xs) ≡ length xs
length-marked seen xs = length-map-range_with_len (entry seen xs) 0 (length xs)

pub get_or-marked : (seen xs : List ℕ) (k d : ℕ) → k < length xs → get_or (marked seen xs) k d ≡ get_or xs k 0 + mark seen k
get_or-marked seen xs k d low = get_or-map-range_with_len (entry seen xs) 0 (length xs) k k d low (omega arith)

-- a list that has these entries is the marked one
marked-by_all : (seen xs cur : List ℕ) → length cur ≡ length xs → ((k : ℕ) → k < length xs → get_or cur k 0 ≡ get_or xs k 0 + mark seen k) → cur ≡ marked seen xs
marked-by_all seen xs cur long each = fill_by_all (entry seen xs) cur (length xs) 0 long each

pub marked-none : (xs : List ℕ) → xs ≡ marked [] xs
marked-none xs = marked-by_all [] xs xs refl (λ k low. omega arith)

unmarked-by : (x : ℕ) (b : Bool) → x < 2 ^ 31 → unmarked (x + cond b (2 ^ 31) 0) ≡ x
unmarked-by x true low =
    cond-false (nat_lt (x + 2 ^ 31) (2 ^ 31)) (x + 2 ^ 31) (x + 2 ^ 31 - 2 ^ 31) (le-ltb (x + 2 ^ 31) (2 ^ 31) (omega arith)) ∙ omega arith
unmarked-by x false low =
    cond-true (nat_lt (x + 0) (2 ^ 31)) (x + 0) (x + 0 - 2 ^ 31) (lt-ltb (x + 0) (2 ^ 31) (omega arith)) ∙ omega arith

or-false : (b : Bool) → (b || false) ≡ b
or-false true = refl
or-false false = refl

-- one number more has marked its entry
marked-more : (xs cur : List ℕ) (i n : ℕ) → i < length xs → cur ≡ marked (take i xs) xs → n ≡ get_or xs i 0 → n < length xs
    → set cur n (get_or xs n 0 + 2 ^ 31) ≡ marked (take (i + 1) xs) xs
marked-more xs cur i n within is number less =
    marked-by_all (take (i + 1) xs) xs (set cur n new) (length-set cur n new ∙ long) (λ k low. by k low (cases_eq n k))
  where
    new : ℕ
    new = get_or xs n 0 + 2 ^ 31

    long : length cur ≡ length xs
    long = ap length is ∙ length-marked (take i xs) xs

    more : (k : ℕ) → has (take (i + 1) xs) k ≡ (has (take i xs) k || nat_eq n k)
    more k = list_any_more (λ x. nat_eq x k) xs i 0 within ∙ ap (λ x. has (take i xs) k || nat_eq x k) (sym number)

    by : (k : ℕ) → k < length xs → (n ≡ k) ⊎ (n ≡ k → ⊥) → get_or (set cur n new) k 0 ≡ get_or xs k 0 + mark (take (i + 1) xs) k
    by k low (inl same) =
        let seen : has (take (i + 1) xs) k ≡ true = more k ∙ or_right (has (take i xs) k) (nat_eq n k) (eq-eqb n k same) in
        let marks : mark (take (i + 1) xs) k ≡ 2 ^ 31 = ap (λ b. cond b (2 ^ 31) 0) seen in
        subst (λ j. get_or (set cur n new) j 0 ≡ get_or xs j 0 + 2 ^ 31) same (get_or-set_same cur n new 0 (omega (arith, long, less)))
        ∙ omega (arith, marks)
    by k low (inr other) =
        let old : has (take (i + 1) xs) k ≡ has (take i xs) k = more k ∙ ap (λ b. has (take i xs) k || b) (ne_eqb n k other) ∙ or-false (has (take i xs) k) in
        get_or-set_other cur n k new 0 (λ e. other (sym e))
        ∙ ap (λ ys. get_or ys k 0) is
        ∙ get_or-marked (take i xs) xs k 0 low
        ∙ ap (λ b. get_or xs k 0 + cond b (2 ^ 31) 0) (sym old)

-- The numbers of a list that is no longer than 2^31, each below its length, some of which have marked their entries.
module _ (xs : List ℕ) (few : length xs ≤ 2 ^ 31) (below : All (λ n. n < length xs) xs) where
  -- what is read at a place, without its mark
  entry-read : (seen cur : List ℕ) (k e m : ℕ) → k < length xs → cur ≡ marked seen xs → e ≡ get_or cur k e → m ≡ unmarked e → m ≡ get_or xs k 0
  entry-read seen cur k e m low is read without =
      without
      ∙ ap unmarked (read ∙ ap (λ ys. get_or ys k e) is ∙ get_or-marked seen xs k e low)
      ∙ unmarked-by (get_or xs k 0) (has seen k) (omega (arith, All-get_or (λ n. n < length xs) xs k 0 low below))

  -- the number at a place, and that it has an entry
  pub number-read : (seen cur : List ℕ) (i e n : ℕ) → i < length xs → cur ≡ marked seen xs → e ≡ get_or cur i e → n ≡ unmarked e → (n ≡ get_or xs i 0) × (n < length xs)
  number-read seen cur i e n low is read without =
      let same = entry-read seen cur i e n low is read without in
      (same, omega (arith, same, All-get_or (λ n. n < length xs) xs i 0 low below))

  -- the next number marks its entry
  pub marked-step : (cur : List ℕ) (i e n f m : ℕ) → i < length xs → cur ≡ marked (take i xs) xs → e ≡ get_or cur i e → n ≡ unmarked e
      → f ≡ get_or cur n f → m ≡ unmarked f → set cur n (m + 2 ^ 31) ≡ marked (take (i + 1) xs) xs
  marked-step cur i e n f m low is read without read' without' =
      let number = number-read (take i xs) cur i e n low is read without in
      let other = entry-read (take i xs) cur n f m number.1 is read' without' in
      ap (λ x. set cur n (x + 2 ^ 31)) other ∙ marked-more xs cur i n low is number.0 number.1

abbrev raise : ℕ → ℕ
raise n = n + 2 ^ 31

-- the marks of all entries are taken away
pub lowered-all : (xs ys : List ℕ) (i : ℕ) → xs ≡ map (λ n. n + 2 ^ 31) (take i ys) ++ drop i ys → length xs ≤ i → xs ≡ map (λ n. n + 2 ^ 31) ys
lowered-all xs ys i is reached =
    let long : length ys ≤ i = omega (arith, ap length is, length-append (map raise (take i ys)) (drop i ys), length-map (take i ys) raise, length-append (take i ys) (drop i ys), ap length (take-append-drop i ys)) in
    is ∙ ap₂ (λ zs ws. map raise zs ++ ws) (take_all i ys long) (drop_all i ys long) ∙ append-nil (map raise ys)

-- what 2^31 was added to is no less
pub raised-all : (xs ys : List ℕ) → xs ≡ map (λ n. n + 2 ^ 31) ys → All (λ n. 2 ^ 31 ≤ n) xs
raised-all xs ys is =
    All-same (λ n. 2 ^ 31 ≤ n) xs (map raise ys) is (All-map (λ n. 2 ^ 31 ≤ n) raise ys (All-from_get_or (λ n. 2 ^ 31 ≤ n + 2 ^ 31) ys 0 (λ k low. omega arith)))

-- all entries are marked just where each place has its number
pub all-marked : (xs : List ℕ) → All (λ n. n < 2 ^ 31) xs → All (λ n. 2 ^ 31 ≤ n) (marked xs xs) → (k : ℕ) → k < length xs → has xs k ≡ true
all-marked xs low marks k within = by (cases_Bool (has xs k))
  where
    by : (has xs k ≡ true) ⊎ (has xs k ≡ false) → has xs k ≡ true
    by (inl there) = there
    by (inr none) =
        let entry = get_or-marked xs xs k 0 within in
        let bare = ap (λ b. cond b (2 ^ 31) 0) none in
        let more = All-get_or (λ n. 2 ^ 31 ≤ n) (marked xs xs) k 0 (omega (arith, length-marked xs xs)) marks in
        absurd (omega (arith, entry, bare, more, All-get_or (λ n. n < 2 ^ 31) xs k 0 within low))

pub marked-all : (xs : List ℕ) → ((k : ℕ) → k < length xs → has xs k ≡ true) → All (λ n. 2 ^ 31 ≤ n) (marked xs xs)
marked-all xs each =
    All-from_get_or (λ n. 2 ^ 31 ≤ n) (marked xs xs) 0 (λ k low.
    let within : k < length xs = omega (arith, length-marked xs xs) in
    let marks = ap (λ b. cond b (2 ^ 31) 0) (each k within) in
    omega (arith, get_or-marked xs xs k 0 within, marks))

-- the list itself, where all of its entries had marks
pub lowered-marked : (xs ys : List ℕ) → ((k : ℕ) → k < length xs → has xs k ≡ true) → marked xs xs ≡ map (λ n. n + 2 ^ 31) ys → ys ≡ xs
lowered-marked xs ys each is =
    let long : length ys ≡ length xs = sym (length-map ys raise) ∙ ap length (sym is) ∙ length-marked xs xs in
    fill_by_all (λ k. get_or xs k 0) ys (length xs) 0 long (λ k low.
    let marks = ap (λ b. cond b (2 ^ 31) 0) (each k low) in
    let both = sym (get_or-marked xs xs k 0 low) ∙ ap (λ zs. get_or zs k 0) is ∙ get_or-map raise ys k 0 0 (omega (arith, long, low)) in
    omega (arith, marks, both))
    ∙ sym (fill_by_all (λ k. get_or xs k 0) xs (length xs) 0 refl (λ k low. refl))

-- After all numbers have marked theirs, the list is an order just where all entries are marked.
module _ (xs cur : List ℕ) (few : length xs ≤ 2 ^ 31) (below : All (λ n. n < length xs) xs) (is : cur ≡ marked xs xs) where
  each-marked : All (λ n. 2 ^ 31 ≤ n) cur → (k : ℕ) → k < length xs → has xs k ≡ true
  each-marked marks =
      all-marked xs (All-weaker (λ n. n < length xs) (λ n. n < 2 ^ 31) (λ n low. omega arith) xs below) (All-same (λ n. 2 ^ 31 ≤ n) (marked xs xs) cur (sym is) marks)

  pub marks-tell : All (λ n. 2 ^ 31 ≤ n) cur ↔ IsOrder xs
  marks-tell = (
    (λ marks. each-order (length xs) xs refl (each-marked marks)),
    (λ order. All-same (λ n. 2 ^ 31 ≤ n) cur (marked xs xs) is (marked-all xs (order-each (length xs) xs order))),
  )

  pub marks-keep : (ys : List ℕ) → All (λ n. 2 ^ 31 ≤ n) cur → cur ≡ map (λ n. n + 2 ^ 31) ys → ys ≡ xs
  marks-keep ys marks lowered = lowered-marked xs ys (each-marked marks) (sym is ∙ lowered)
