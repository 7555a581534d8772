-- How long the longest token of each class is.
use Rattle.std.proofs.Common.{◌≡◌, ℕ, zero, suc, ◌+◌, ◌<◌, ◌≤◌, Bool, true, false, cond, not, ◌==◌, ◌&&◌, ◌||◌, List, [], ◌∷◌, length, take, refl, ap, ◌∙◌, arith}
use Rattle.std.specs.List.{list_all, prefix_len, position_or_len}
use Rattle.std.proofs.lemmas.Bool.{and_parts, and_from}
use Rattle.std.proofs.lemmas.List.{get_or-take}
use Rattle.std.proofs.lemmas.List.Folds.{length-prefix_len}
use Rattle.std.proofs.lemmas.List.Sums.{prefix_len_passes, list_all-from_AllPass}
use Rattle.tb_token.specs.tokens.Bytes.{is_digit, starts_name}
use Rattle.tb_token.specs.tokens.Names.{goes_on, begins_name, all_go_on, is_name}
use Rattle.tb_token.specs.tokens.Kinds.{is_closed, is_none}
use Rattle.tb_token.specs.tokens.Prefixes.{rest_len}

-- Bytes that all pass.

pub all-prefix : (test : ℕ → Bool) (bytes : List ℕ) → list_all test (take (prefix_len test bytes) bytes) ≡ true
all-prefix test bytes =
    let n = prefix_len test bytes in
    list_all-from_AllPass test (take n bytes)
    (λ k d within.
    let here : k < n = omega (arith, within, length-prefix_len test bytes) in
    ap test (get_or-take n bytes k d here) ∙ prefix_len_passes test bytes k d here)

pub all-most : (test : ℕ → Bool) (bytes : List ℕ) (n : ℕ) → n ≤ length bytes → list_all test (take n bytes) ≡ true → n ≤ prefix_len test bytes
all-most test bytes zero within all = omega arith
all-most test [] (suc n) within all = absurd (omega arith)
all-most test (b ∷ bs) (suc n) within all =
    let parts = and_parts (test b) (list_all test (take n bs)) all in
    let rest = all-most test bs n (omega arith) parts.1 in
    rw parts.0 (omega arith)

-- Bytes that go on with a name.

begins-prefix : (n : ℕ) (bs : List ℕ) → begins_name (take n bs) ≡ true → begins_name bs ≡ true
begins-prefix zero bs is = absurd (let d : ◌≡◌ {A = Bool} false true = is in cc)
begins-prefix (suc n) [] is = is
begins-prefix (suc n) (b ∷ bs) is = is

goes-more : (p q y : Bool) → (p || (q && false)) ≡ true → (p || (q && y)) ≡ true
goes-more true q y is = refl
goes-more false true y is = absurd (let d : ◌≡◌ {A = Bool} false true = is in cc)
goes-more false false y is = is

goes-by : (p q x y : Bool) → (x ≡ true → y ≡ true) → (p || (q && x)) ≡ true → (p || (q && y)) ≡ true
goes-by p q true y more is = rw (more refl) is
goes-by p q false y more is = goes-more p q y is

-- a byte goes on with the bytes behind it that begin as those do
goes-along : (b : ℕ) (prefix bs : List ℕ) → (begins_name prefix ≡ true → begins_name bs ≡ true) → goes_on b prefix ≡ true → goes_on b bs ≡ true
goes-along b prefix bs more is = goes-by (starts_name b || is_digit b || b == 45 || b == 46) (b == 58) (begins_name prefix) (begins_name bs) more is

pub rest-most : (bs : List ℕ) (n : ℕ) → n ≤ length bs → all_go_on (take n bs) ≡ true → n ≤ rest_len bs
rest-most bs zero within all = omega arith
rest-most [] (suc n) within all = absurd (omega arith)
rest-most (b ∷ bs) (suc n) within all =
    let parts = and_parts (goes_on b (take n bs)) (all_go_on (take n bs)) all in
    let here = goes-along b (take n bs) bs (begins-prefix n bs) parts.0 in
    let rest = rest-most bs n (omega arith) parts.1 in
    rw here (omega arith)

rest-le-by : (goes : Bool) (bs : List ℕ) → rest_len bs ≤ length bs → cond goes (1 + rest_len bs) 0 ≤ suc (length bs)
rest-le-by true bs le = omega arith
rest-le-by false bs le = omega arith

pub rest-le : (bs : List ℕ) → rest_len bs ≤ length bs
rest-le [] = omega arith
rest-le (b ∷ bs) = rest-le-by (goes_on b bs) bs (rest-le bs)

starts-goes : (b : ℕ) (bs : List ℕ) → starts_name b ≡ true → goes_on b bs ≡ true
starts-goes b bs is = rw is refl

prefix-begins : (bs : List ℕ) → begins_name bs ≡ true → begins_name (take (rest_len bs) bs) ≡ true
prefix-begins [] is = is
prefix-begins (b ∷ bs) is =
    let more : 1 + rest_len bs ≡ suc (rest_len bs) = omega arith in
    rw (starts-goes b bs is, more) is

rest-step : (b : ℕ) (bs : List ℕ) (goes : Bool) → goes_on b bs ≡ goes → all_go_on (take (rest_len bs) bs) ≡ true
    → all_go_on (take (cond goes (1 + rest_len bs) 0) (b ∷ bs)) ≡ true
rest-step b bs true e all =
    let more : 1 + rest_len bs ≡ suc (rest_len bs) = omega arith in
    let here = goes-along b bs (take (rest_len bs) bs) (prefix-begins bs) e in
    rw more (and_from (goes_on b (take (rest_len bs) bs)) (all_go_on (take (rest_len bs) bs)) here all)
rest-step b bs false e all = refl

pub rest-prefix : (bs : List ℕ) → all_go_on (take (rest_len bs) bs) ≡ true
rest-prefix [] = refl
rest-prefix (b ∷ bs) = rest-step b bs (goes_on b bs) refl (rest-prefix bs)

-- Names.

pub name-prefix : (b : ℕ) (bs : List ℕ) → starts_name b ≡ true → is_name (take (1 + rest_len bs) (b ∷ bs)) ≡ true
name-prefix b bs is =
    let more : 1 + rest_len bs ≡ suc (rest_len bs) = omega arith in
    rw more (and_from (starts_name b) (all_go_on (take (rest_len bs) bs)) is (rest-prefix bs))

pub name-most : (b : ℕ) (bs : List ℕ) (n : ℕ) → n ≤ length (b ∷ bs) → is_name (take n (b ∷ bs)) ≡ true → n ≤ 1 + rest_len bs
name-most b bs zero within is = omega arith
name-most b bs (suc n) within is =
    let rest = rest-most bs n (omega arith) (and_parts (starts_name b) (all_go_on (take n bs)) is).1 in
    omega arith

-- Strings.

abbrev pub inside : ℕ → List ℕ → ℕ
inside q bs = position_or_len (λ b. b == q) bs

-- a prefix that is closed ends with the first such quote
pub record IsClosedAt (q : ℕ) (bs : List ℕ) (n : ℕ) : Type 0 where
  pub within : inside q bs < length bs
  pub size : n ≡ inside q bs + 1

closed-none : (n : ℕ) (bs : List ℕ) → n ≤ length bs → is_none (take n bs) ≡ true → n ≡ 0
closed-none zero bs within is = refl
closed-none (suc n) [] within is = absurd (omega arith)
closed-none (suc n) (b ∷ bs) within is = absurd (let d : ◌≡◌ {A = Bool} false true = is in cc)

closed-step : (q b : ℕ) (bs : List ℕ) (n : ℕ) (same : Bool) → (b == q) ≡ same → n ≤ length bs → (is_closed q (take n bs) ≡ true → IsClosedAt q bs n)
    → cond same (is_none (take n bs)) (is_closed q (take n bs)) ≡ true → IsClosedAt q (b ∷ bs) (suc n)
closed-step q b bs n true e within more is =
    let zero_is = closed-none n bs within is in
    record { within = rw e (omega arith); size = rw e (omega arith) }
closed-step q b bs n false e within more is =
    let rest = more is in
    let w = rest.within in
    let s = rest.size in
    record { within = rw e (omega arith); size = rw e (omega arith) }

pub closed-at : (q : ℕ) (bs : List ℕ) (n : ℕ) → n ≤ length bs → is_closed q (take n bs) ≡ true → IsClosedAt q bs n
closed-at q bs zero within is = absurd (let d : ◌≡◌ {A = Bool} false true = is in cc)
closed-at q [] (suc n) within is = absurd (omega arith)
closed-at q (b ∷ bs) (suc n) within is = closed-step q b bs n (b == q) refl (omega arith) (λ e. closed-at q bs n (omega arith) e) is

closed-prefix-step : (q b : ℕ) (bs : List ℕ) (same : Bool) → (b == q) ≡ same → (inside q bs < length bs → is_closed q (take (inside q bs + 1) bs) ≡ true)
    → cond (not same) (1 + inside q bs) 0 < suc (length bs) → is_closed q (take (cond (not same) (1 + inside q bs) 0 + 1) (b ∷ bs)) ≡ true
closed-prefix-step q b bs true e more within = rw e refl
closed-prefix-step q b bs false e more within =
    let size : 1 + inside q bs + 1 ≡ suc (inside q bs + 1) = omega arith in
    rw (size, e) (more (omega arith))

pub closed-prefix : (q : ℕ) (bs : List ℕ) → inside q bs < length bs → is_closed q (take (inside q bs + 1) bs) ≡ true
closed-prefix q [] within = absurd (omega arith)
closed-prefix q (b ∷ bs) within = closed-prefix-step q b bs (b == q) refl (closed-prefix q bs) within
