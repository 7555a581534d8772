-- The elements in a row at the start of a list that pass a test.
use Rattle.std.proofs.Common.{◌≡◌, ℕ, zero, suc, ◌+◌, ◌≤◌, Bool, not, ◌==◌, true, false, cond, List, [], ◌∷◌, ◌++◌, length, take, drop, count_by, refl, arith}
use Rattle.std.specs.List.{prefix_len, list_all}
use Rattle.std.proofs.lemmas.Bool.{and_parts, and_from, not_from_false, false_from_ne_true}
use Rattle.std.proofs.lemmas.List.Sums.{sum_by-cons}
use Rattle.memchr.specs.Find.{Nowhere, Passes, is_byte}

-- the run of bytes that pass ends where one fails
pub prefix_len-stop : (test : ℕ → Bool) (name : List ℕ) (b : ℕ) (rest : List ℕ) → list_all test name ≡ true → test b ≡ false → prefix_len test (name ++ b ∷ rest) ≡ length name
prefix_len-stop test [] b rest all stop = rw stop refl
prefix_len-stop test (c ∷ name) b rest all stop =
    let parts = and_parts (test c) (list_all test name) all in
    rw (parts.0, prefix_len-stop test name b rest parts.1 stop) (omega arith)

taken : (test : ℕ → Bool) (b : ℕ) (bytes : List ℕ) (passes : Bool) → test b ≡ passes → list_all test (take (prefix_len test bytes) bytes) ≡ true
    → list_all test (take (cond passes (1 + prefix_len test bytes) 0) (b ∷ bytes)) ≡ true
taken test b bytes true e all =
    let more : 1 + prefix_len test bytes ≡ suc (prefix_len test bytes) = omega arith in
    rw more (and_from (test b) (list_all test (take (prefix_len test bytes) bytes)) e all)
taken test b bytes false e all = refl

-- all of the run passes
pub take-prefix_len : (test : ℕ → Bool) (bytes : List ℕ) → list_all test (take (prefix_len test bytes) bytes) ≡ true
take-prefix_len test [] = refl
take-prefix_len test (b ∷ bytes) = taken test b bytes (test b) refl (take-prefix_len test bytes)

one_skipped : {X : Type 0} (f g : X → Bool) (x : X) (xs : List X) (passes : Bool) → (passes ≡ true → g x ≡ true)
    → prefix_len f xs + prefix_len g (drop (prefix_len f xs) xs) ≡ prefix_len g xs
    → cond passes (1 + prefix_len f xs) 0 + prefix_len g (drop (cond passes (1 + prefix_len f xs) 0) (x ∷ xs)) ≡ prefix_len g (x ∷ xs)
one_skipped f g x xs true h e =
    let more : 1 + prefix_len f xs ≡ suc (prefix_len f xs) = omega arith in
    rw (h refl, more) (omega (arith, e))
one_skipped f g x xs false h e = omega arith

-- what passes the stronger test, and what passes the weaker one behind it
pub prefix_skip : {X : Type 0} (f g : X → Bool) → ((x : X) → f x ≡ true → g x ≡ true) → (xs : List X) → prefix_len f xs + prefix_len g (drop (prefix_len f xs) xs) ≡ prefix_len g xs
prefix_skip f g h [] = refl
prefix_skip f g h (x ∷ xs) = one_skipped f g x xs (f x) (h x) (prefix_skip f g h xs)

one_counted : {X : Type 0} (f : X → Bool) (xs : List X) (passes : Bool) → prefix_len f xs ≤ count_by f xs → cond passes (1 + prefix_len f xs) 0 ≤ cond passes 1 0 + count_by f xs
one_counted f xs true h = omega arith
one_counted f xs false h = omega arith

-- what passes in a row passes
pub prefix_le_count : {X : Type 0} (f : X → Bool) (xs : List X) → prefix_len f xs ≤ count_by f xs
prefix_le_count f [] = omega arith
prefix_le_count f (x ∷ xs) =
    let split : count_by f (x ∷ xs) ≡ cond (f x) 1 0 + count_by f xs = sum_by-cons (λ y. cond (f y) 1 0) x xs in
    let one : cond (f x) (1 + prefix_len f xs) 0 ≤ cond (f x) 1 0 + count_by f xs = one_counted f xs (f x) (prefix_le_count f xs) in
    rw split one

-- another byte than this one
abbrev pub is_other : ℕ → ℕ → Bool
is_other b x = not (x == b)

-- before the first place that has the byte all bytes are others
pub others-prefix : (b : ℕ) (bytes : List ℕ) (n : ℕ) → n ≤ length bytes → Nowhere (Passes (is_byte b) bytes) 0 n → list_all (is_other b) (take n bytes) ≡ true
others-prefix b bytes zero within none = refl
others-prefix b [] (suc n) within none = refl
others-prefix b (x ∷ bytes) (suc n) within none =
    and_from (is_other b x) (list_all (is_other b) (take n bytes)) (not_from_false (x == b) (false_from_ne_true (x == b) (none 0 (omega arith) (omega arith))))
    (others-prefix b bytes n (omega arith) (λ k low high passes. none (suc k) (omega arith) (omega arith) passes))
