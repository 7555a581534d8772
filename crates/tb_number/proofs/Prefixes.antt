-- Runs of bytes at the start of a list that pass a test.
use Rattle.std.proofs.Common.{◌≡◌, ℕ, suc, ◌+◌, ◌<◌, Bool, true, false, cond, not, List, [], ◌∷◌, ◌++◌, length, take, drop, refl, ap, ◌∙◌, arith}
use Rattle.std.specs.List.{prefix_len, list_all}
use Rattle.std.proofs.lemmas.Bool.{and_parts}
use Rattle.std.proofs.lemmas.List.{get_or-take}
use Rattle.std.proofs.lemmas.List.Folds.{length-prefix_len}
use Rattle.std.proofs.lemmas.List.Sums.{prefix_len_passes, list_all-from_AllPass}

-- the list does not begin with what passes
abbrev pub stops : (ℕ → Bool) → List ℕ → Bool
stops test [] = true
stops test (b ∷ bs) = not (test b)

stop-here : (test : ℕ → Bool) (b : ℕ) (bs : List ℕ) (passes : Bool) → test b ≡ passes → not passes ≡ true → prefix_len test (b ∷ bs) ≡ 0
stop-here test b bs true e stop = absurd (let d : ◌≡◌ {A = Bool} false true = stop in cc)
stop-here test b bs false e stop = rw e refl

-- a run of what passes ends where the rest does not begin with it
pub prefix_len-stops : (test : ℕ → Bool) (run rest : List ℕ) → list_all test run ≡ true → stops test rest ≡ true → prefix_len test (run ++ rest) ≡ length run
prefix_len-stops test [] [] all stop = refl
prefix_len-stops test [] (b ∷ bs) all stop = stop-here test b bs (test b) refl stop
prefix_len-stops test (c ∷ run) rest all stop =
    let parts = and_parts (test c) (list_all test run) all in
    rw (parts.0, prefix_len-stops test run rest parts.1 stop) (omega arith)

-- all of the run passes
pub take-prefix_len : (test : ℕ → Bool) (bytes : List ℕ) → list_all test (take (prefix_len test bytes) bytes) ≡ true
take-prefix_len test bytes =
    let n = prefix_len test bytes in
    list_all-from_AllPass test (take n bytes)
    (λ k d within.
    let here : k < n = omega (arith, within, length-prefix_len test bytes) in
    ap test (get_or-take n bytes k d here) ∙ prefix_len_passes test bytes k d here)

left : (test : ℕ → Bool) (b : ℕ) (bs : List ℕ) (passes : Bool) → test b ≡ passes → stops test (drop (prefix_len test bs) bs) ≡ true
    → stops test (drop (cond passes (1 + prefix_len test bs) 0) (b ∷ bs)) ≡ true
left test b bs true e stop =
    let more : 1 + prefix_len test bs ≡ suc (prefix_len test bs) = omega arith in
    rw more stop
left test b bs false e stop = rw e refl

-- and what follows does not begin with what passes
pub drop-prefix_len : (test : ℕ → Bool) (bytes : List ℕ) → stops test (drop (prefix_len test bytes) bytes) ≡ true
drop-prefix_len test [] = refl
drop-prefix_len test (b ∷ bs) = left test b bs (test b) refl (drop-prefix_len test bs)
