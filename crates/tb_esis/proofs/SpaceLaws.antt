-- A line that is cut at its first space.
use Rattle.std.proofs.Common.{◌≡◌, ℕ, ◌+◌, true, ◌==◌, List, [], ◌∷◌, ◌++◌, length, take, drop, get_or, refl, sym, ap, ◌∙◌, subst, arith, eqb-true, take-append-drop}
use Rattle.std.specs.List.{list_all}
use Rattle.std.proofs.lemmas.Bool.{and_parts, not-true}
use Rattle.std.proofs.lemmas.List.{drop_more, take_all}
use Rattle.memchr.specs.Find.{Nowhere, NoneBefore, Passes, is_byte}
use Rattle.tb_tree.proofs.lists.Prefixes.{is_other, others-prefix}
use Rattle.tb_esis.specs.Lines.{before_space, behind_space}

-- the part before the space, and the part behind it
run_before : (run rest : List ℕ) → list_all (is_other 32) run ≡ true → before_space (run ++ 32 ∷ rest) ≡ run
run_before [] rest all = refl
run_before (b ∷ run) rest all =
    let parts = and_parts (is_other 32 b) (list_all (is_other 32) run) all in
    rw (not-true (b == 32) parts.0, run_before run rest parts.1) refl

run_behind : (run rest : List ℕ) → list_all (is_other 32) run ≡ true → behind_space (run ++ 32 ∷ rest) ≡ rest
run_behind [] rest all = refl
run_behind (b ∷ run) rest all =
    let parts = and_parts (is_other 32 b) (list_all (is_other 32) run) all in
    rw (not-true (b == 32) parts.0) (run_behind run rest parts.1)

all_before : (run : List ℕ) → list_all (is_other 32) run ≡ true → before_space run ≡ run
all_before [] all = refl
all_before (b ∷ run) all =
    let parts = and_parts (is_other 32 b) (list_all (is_other 32) run) all in
    rw (not-true (b == 32) parts.0, all_before run parts.1) refl

none_behind : (run : List ℕ) → list_all (is_other 32) run ≡ true → behind_space run ≡ []
none_behind [] all = refl
none_behind (b ∷ run) all =
    let parts = and_parts (is_other 32 b) (list_all (is_other 32) run) all in
    rw (not-true (b == 32) parts.0) (none_behind run parts.1)

-- where the first space was found
whole : (bytes : List ℕ) (at : ℕ) → NoneBefore (Passes (is_byte 32) bytes) 0 (length bytes) at → Passes (is_byte 32) bytes at → bytes ≡ take at bytes ++ 32 ∷ drop (at + 1) bytes
whole bytes at none here =
    sym (take-append-drop at bytes) ∙ ap (λ l. take at bytes ++ l) (drop_more bytes at 0 none.high ∙ ap (λ b. b ∷ drop (at + 1) bytes) (eqb-true (get_or bytes at 0) 32 here))

pub cut-before : (bytes : List ℕ) (at : ℕ) → NoneBefore (Passes (is_byte 32) bytes) 0 (length bytes) at → Passes (is_byte 32) bytes at → before_space bytes ≡ take at bytes
cut-before bytes at none here = ap before_space (whole bytes at none here) ∙ run_before (take at bytes) (drop (at + 1) bytes) (others-prefix 32 bytes at (omega (arith, none.high)) none.before)

pub cut-behind : (bytes : List ℕ) (at : ℕ) → NoneBefore (Passes (is_byte 32) bytes) 0 (length bytes) at → Passes (is_byte 32) bytes at → behind_space bytes ≡ drop (at + 1) bytes
cut-behind bytes at none here = ap behind_space (whole bytes at none here) ∙ run_behind (take at bytes) (drop (at + 1) bytes) (others-prefix 32 bytes at (omega (arith, none.high)) none.before)

-- where there is none
others : (bytes : List ℕ) → Nowhere (Passes (is_byte 32) bytes) 0 (length bytes) → list_all (is_other 32) bytes ≡ true
others bytes none = subst (λ l. list_all (is_other 32) l ≡ true) (take_all (length bytes) bytes (omega arith)) (others-prefix 32 bytes (length bytes) (omega arith) none)

pub uncut-before : (bytes : List ℕ) → Nowhere (Passes (is_byte 32) bytes) 0 (length bytes) → before_space bytes ≡ bytes
uncut-before bytes none = all_before bytes (others bytes none)

pub uncut-behind : (bytes : List ℕ) → Nowhere (Passes (is_byte 32) bytes) 0 (length bytes) → behind_space bytes ≡ []
uncut-behind bytes none = none_behind bytes (others bytes none)
