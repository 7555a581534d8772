-- Bytes in which no line begins with a dot go into a load's body.
use Rattle.std.proofs.Common.{◌≡◌, ℕ, zero, suc, ◌+◌, ◌<◌, Bool, true, false, not, ◌&&◌, ◌==◌, List, [], ◌∷◌, ◌++◌, length, take, cond, count_by, slice_index, refl, sym, ap, ap₂, ◌∙◌, arith, append_assoc, eq-eqb, eqb-true}
use Rattle.std.specs.List.{AllByRecursion, flat_map}
use Rattle.std.proofs.lemmas.Bool.{and_parts, and_from, false≢true}
use Rattle.std.proofs.lemmas.List.{append-nil}
use Rattle.std.proofs.lemmas.List.Sums.{sum_by-cons}
use Rattle.memchr.specs.Find.{Nowhere, OccursAt, is_byte}
use Rattle.tb_tree.specs.TextLines.{begins_with_end, before_first}
use Rattle.tb_script.specs.Lines.{whole_lines, text_of}
use Rattle.tb_script.specs.Forms.{is_dot}
use Rattle.tb_script.specs.Entries.{load_body, left_open, entries}
use Rattle.tb_script.specs.Dots.{is_dotless, begins_with_dot, begins_behind}
use Rattle.tb_script.proofs.LineLaws.{same-before_first, joined-whole}

some-lines : (b : ℕ) (bs : List ℕ) → 0 < length (whole_lines (b ∷ bs))
some-lines b bs = by (b == 10) refl
  where
    first : (lines : List (List ℕ)) → 0 < length (before_first b lines)
    first [] = omega arith
    first (line ∷ lines) = omega arith

    by : (t : Bool) → (b == 10) ≡ t → 0 < length (whole_lines (b ∷ bs))
    by true e = rw e (omega arith)
    by false e = rw e (first (whole_lines bs))

first-append : (b : ℕ) (ls ms : List (List ℕ)) → 0 < length ls → before_first b (ls ++ ms) ≡ before_first b ls ++ ms
first-append b [] ms some = absurd (omega (arith, some))
first-append b (l ∷ ls) ms some = refl

-- where a line has begun but not ended there is a byte
some-behind : (xs : List ℕ) → begins_behind false xs ≡ true → 0 < length (whole_lines xs)
some-behind [] e = absurd (false≢true e)
some-behind (a ∷ xs) e = some-lines a xs

-- The lines of bytes that end with a line, and of what follows.
pub whole-append : (begins : Bool) (xs rest : List ℕ) → begins_behind begins xs ≡ true → whole_lines (xs ++ rest) ≡ whole_lines xs ++ whole_lines rest
whole-append begins [] rest e = refl
whole-append begins (a ∷ xs) rest e = by (a == 10) refl (whole-append (a == 10) xs rest e) e
  where
    by : (t : Bool) → (a == 10) ≡ t → whole_lines (xs ++ rest) ≡ whole_lines xs ++ whole_lines rest → begins_behind (a == 10) xs ≡ true
        → whole_lines (a ∷ (xs ++ rest)) ≡ whole_lines (a ∷ xs) ++ whole_lines rest
    by true is ih e = rw is (ap (λ ls. (10 ∷ []) ∷ ls) ih)
    by false is ih e =
        let some = some-behind xs (rw is at e) in
        rw is (ap (before_first a) ih ∙ first-append a (whole_lines xs) (whole_lines rest) some)

-- There are xs many xs line ends.
pub whole-counted : (begins : Bool) (xs : List ℕ) → begins_behind begins xs ≡ true → length (whole_lines xs) ≡ count_by (is_byte 10) xs
whole-counted begins [] e = refl
whole-counted begins (a ∷ xs) e = by (a == 10) refl (whole-counted (a == 10) xs e) e
  where
    split : count_by (is_byte 10) (a ∷ xs) ≡ cond (a == 10) 1 0 + count_by (is_byte 10) xs
    split = sum_by-cons (λ y. cond (y == 10) 1 0) a xs

    by : (t : Bool) → (a == 10) ≡ t → length (whole_lines xs) ≡ count_by (is_byte 10) xs → begins_behind (a == 10) xs ≡ true
        → length (whole_lines (a ∷ xs)) ≡ count_by (is_byte 10) (a ∷ xs)
    by true is ih e =
        let more : count_by (is_byte 10) (a ∷ xs) ≡ 1 + count_by (is_byte 10) xs = split ∙ ap (λ t. cond t 1 0 + count_by (is_byte 10) xs) is in
        let lines : whole_lines (a ∷ xs) ≡ (10 ∷ []) ∷ whole_lines xs = rw is refl in
        let longer : length ((10 ∷ []) ∷ whole_lines xs) ≡ 1 + length (whole_lines xs) = omega arith in
        ap length lines ∙ longer ∙ ap (λ n. 1 + n) ih ∙ sym more
    by false is ih e =
        let some = some-behind xs (rw is at e) in
        let more : count_by (is_byte 10) (a ∷ xs) ≡ 0 + count_by (is_byte 10) xs = split ∙ ap (λ t. cond t 1 0 + count_by (is_byte 10) xs) is in
        let none : 0 + count_by (is_byte 10) xs ≡ count_by (is_byte 10) xs = omega arith in
        let lines : whole_lines (a ∷ xs) ≡ before_first a (whole_lines xs) = rw is refl in
        ap length lines ∙ same-before_first a (whole_lines xs) some ∙ ih ∙ sym (more ∙ none)

-- the line doesn't end a body
abbrev IsPassed : List ℕ → Type 0
IsPassed line = is_dot (text_of line) ≡ false

-- all lines, or all but the first, don't
abbrev ArePassed : Bool → List (List ℕ) → Type 0
ArePassed true lines = AllByRecursion IsPassed lines
ArePassed false [] = Unit {0}
ArePassed false (line ∷ lines) = AllByRecursion IsPassed lines

passed-line : (b : ℕ) (line : List ℕ) → (b == 10) ≡ false → (b == 46) ≡ false → IsPassed (b ∷ line)
passed-line b line e f = by (b == 13 && begins_with_end line) refl
  where
    by : (t : Bool) → (b == 13 && begins_with_end line) ≡ t → IsPassed (b ∷ line)
    by true g = rw (e, g) refl
    by false g = rw (e, g, f) refl

passed-first : (begins : Bool) (b : ℕ) (lines : List (List ℕ)) → (b == 10) ≡ false → (begins && b == 46) ≡ false → ArePassed false lines → ArePassed begins (before_first b lines)
passed-first true b [] e f all = (passed-line b [] e f, tt)
passed-first true b (line ∷ lines) e f all = (passed-line b line e f, all)
passed-first false b [] e f all = tt
passed-first false b (line ∷ lines) e f all = all

pub passed-all : (begins : Bool) (xs : List ℕ) → is_dotless begins xs ≡ true → ArePassed begins (whole_lines xs)
passed-all true [] e = tt
passed-all false [] e = tt
passed-all begins (a ∷ xs) e =
    let parts = and_parts (not (begins && a == 46)) (is_dotless (a == 10) xs) e in
    by (a == 10) refl begins (not_from_false' (begins && a == 46) parts.0) (passed-all (a == 10) xs parts.1)
  where
    not_from_false' : (x : Bool) → not x ≡ true → x ≡ false
    not_from_false' true e = absurd (false≢true e)
    not_from_false' false e = refl

    by : (t : Bool) → (a == 10) ≡ t → (begins : Bool) → (begins && a == 46) ≡ false → ArePassed (a == 10) (whole_lines xs) → ArePassed begins (whole_lines (a ∷ xs))
    by true is true f all = rw is (refl, rw is at all)
    by true is false f all = rw is (rw is at all)
    by false is begins f all = rw is (passed-first begins a (whole_lines xs) is f (rw is at all))

-- lines that don't end a body go into it
passed-lines : (at n : ℕ) (name kept : List ℕ) (ls ms : List (List ℕ)) → AllByRecursion IsPassed ls
    → entries (load_body at name kept) n (ls ++ ms) ≡ entries (load_body at name (kept ++ flat_map (λ l. l) ls)) (n + length ls) ms
passed-lines at n name kept [] ms all =
    let none : n + 0 ≡ n = omega arith in
    rw (none, append-nil kept) refl
passed-lines at n name kept (l ∷ ls) ms all =
    let more : (n + 1) + length ls ≡ n + length (l ∷ ls) = omega arith in
    rw all.0
    (passed-lines at (n + 1) name (kept ++ l) ls ms all.1
    ∙ ap₂ (λ k m. entries (load_body at name k) m ms) (append_assoc kept l (flat_map (λ l. l) ls)) more)

pub passed-behind : (xs rest : List ℕ) → is_dotless true xs ≡ true → begins_behind true xs ≡ true → (at n : ℕ) (name kept : List ℕ)
    → entries (load_body at name kept) n (whole_lines (xs ++ rest)) ≡ entries (load_body at name (kept ++ xs)) (n + count_by (is_byte 10) xs) (whole_lines rest)
passed-behind xs rest free ends at n name kept =
    ap (entries (load_body at name kept) n) (whole-append true xs rest ends)
    ∙ passed-lines at n name kept (whole_lines xs) (whole_lines rest) (passed-all true xs free)
    ∙ ap₂ (λ k m. entries (load_body at name (kept ++ k)) (n + m) (whole_lines rest)) (joined-whole xs) (whole-counted true xs ends)

pub passed-whole : (xs : List ℕ) → is_dotless true xs ≡ true → (at n : ℕ) (name kept : List ℕ)
    → entries (load_body at name kept) n (whole_lines xs) ≡ left_open (load_body at name (kept ++ xs))
passed-whole xs free at n name kept =
    ap (entries (load_body at name kept) n) (sym (append-nil (whole_lines xs)))
    ∙ passed-lines at n name kept (whole_lines xs) [] (passed-all true xs free)
    ∙ ap (λ k. left_open (load_body at name (kept ++ k))) (joined-whole xs)

-- a line end and a dot
abbrev pub dot_line : List ℕ
dot_line = 10 ∷ 46 ∷ []

abbrev Stands : List ℕ → ℕ → Type 0
Stands bytes = OccursAt bytes dot_line

later-stands : (b : ℕ) (bs : List ℕ) (k : ℕ) → Stands bs k → Stands (b ∷ bs) (suc k)
later-stands b bs k o = record {
  fits = omega (arith, o.fits);
  reads = λ j within. let next : suc k + j ≡ suc (k + j) = omega arith in rw next (o.reads j within);
}

later-nowhere : (b : ℕ) (bs : List ℕ) (k : ℕ) → Nowhere (Stands (b ∷ bs)) 0 (suc k) → Nowhere (Stands bs) 0 k
later-nowhere b bs k none i low high stands = none (suc i) (omega arith) (omega (arith, high)) (later-stands b bs i stands)

-- where it doesn't stand first, no dot follows a line end there
first-free : (b : ℕ) (bs : List ℕ) → ¬ Stands (b ∷ bs) 0 → ((b == 10) && begins_with_dot bs) ≡ false
first-free b bs none = by (b == 10) bs refl none
  where
    at : (c : ℕ) (cs : List ℕ) → (b == 10) ≡ true → (c == 46) ≡ true → Stands (b ∷ c ∷ cs) 0
    at c cs e f = record {
      fits = omega arith;
      reads = λ j within. let none : 0 + j ≡ j = omega arith in rw none (place j within);
    }
      where
        place : (j : ℕ) → j < 2 → slice_index (b ∷ c ∷ cs) j ≡ slice_index dot_line j
        place zero within = eqb-true b 10 e
        place (suc zero) within = eqb-true c 46 f
        place (suc (suc j)) within = absurd (omega (arith, within))

    by : (t : Bool) (bs : List ℕ) → (b == 10) ≡ t → ¬ Stands (b ∷ bs) 0 → (t && begins_with_dot bs) ≡ false
    by false bs e none = refl
    by true [] e none = refl
    by true (c ∷ cs) e none = dot (c == 46) refl
      where
        dot : (u : Bool) → (c == 46) ≡ u → u ≡ false
        dot true f = absurd (none (at c cs e f))
        dot false f = refl

free-first : (begins : Bool) (b : ℕ) → (begins && b == 46) ≡ false → not (begins && b == 46) ≡ true
free-first begins b e = rw e refl

-- Where it stands nowhere, no line begins with a dot, unless the first does.
pub dotless-none : (begins : Bool) (bytes : List ℕ) → (begins && begins_with_dot bytes) ≡ false → Nowhere (Stands bytes) 0 (length bytes) → is_dotless begins bytes ≡ true
dotless-none begins [] e none = refl
dotless-none begins (b ∷ bs) e none =
    and_from (not (begins && b == 46)) (is_dotless (b == 10) bs) (free-first begins b e)
    (dotless-none (b == 10) bs (first-free b bs (none 0 (omega arith) (omega arith))) (later-nowhere b bs (length bs) none))

-- What stands before the first place of it, with the line end, has no line that begins with a dot.
pub dotless-before : (begins : Bool) (bytes : List ℕ) (k : ℕ) → (begins && begins_with_dot bytes) ≡ false → Nowhere (Stands bytes) 0 k → Stands bytes k
    → (is_dotless begins (take (suc k) bytes) ≡ true) × (begins_behind begins (take (suc k) bytes) ≡ true)
dotless-before begins [] k e none o = absurd (omega (arith, o.fits))
dotless-before begins (b ∷ bs) zero e none o =
    (and_from (not (begins && b == 46)) true (free-first begins b e) refl, eq-eqb b 10 (o.reads 0 (omega arith)))
dotless-before begins (b ∷ bs) (suc k) e none o =
    let stands : Stands bs k = record {
      fits = omega (arith, o.fits);
      reads = λ j within. let next : suc k + j ≡ suc (k + j) = omega arith in rw next at (o.reads j within);
    } in
    let rest = dotless-before (b == 10) bs k (first-free b bs (none 0 (omega arith) (omega arith))) (later-nowhere b bs k none) stands in
    (and_from (not (begins && b == 46)) _ (free-first begins b e) rest.0, rest.1)
