-- Lines that are cut at their first byte 10 are the lines of the text.
use Rattle.std.proofs.Common.{◌≡◌, ℕ, suc, ◌+◌, ◌-◌, ◌<◌, ◌≤◌, Bool, true, false, cond, ◌==◌, List, [], ◌∷◌, ◌++◌, length, take, drop, get_or, not, ◌&&◌, refl, sym, ap, ap₂, ◌∙◌, subst, arith, inl, inr, eqb-true, take-append-drop, length-append, length-drop}
use Rattle.std.specs.List.{list_all}
use Rattle.std.proofs.lemmas.Bool.{and_parts, and_right, not-true, false≢true}
use Rattle.std.proofs.lemmas.List.{take_rest, take_all, take_at, take-take, drop_all, drop_more, get_or_at, length-take-le}
use Rattle.std.proofs.Math.Seq.{drop-append-add}
use Rattle.memchr.specs.Find.{Nowhere, NoneBefore, Passes, is_byte}
use Rattle.tb_tree.proofs.lists.Prefixes.{is_other, others-prefix}
use Rattle.tb_tree.specs.TextLines.{lines_in, without_return, before_first, begins_with_end, CutsLine}

-- no line ends at the byte
abbrev inside : ℕ → Bool
inside b = is_other 10 b

-- a byte within a line stands before the first of the lines that follow
lines_in-inside : (b : ℕ) (bs : List ℕ) → inside b ≡ true → begins_with_end bs ≡ false → lines_in (b ∷ bs) ≡ before_first b (lines_in bs)
lines_in-inside b bs here there = rw (not-true (b == 10) here, there, and_right (b == 13) false refl) refl

chosen : (t : Bool) (b : ℕ) (x y : List ℕ) → cond t (b ∷ x) (b ∷ y) ≡ b ∷ cond t x y
chosen true b x y = refl
chosen false b x y = refl

without_return-cons : (b c : ℕ) (line : List ℕ) → without_return (b ∷ c ∷ line) ≡ b ∷ without_return (c ∷ line)
without_return-cons b c line =
    let one : length (b ∷ c ∷ line) - 1 ≡ suc (length line) = omega arith in
    let two : length (c ∷ line) - 1 ≡ length line = omega arith in
    rw (one, two) (chosen (get_or (c ∷ line) (length line) 0 == 13) b (take (length line) (c ∷ line)) (c ∷ line))

-- a line of one byte
lines_in-short : (b : ℕ) (rest : List ℕ) (ret : Bool) → (b == 10) ≡ false → (b == 13) ≡ ret → lines_in (b ∷ 10 ∷ rest) ≡ without_return (b ∷ []) ∷ lines_in rest
lines_in-short b rest true here is = rw (here, is) refl
lines_in-short b rest false here is = rw (here, is) refl

-- a line that is ended
lines_in-ended : (line rest : List ℕ) → list_all inside line ≡ true → lines_in (line ++ 10 ∷ rest) ≡ without_return line ∷ lines_in rest
lines_in-ended [] rest all = refl
lines_in-ended (b ∷ []) rest all = lines_in-short b rest (b == 13) (not-true (b == 10) (and_parts (inside b) true all).0) refl
lines_in-ended (b ∷ c ∷ line) rest all =
    let parts = and_parts (inside b) (list_all inside (c ∷ line)) all in
    let next = and_parts (inside c) (list_all inside line) parts.1 in
    lines_in-inside b (c ∷ (line ++ 10 ∷ rest)) parts.0 (not-true (c == 10) next.0)
    ∙ ap (before_first b) (lines_in-ended (c ∷ line) rest parts.1)
    ∙ ap (λ l. l ∷ lines_in rest) (sym (without_return-cons b c line))

-- a last line without an end
lines_in-last : (b : ℕ) (line : List ℕ) → list_all inside (b ∷ line) ≡ true → lines_in (b ∷ line) ≡ (b ∷ line) ∷ []
lines_in-last b [] all = lines_in-inside b [] (and_parts (inside b) true all).0 refl
lines_in-last b (c ∷ line) all =
    let parts = and_parts (inside b) (list_all inside (c ∷ line)) all in
    let next = and_parts (inside c) (list_all inside line) parts.1 in
    lines_in-inside b (c ∷ line) parts.0 (not-true (c == 10) next.0) ∙ ap (before_first b) (lines_in-last c line parts.1)

inside-prefix : (bytes : List ℕ) (n : ℕ) → n ≤ length bytes → Nowhere (Passes (is_byte 10) bytes) 0 n → list_all inside (take n bytes) ≡ true
inside-prefix bytes n within none = others-prefix 10 bytes n within none

lines_in-whole : (bytes : List ℕ) → 0 < length bytes → list_all inside bytes ≡ true → lines_in bytes ≡ bytes ∷ []
lines_in-whole [] some all = absurd (omega arith)
lines_in-whole (b ∷ bytes) some all = lines_in-last b bytes all

pub some_byte : (bytes : List ℕ) → false ≡ (length bytes == 0) → 0 < length bytes
some_byte [] e = absurd (false≢true e)
some_byte (b ∷ bytes) e = omega arith

-- Where no byte is 10, all bytes are the line.
pub cuts-whole : (bytes rest : List ℕ) → 0 < length bytes → Nowhere (Passes (is_byte 10) bytes) 0 (length bytes) → rest ≡ take (length bytes - length bytes) (drop (length bytes) bytes)
    → CutsLine bytes bytes rest
cuts-whole bytes rest some none is =
    let rest_is : rest ≡ drop (length bytes) bytes = is ∙ take_rest bytes (length bytes) in
    let nothing : rest ≡ [] = rest_is ∙ drop_all (length bytes) bytes (omega arith) in
    let all : list_all inside bytes ≡ true = rw (take_all (length bytes) bytes (omega arith)) at (inside-prefix bytes (length bytes) (omega arith) none) in
    record {
      taken = length bytes;
      kept = length bytes;
      some = some;
      within = omega arith;
      fits = omega arith;
      ended = inr refl;
      line_is = sym (take_all (length bytes) bytes (omega arith));
      rest_is = rest_is;
      lines = lines_in-whole bytes some all ∙ ap (λ r. bytes ∷ lines_in r) (sym nothing);
    }

step-back : (at : ℕ) → at + 1 - 1 ≡ at
step-back at = omega arith

kept-fits : (ends : Bool) (at : ℕ) → cond ends (at - 1) at ≤ at + 1
kept-fits true at = omega arith
kept-fits false at = omega arith

kept-prefix : (ends : Bool) (at : ℕ) (bytes : List ℕ) → at ≤ length bytes → cond ends (take (length (take at bytes) - 1) (take at bytes)) (take at bytes) ≡ take (cond ends (at - 1) at) bytes
kept-prefix true at bytes within = rw (length-take-le at bytes within) (take-take (at - 1) at bytes (omega arith))
kept-prefix false at bytes within = refl

-- The line before the first byte 10 ends there.
pub cuts-at : (bytes line rest : List ℕ) (at : ℕ) → NoneBefore (Passes (is_byte 10) bytes) 0 (length bytes) at → Passes (is_byte 10) bytes at → line ≡ without_return (take at bytes)
    → rest ≡ take (length bytes - (at + 1)) (drop (at + 1) bytes) → CutsLine bytes line rest
cuts-at bytes line rest at none here line_is is =
    let rest_is : rest ≡ drop (at + 1) bytes = is ∙ take_rest bytes (at + 1) in
    let before = take at bytes in
    let ends = get_or before (length before - 1) 0 == 13 in
    let ten : get_or bytes at 0 ≡ 10 = eqb-true (get_or bytes at 0) 10 here in
    let whole : bytes ≡ before ++ 10 ∷ drop (at + 1) bytes =
    sym (take-append-drop at bytes) ∙ ap (λ l. before ++ l) (drop_more bytes at 0 none.high ∙ ap (λ b. b ∷ drop (at + 1) bytes) ten) in
    let all = inside-prefix bytes at (omega (arith, none.high)) none.before in
    record {
      taken = at + 1;
      kept = cond ends (at - 1) at;
      some = omega arith;
      within = omega (arith, none.high);
      fits = kept-fits ends at;
      ended = inl (rw (step-back at) ten);
      line_is = line_is ∙ kept-prefix ends at bytes (omega (arith, none.high));
      rest_is = rest_is;
      lines = ap lines_in whole ∙ lines_in-ended before (drop (at + 1) bytes) all ∙ ap (λ l. l ∷ lines_in (drop (at + 1) bytes)) (sym line_is) ∙ ap (λ r. line ∷ lines_in r) (sym rest_is);
    }

-- Bytes that begin with a line and byte 10.
pub take-line : (bytes line rest : List ℕ) → bytes ≡ line ++ 10 ∷ rest → take (length line) bytes ≡ line
take-line bytes line rest e = ap (take (length line)) e ∙ take_at line (10 ∷ rest) (length line) refl

pub behind-is : (bytes line : List ℕ) (b : ℕ) → length line < length bytes → b ≡ 10 → b ≡ get_or bytes (length line) b → take (length line) bytes ≡ line
    → bytes ≡ line ++ 10 ∷ take (length bytes - (length line + 1)) (drop (length line + 1) bytes)
behind-is bytes line b within ten at same =
    let behind = drop (length line + 1) bytes in
    sym (take-append-drop (length line) bytes)
    ∙ ap₂ (λ x y. x ++ y) same (drop_more bytes (length line) b within)
    ∙ ap₂ (λ x y. line ++ x ∷ y) (sym at ∙ ten) (sym (take_all (length bytes - (length line + 1)) behind (omega (arith, length-drop (length line + 1) bytes))))

-- The line is the first one, where no byte of it is 10 or 13.
abbrev pub is_inner : ℕ → Bool
is_inner b = not (b == 10) && not (b == 13)

pub lines-behind : (line rest : List ℕ) → list_all is_inner line ≡ true → lines_in (line ++ 10 ∷ rest) ≡ line ∷ lines_in rest
lines-behind [] rest all = refl
lines-behind (b ∷ line) rest all =
    let parts = and_parts (is_inner b) (list_all is_inner line) all in
    let one = and_parts (not (b == 10)) (not (b == 13)) parts.0 in
    rw (not-true (b == 10) one.0, not-true (b == 13) one.1, lines-behind line rest parts.1) refl

pub cuts-behind : (bytes line rest : List ℕ) → list_all is_inner line ≡ true → bytes ≡ line ++ 10 ∷ rest → CutsLine bytes line rest
cuts-behind bytes line rest all e =
    subst (λ b. CutsLine b line rest) (sym e)
    (record {
      taken = length line + 1;
      kept = length line;
      some = omega arith;
      within = omega (arith, length-append line (10 ∷ rest));
      fits = omega arith;
      ended = inl (ap (λ n. get_or (line ++ 10 ∷ rest) n 0) (omega arith) ∙ get_or_at line 10 rest 0 (length line) refl);
      line_is = sym (take_at line (10 ∷ rest) (length line) refl);
      rest_is = sym (drop-append-add line (10 ∷ rest) 1);
      lines = lines-behind line rest all;
    })
