-- Lines with their ends. They are the text, cut; without their ends they are its lines; and the cut of
-- the next line is the first of them.
use Rattle.std.proofs.Common.{◌≡◌, ℕ, zero, suc, ◌+◌, ◌-◌, ◌<◌, ◌≤◌, ◌⊎◌, inl, inr, Bool, true, false, ◌&&◌, ◌==◌, List, [], ◌∷◌, map, length, take, drop, slice_index, refl, sym, ap, ◌∙◌, arith, eqb-true, eq-eqb, take-append-drop}
use Rattle.std.specs.List.{flat_map}
use Rattle.std.proofs.lemmas.Bool.{false≢true}
use Rattle.std.proofs.lemmas.List.{length-map, length-drop}
use Rattle.tb_tree.specs.TextLines.{lines_in, before_first, begins_with_end, CutsLine}
use Rattle.tb_script.specs.Cuts.{CutsFirst}
use Rattle.tb_script.specs.Lines.{whole_lines, text_of}
use Rattle.tb_tree.proofs.lists.Parts.{first-same}
use Rattle.tb_tree.proofs.lists.Bools.{and-second}

-- the first line begins with a line's end
abbrev starts : List (List ℕ) → Bool
starts [] = false
starts (line ∷ lines) = begins_with_end line

starts-before_first : (b : ℕ) (lines : List (List ℕ)) → starts (before_first b lines) ≡ (b == 10)
starts-before_first b [] = refl
starts-before_first b (line ∷ lines) = refl

starts-whole : (bs : List ℕ) → starts (whole_lines bs) ≡ begins_with_end bs
starts-whole [] = refl
starts-whole (b ∷ bs) = by (b == 10) refl
  where
    by : (t : Bool) → (b == 10) ≡ t → starts (whole_lines (b ∷ bs)) ≡ (b == 10)
    by true e = rw e refl
    by false e = rw e (starts-before_first b (whole_lines bs) ∙ e)

text-before_first : (b : ℕ) (lines : List (List ℕ)) → (b == 10) ≡ false → (b == 13 && starts lines) ≡ false
    → map text_of (before_first b lines) ≡ before_first b (map text_of lines)
text-before_first b [] e f = rw (e, f) refl
text-before_first b (line ∷ lines) e f = rw (e, f) refl

text-return : (b : ℕ) (bs : List ℕ) → (b == 10) ≡ false → (b == 13 && begins_with_end bs) ≡ true
    → map text_of (whole_lines bs) ≡ lines_in bs → map text_of (before_first b (whole_lines bs)) ≡ lines_in bs
text-return b [] e f ih = absurd (false≢true (and-second (b == 13) false f))
text-return b (c ∷ cs) e f ih =
    let g : (c == 10) ≡ true = and-second (b == 13) (c == 10) f in
    let h : (b == 13 && true) ≡ true = rw g at f in
    rw (g, e, h) (rw g at ih)

-- Without their ends they are the lines of the text.
pub text-whole : (bs : List ℕ) → map text_of (whole_lines bs) ≡ lines_in bs
text-whole [] = refl
text-whole (b ∷ bs) = by (b == 10) (b == 13 && begins_with_end bs) refl refl (text-whole bs)
  where
    by : (t r : Bool) → (b == 10) ≡ t → (b == 13 && begins_with_end bs) ≡ r → map text_of (whole_lines bs) ≡ lines_in bs
        → map text_of (whole_lines (b ∷ bs)) ≡ lines_in (b ∷ bs)
    by true r e f ih = rw e (ap (λ ls. [] ∷ ls) ih)
    by false true e f ih = rw (e, f) (text-return b bs e f ih)
    by false false e f ih = rw (e, f) (text-before_first b (whole_lines bs) e (ap (λ s. b == 13 && s) (starts-whole bs) ∙ f) ∙ ap (before_first b) ih)

joined-before_first : (b : ℕ) (lines : List (List ℕ)) → flat_map (λ l. l) (before_first b lines) ≡ b ∷ flat_map (λ l. l) lines
joined-before_first b [] = refl
joined-before_first b (line ∷ lines) = refl

-- The lines with their ends are the whole text.
pub joined-whole : (bs : List ℕ) → flat_map (λ l. l) (whole_lines bs) ≡ bs
joined-whole [] = refl
joined-whole (b ∷ bs) = by (b == 10) refl (joined-whole bs)
  where
    by : (t : Bool) → (b == 10) ≡ t → flat_map (λ l. l) (whole_lines bs) ≡ bs → flat_map (λ l. l) (whole_lines (b ∷ bs)) ≡ b ∷ bs
    by true e ih = rw e (ap (λ l. 10 ∷ l) ih ∙ ap (λ c. c ∷ bs) (sym (eqb-true b 10 e)))
    by false e ih = rw e (joined-before_first b (whole_lines bs) ∙ ap (λ l. b ∷ l) ih)

-- how many lines there are
abbrev count : List ℕ → ℕ
count bs = length (whole_lines bs)

more-before_first : (b : ℕ) (lines : List (List ℕ)) → length lines ≤ length (before_first b lines)
more-before_first b [] = omega arith
more-before_first b (line ∷ lines) = omega arith

pub same-before_first : (b : ℕ) (lines : List (List ℕ)) → 0 < length lines → length (before_first b lines) ≡ length lines
same-before_first b [] some = absurd (omega (arith, some))
same-before_first b (line ∷ lines) some = refl

-- a line ends at this place
abbrev EndsAt : ℕ → List ℕ → Type 0
EndsAt t bs = (slice_index bs t ≡ 10) ⊎ (t + 1 ≡ length bs)

later : (b : ℕ) (bs : List ℕ) (t : ℕ) → EndsAt (suc t) (b ∷ bs) → EndsAt t bs
later b bs t (inl e) = inl e
later b bs t (inr e) = inr (omega (arith, e))

-- a line that ends at its first byte, which is no byte 10, is the last
alone : (b : ℕ) (bs : List ℕ) → (b == 10) ≡ false → EndsAt zero (b ∷ bs) → bs ≡ []
alone b bs e (inl f) = absurd (false≢true (sym e ∙ eq-eqb b 10 f))
alone b [] e (inr f) = refl
alone b (c ∷ cs) e (inr f) = absurd (omega (arith, f))

fewer : (bs : List ℕ) (t : ℕ) → t < length bs → EndsAt t bs → count (drop (suc t) bs) + 1 ≤ count bs
fewer [] t within end = absurd (omega (arith, within))
fewer (b ∷ bs) t within end = by t (b == 10) refl within end (λ u w d. fewer bs u w d)
  where
    by : (t : ℕ) (x : Bool) → (b == 10) ≡ x → t < length (b ∷ bs) → EndsAt t (b ∷ bs)
        → ((u : ℕ) → u < length bs → EndsAt u bs → count (drop (suc u) bs) + 1 ≤ count bs)
        → count (drop (suc t) (b ∷ bs)) + 1 ≤ count (b ∷ bs)
    by zero true e within end ih = rw e (omega arith)
    by zero false e within end ih = rw (e, alone b bs e end) (omega arith)
    by (suc t) true e within end ih = rw e (omega (arith, ih t (omega (arith, within)) (later b bs t end)))
    by (suc t) false e within end ih = rw e (omega (arith, ih t (omega (arith, within)) (later b bs t end), more-before_first b (whole_lines bs)))

cut : (bs : List ℕ) (t : ℕ) → t < length bs → EndsAt t bs → count bs ≡ 1 + count (drop (suc t) bs)
    → whole_lines bs ≡ take (suc t) bs ∷ whole_lines (drop (suc t) bs)
cut [] t within end one = absurd (omega (arith, within))
cut (b ∷ bs) t within end one = by t (b == 10) refl within end one (λ u w d o. cut bs u w d o)
  where
    by : (t : ℕ) (x : Bool) → (b == 10) ≡ x → t < length (b ∷ bs) → EndsAt t (b ∷ bs) → count (b ∷ bs) ≡ 1 + count (drop (suc t) (b ∷ bs))
        → ((u : ℕ) → u < length bs → EndsAt u bs → count bs ≡ 1 + count (drop (suc u) bs) → whole_lines bs ≡ take (suc u) bs ∷ whole_lines (drop (suc u) bs))
        → whole_lines (b ∷ bs) ≡ take (suc t) (b ∷ bs) ∷ whole_lines (drop (suc t) (b ∷ bs))
    by zero true e within end one ih = rw e (ap (λ c. (c ∷ []) ∷ whole_lines bs) (sym (eqb-true b 10 e)))
    by zero false e within end one ih = rw (e, alone b bs e end) refl
    by (suc t) true e within end one ih =
        let less = fewer bs t (omega (arith, within)) (later b bs t end) in
        let o : suc (count bs) ≡ 1 + count (drop (suc t) bs) = rw e at one in
        absurd (omega (arith, less, o))
    by (suc t) false e within end one ih =
        let less = fewer bs t (omega (arith, within)) (later b bs t end) in
        let o : length (before_first b (whole_lines bs)) ≡ 1 + count (drop (suc t) bs) = rw e at one in
        let same = same-before_first b (whole_lines bs) (omega (arith, less)) in
        rw e (ap (before_first b) (ih t (omega (arith, within)) (later b bs t end) (sym same ∙ o)))

-- What a cut of the next line says of the lines with their ends.
pub record CutsWhole (bytes line rest : List ℕ) (taken : ℕ) : Type 0 where
  pub some : 0 < taken
  pub within : taken ≤ length bytes
  pub rest_is : rest ≡ drop taken bytes
  pub lines : whole_lines bytes ≡ take taken bytes ∷ whole_lines rest
  pub line_is : line ≡ text_of (take taken bytes)

ends_at : (n : ℕ) (bytes : List ℕ) → (slice_index bytes (suc n - 1) ≡ 10) ⊎ (suc n ≡ length bytes) → EndsAt n bytes
ends_at n bytes (inl e) = let one : suc n - 1 ≡ n = omega arith in inl (rw one at e)
ends_at n bytes (inr e) = inr (omega (arith, e))

counted : (bytes line rest : List ℕ) → lines_in bytes ≡ line ∷ lines_in rest → count bytes ≡ 1 + count rest
counted bytes line rest e =
    let same = ap length (text-whole bytes ∙ e ∙ ap (λ ls. line ∷ ls) (sym (text-whole rest))) in
    omega (arith, same, length-map (whole_lines bytes) text_of, length-map (whole_lines rest) text_of)

pub cuts-whole : (bytes line rest : List ℕ) (c : CutsLine bytes line rest) → CutsWhole bytes line rest c.taken
cuts-whole bytes line rest c = by c.taken c.some c.within c.ended c.rest_is
  where
    by : (n : ℕ) → 0 < n → n ≤ length bytes → (slice_index bytes (n - 1) ≡ 10) ⊎ (n ≡ length bytes) → rest ≡ drop n bytes → CutsWhole bytes line rest n
    by zero some within ended is = absurd (omega (arith, some))
    by (suc n) some within ended is =
        let one = counted bytes line rest c.lines ∙ ap (λ r. 1 + count r) is in
        let first = cut bytes n (omega (arith, within)) (ends_at n bytes ended) one in
        let text = sym (text-whole bytes ∙ c.lines) ∙ ap (map text_of) first in
        record {
          some = some;
          within = within;
          rest_is = is;
          lines = first ∙ ap (λ r. take (suc n) bytes ∷ whole_lines r) (sym is);
          line_is = first-same line (text_of (take (suc n) bytes)) _ _ text;
        }

-- The cut of the next line, with what stands behind it.
pub cut_first : (bytes line rest : List ℕ) → CutsLine bytes line rest → CutsFirst bytes (record { line = line; whole = take (length bytes - length rest) bytes; rest = rest })
cut_first bytes line rest c =
    let w = cuts-whole bytes line rest c in
    let long : length rest ≡ length bytes - c.taken = ap length w.rest_is ∙ length-drop c.taken bytes in
    let taken : length bytes - length rest ≡ c.taken = omega (arith, long, w.within) in
    record {
      shorter = omega (arith, long, w.within, w.some);
      joined = rw (taken, w.rest_is) (sym (take-append-drop c.taken bytes));
      lines = rw taken w.lines;
      line_is = rw taken w.line_is;
    }
