-- Blanks as they print, and behind them the sign and the digits, which print as they are.
use Rattle.std.proofs.Common.{◌≡◌, ℕ, zero, suc, ◌+◌, ◌/◌, ◌%◌, ◌<◌, ◌≤◌, Bool, true, false, cond, ◌&&◌, ◌||◌, nat_le, nat_lt, ◌==◌, List, [], ◌∷◌, ◌++◌, length, take, drop, Option, Some, None, refl, sym, ap, ap₂, ◌∙◌, arith, eqb-true, ⊎_elim, length-append}
use Rattle.std.specs.List.{prefix_len, list_all}
use Rattle.std.specs.Option.{option_map}
use Rattle.std.proofs.lemmas.Bool.{and_parts, and_from, or_cases, leb-true, le-leb, ltb-true, ltb-false, lt-ltb, eq-eqb, ne_eqb, false≢true, false_from_ne_true}
use Rattle.std.proofs.lemmas.List.{drop_at}
use Rattle.std.proofs.lemmas.List.Folds.{length-prefix_len}
use Rattle.tb_tree.specs.Printed.{octal, escaped_byte, escaped}
use Rattle.tb_tree.specs.Written.{is_plain}
use Rattle.tb_tree.proofs.PrintLaws.{plain-byte}
use Rattle.tb_number.specs.IntText.{is_blank, is_digit}
use Rattle.tb_number.specs.Reading.{without_blanks, begins_with_minus, without_sign, signed_digits, behind_digits}
use Rattle.tb_label.specs.PrintedKeys.{is_blank_octal, printed_blank, number_in}

first-false : (a c : Bool) → (a || c) ≡ false → a ≡ false
first-false true c e = e
first-false false c e = refl

second-false : (a c : Bool) → (a || c) ≡ false → c ≡ false
second-false true c e = absurd (false≢true (sym e))
second-false false c e = e

-- A blank prints as a space or as an escape, and nothing else does.
abbrev BlankRead : ℕ → List ℕ → Type 0
BlankRead b rest = printed_blank (escaped_byte b ++ rest) ≡ cond (is_blank b) (length (escaped_byte b)) 0

octal-blank : (b : ℕ) → b < 128 → (b == 9) ≡ false → (b == 13) ≡ false → (rest : List ℕ)
    → ((48 + b / 64 == 48) && is_blank_octal ((48 + b / 8 % 8) ∷ (48 + b % 8) ∷ rest)) ≡ false
octal-blank b low nine thirteen rest =
    false_from_ne_true ((48 + b / 64 == 48) && is_blank_octal ((48 + b / 8 % 8) ∷ (48 + b % 8) ∷ rest))
    (λ e.
    let p = and_parts (48 + b / 64 == 48) (is_blank_octal ((48 + b / 8 % 8) ∷ (48 + b % 8) ∷ rest)) e in
    let q = and_parts (48 + b / 8 % 8 == 49) (48 + b % 8 == 49 || 48 + b % 8 == 53) p.1 in
    let first = eqb-true (48 + b / 64) 48 p.0 in
    let second = eqb-true (48 + b / 8 % 8) 49 q.0 in
    ⊎_elim
    (λ t. no-number b 9 nine (omega (arith, low, first, second, eqb-true (48 + b % 8) 49 t)))
    (λ r. no-number b 13 thirteen (omega (arith, low, first, second, eqb-true (48 + b % 8) 53 r)))
    (or_cases (48 + b % 8 == 49) (48 + b % 8 == 53) q.1))
  where
    no-number : (b n : ℕ) → (b == n) ≡ false → b ≡ n → ⊥
    no-number b n is e = false≢true (sym is ∙ eq-eqb b n e)

low-read : (b : ℕ) (rest : List ℕ) → b < 128 → (b == 10) ≡ false → (b == 32) ≡ false → (nine thirteen : Bool) → (b == 9) ≡ nine → (b == 13) ≡ thirteen
    → printed_blank (octal b ++ rest) ≡ cond (is_blank b) 4 0
low-read b rest low ten space true thirteen n t = rw (eqb-true b 9 n) refl
low-read b rest low ten space false true n t = rw (eqb-true b 13 t) refl
low-read b rest low ten space false false n t =
    rw (n, ten, t, space, ne_eqb (48 + b / 64) 110 (λ e. omega (arith, e, low)), octal-blank b low n t rest) refl

blank-byte : (b : ℕ) (rest : List ℕ) → BlankRead b rest
blank-byte b rest = by_case (b == 92) (b == 10) (nat_lt b 32 || b == 127) refl refl refl
  where
    control : (nat_lt b 32 || b == 127) ≡ true → (b < 128) × ((b == 32) ≡ false)
    control e =
        ⊎_elim (λ low. let l = ltb-true b 32 low in (omega (arith, l), ne_eqb b 32 (λ is. omega (arith, is, l))))
        (λ last. let l = eqb-true b 127 last in (omega (arith, l), ne_eqb b 32 (λ is. omega (arith, is, l)))) (or_cases (nat_lt b 32) (b == 127) e)

    by_case : (backslash ten low : Bool) → (b == 92) ≡ backslash → (b == 10) ≡ ten → (nat_lt b 32 || b == 127) ≡ low → BlankRead b rest
    by_case true ten low is e f = rw (eqb-true b 92 is) refl
    by_case false true low is e f = rw (eqb-true b 10 e) refl
    by_case false false true is e f =
        let octal_is : escaped_byte b ≡ octal b = rw (is, e, f) refl in
        ap (λ x. printed_blank (x ++ rest)) octal_is ∙ low-read b rest (control f).0 e (control f).1 (b == 9) (b == 13) refl refl
        ∙ ap (λ x. cond (is_blank b) (length x) 0) (sym octal_is)
    by_case false false false is e f =
        let high : 32 ≤ b = ltb-false b 32 (first-false (nat_lt b 32) (b == 127) f) in
        rw (is, e, f, ne_eqb b 9 (λ n. omega (arith, n, high)), ne_eqb b 13 (λ n. omega (arith, n, high)), is) refl

byte-some : (b : ℕ) → 0 < length (escaped_byte b)
byte-some b = by_case (b == 92) (b == 10) (nat_lt b 32 || b == 127) refl refl refl
  where
    by_case : (backslash ten low : Bool) → (b == 92) ≡ backslash → (b == 10) ≡ ten → (nat_lt b 32 || b == 127) ≡ low → 0 < length (escaped_byte b)
    by_case true ten low is e f = rw is (omega arith)
    by_case false true low is e f = rw (is, e) (omega arith)
    by_case false false true is e f = rw (is, e, f) (omega arith)
    by_case false false false is e f = rw (is, e, f) (omega arith)

-- One blank is passed.
blank-skip : (b : ℕ) (bytes : List ℕ) → is_blank b ≡ true → without_blanks (b ∷ bytes) ≡ without_blanks bytes
blank-skip b bytes is =
    let more : 1 + prefix_len is_blank bytes ≡ suc (prefix_len is_blank bytes) = omega arith in
    rw (is, more) refl

blank-stop : (b : ℕ) (bytes : List ℕ) → is_blank b ≡ false → without_blanks (b ∷ bytes) ≡ b ∷ bytes
blank-stop b bytes is = rw is refl

-- what is left behind blanks that stand first
abbrev pub Left : List ℕ → List ℕ → Type 0
Left rest value = (left : List ℕ) × (rest ≡ escaped left) × (without_blanks left ≡ without_blanks value)

step-by : (b : ℕ) (left : List ℕ) (len : ℕ) (is : Bool) → is_blank b ≡ is → len ≡ cond is (length (escaped_byte b)) 0 → 0 < len
    → (drop len (escaped (b ∷ left)) ≡ escaped left) × (without_blanks left ≡ without_blanks (b ∷ left))
step-by b left len true is e some = (drop_at (escaped_byte b) (escaped left) len (sym e), sym (blank-skip b left is))
step-by b left len false is e some = absurd (omega (arith, e, some))

pub blank-passed : (rest value : List ℕ) (len : ℕ) → len ≡ printed_blank rest → 0 < len → Left rest value → Left (drop len rest) value
blank-passed rest value len e some ([], is, same) = absurd (omega (arith, e ∙ ap printed_blank is, some))
blank-passed rest value len e some (b ∷ left, is, same) =
    let next = step-by b left len (is_blank b) refl (e ∙ ap printed_blank is ∙ blank-byte b (escaped left)) some in
    (left, ap (drop len) is ∙ next.0, next.1 ∙ same)

-- No blank stands first.
end-by : (b : ℕ) (left : List ℕ) (is : Bool) → is_blank b ≡ is → cond is (length (escaped_byte b)) 0 ≡ 0 → without_blanks (b ∷ left) ≡ b ∷ left
end-by b left true is e = absurd (omega (arith, e, byte-some b))
end-by b left false is e = blank-stop b left is

pub blanks-end : (rest value : List ℕ) → printed_blank rest ≡ 0 → Left rest value → rest ≡ escaped (without_blanks value)
blanks-end rest value e ([], is, same) = is ∙ ap escaped same
blanks-end rest value e (b ∷ left, is, same) =
    is ∙ ap escaped (sym (end-by b left (is_blank b) refl (sym (blank-byte b (escaped left)) ∙ sym (ap printed_blank is) ∙ e)) ∙ same)

pub blank-fits : (rest : List ℕ) → 0 < printed_blank rest → 0 < length rest
blank-fits [] some = some
blank-fits (b ∷ rest) some = omega arith

-- A byte that prints as it is, or with a backslash before it.
plain-first : (b : ℕ) (bytes : List ℕ) → is_plain b ≡ true → escaped (b ∷ bytes) ≡ b ∷ escaped bytes
plain-first b bytes plain = ap (λ l. l ++ escaped bytes) (plain-byte b plain)

escaped-first : (b : ℕ) → is_plain b ≡ false → (more : List ℕ) × (escaped_byte b ≡ 92 ∷ more)
escaped-first b plain = by_case (b == 92) (b == 10) (nat_lt b 32 || b == 127) refl refl refl
  where
    by_case : (backslash ten low : Bool) → (b == 92) ≡ backslash → (b == 10) ≡ ten → (nat_lt b 32 || b == 127) ≡ low → (more : List ℕ) × (escaped_byte b ≡ 92 ∷ more)
    by_case true ten low is e f = (92 ∷ [], rw is refl)
    by_case false true low is e f = (110 ∷ [], rw (is, e) refl)
    by_case false false true is e f = ((48 + b / 64) ∷ (48 + b / 8 % 8) ∷ (48 + b % 8) ∷ [], rw (is, e, f) refl)
    by_case false false false is e f =
        let high : 32 ≤ b = ltb-false b 32 (first-false (nat_lt b 32) (b == 127) f) in
        absurd (false≢true (sym plain ∙ rw (le-leb 32 b high, second-false (nat_lt b 32) (b == 127) f, is) refl))

-- a test that only bytes pass which print as they are
abbrev Plainly : (ℕ → Bool) → Type 0
Plainly test = (b : ℕ) → test b ≡ true → is_plain b ≡ true

not-plainly : (test : ℕ → Bool) → Plainly test → (b : ℕ) → is_plain b ≡ false → test b ≡ false
not-plainly test plainly b plain = false_from_ne_true (test b) (λ e. false≢true (sym plain ∙ plainly b e))

minus-plainly : Plainly (λ b. b == 45)
minus-plainly b e = rw (eqb-true b 45 e) refl

sign-plainly : Plainly (λ b. b == 43 || b == 45)
sign-plainly b e = ⊎_elim (λ p. rw (eqb-true b 43 p) refl) (λ m. rw (eqb-true b 45 m) refl) (or_cases (b == 43) (b == 45) e)

digit-plainly : Plainly is_digit
digit-plainly b e =
    let parts = and_parts (nat_le 48 b) (nat_le b 57) e in
    let low = leb-true 48 b parts.0 in
    let high = leb-true b 57 parts.1 in
    rw (le-leb 32 b (omega (arith, low)), ne_eqb b 127 (λ is. omega (arith, is, high)), ne_eqb b 92 (λ is. omega (arith, is, high))) refl

-- The sign prints as it is.
pub minus-printed : (text : List ℕ) → begins_with_minus (escaped text) ≡ begins_with_minus text
minus-printed [] = refl
minus-printed (b ∷ text) = by (is_plain b) refl
  where
    by : (plain : Bool) → is_plain b ≡ plain → begins_with_minus (escaped (b ∷ text)) ≡ begins_with_minus (b ∷ text)
    by true is = ap begins_with_minus (plain-first b text is)
    by false is =
        let f = escaped-first b is in
        ap (λ l. begins_with_minus (l ++ escaped text)) f.1 ∙ sym (not-plainly (λ c. c == 45) minus-plainly b is)

signed-by : (b : ℕ) (text : List ℕ) (sign : Bool) → (b == 43 || b == 45) ≡ sign → without_sign (b ∷ escaped text) ≡ cond sign (escaped text) (b ∷ escaped text)
signed-by b text sign is = ap (λ s. cond s (escaped text) (b ∷ escaped text)) is

pub sign-printed : (text : List ℕ) → without_sign (escaped text) ≡ escaped (without_sign text)
sign-printed [] = refl
sign-printed (b ∷ text) = by (is_plain b) (b == 43 || b == 45) refl refl
  where
    by : (plain sign : Bool) → is_plain b ≡ plain → (b == 43 || b == 45) ≡ sign → without_sign (escaped (b ∷ text)) ≡ escaped (without_sign (b ∷ text))
    by true true is s = ap without_sign (plain-first b text is) ∙ rw s refl
    by true false is s = ap without_sign (plain-first b text is) ∙ rw s (sym (plain-first b text is))
    by false sign is s =
        let f = escaped-first b is in
        ap (λ l. without_sign (l ++ escaped text)) f.1 ∙ sym (ap (λ l. l ++ escaped text) f.1)
        ∙ ap (λ t. escaped (cond t text (b ∷ text))) (sym (not-plainly (λ c. c == 43 || c == 45) sign-plainly b is))

-- The digits print as they are, and what is behind them as it does.
record Splits (text : List ℕ) : Type 0 where
  len : prefix_len is_digit (escaped text) ≡ prefix_len is_digit text
  digits : take (prefix_len is_digit text) (escaped text) ≡ take (prefix_len is_digit text) text
  behind : drop (prefix_len is_digit text) (escaped text) ≡ escaped (drop (prefix_len is_digit text) text)

no-digit : (b : ℕ) (text : List ℕ) → is_digit b ≡ false → prefix_len is_digit (escaped (b ∷ text)) ≡ 0
no-digit b text d = by (is_plain b) refl
  where
    by : (plain : Bool) → is_plain b ≡ plain → prefix_len is_digit (escaped (b ∷ text)) ≡ 0
    by true is = ap (prefix_len is_digit) (plain-first b text is) ∙ ap (λ c. cond c (1 + prefix_len is_digit (escaped text)) 0) d
    by false is = ap (λ l. prefix_len is_digit (l ++ escaped text)) (escaped-first b is).1

splits-by : (b : ℕ) (text : List ℕ) (digit : Bool) → is_digit b ≡ digit → Splits text → Splits (b ∷ text)
splits-by b text true d s =
    let m = prefix_len is_digit text in
    let first = plain-first b text (digit-plainly b d) in
    let more : 1 + m ≡ suc m = omega arith in
    let here : prefix_len is_digit (b ∷ text) ≡ suc m = ap (λ c. cond c (1 + m) 0) d ∙ more in
    record {
      len = ap (prefix_len is_digit) first ∙ ap (λ k. cond (is_digit b) (1 + k) 0) s.len;
      digits = ap₂ take here first ∙ ap (λ l. b ∷ l) s.digits ∙ sym (ap (λ k. take k (b ∷ text)) here);
      behind = ap₂ drop here first ∙ s.behind ∙ sym (ap (λ k. escaped (drop k (b ∷ text))) here);
    }
splits-by b text false d s =
    let here : prefix_len is_digit (b ∷ text) ≡ 0 = ap (λ c. cond c (1 + prefix_len is_digit text) 0) d in
    record {
      len = no-digit b text d ∙ sym here;
      digits = ap (λ k. take k (escaped (b ∷ text))) here ∙ sym (ap (λ k. take k (b ∷ text)) here);
      behind = ap (λ k. drop k (escaped (b ∷ text))) here ∙ sym (ap (λ k. escaped (drop k (b ∷ text))) here);
    }

splits : (text : List ℕ) → Splits text
splits [] = record { len = refl; digits = refl; behind = refl }
splits (b ∷ text) = splits-by b text (is_digit b) refl (splits text)

pub digits-printed : (text : List ℕ) → signed_digits (escaped text) ≡ signed_digits text
digits-printed text =
    let u = without_sign text in
    let s = splits u in
    ap (λ l. take (prefix_len is_digit l) l) (sign-printed text) ∙ ap (λ k. take k (escaped u)) s.len ∙ s.digits

pub behind-printed : (text : List ℕ) → behind_digits (escaped text) ≡ escaped (behind_digits text)
behind-printed text =
    let u = without_sign text in
    let s = splits u in
    ap (λ l. drop (prefix_len is_digit l) l) (sign-printed text) ∙ ap (λ k. drop k (escaped u)) s.len ∙ s.behind

-- Where there is a digit, and blanks alone are behind, the text is an integer text.
escaped-none : (v : List ℕ) → length (escaped v) ≡ 0 → v ≡ []
escaped-none [] e = refl
escaped-none (b ∷ v) e = absurd (omega (arith, e, byte-some b, length-append (escaped_byte b) (escaped v)))

blank-by : (b : ℕ) (v : List ℕ) (is : Bool) → is_blank b ≡ is → (without_blanks v ≡ [] → list_all is_blank v ≡ true) → without_blanks (b ∷ v) ≡ [] → list_all is_blank (b ∷ v) ≡ true
blank-by b v true is rest none = and_from (is_blank b) (list_all is_blank v) is (rest (sym (blank-skip b v is) ∙ none))
blank-by b v false is rest none = absurd (omega (arith, ap length (sym (blank-stop b v is) ∙ none)))

all-blank : (v : List ℕ) → without_blanks v ≡ [] → list_all is_blank v ≡ true
all-blank [] none = refl
all-blank (b ∷ v) none = blank-by b v (is_blank b) refl (all-blank v) none

blank-none : (v : List ℕ) → list_all is_blank v ≡ true → without_blanks v ≡ []
blank-none [] all = refl
blank-none (b ∷ v) all =
    let parts = and_parts (is_blank b) (list_all is_blank v) all in
    blank-skip b v parts.0 ∙ blank-none v parts.1

-- no digit, or another byte behind the digits
none-by : (text : List ℕ) (some all : Bool) → nat_lt 0 (prefix_len is_digit (without_sign text)) ≡ some → list_all is_blank (behind_digits text) ≡ all → (some && all) ≡ false → number_in text ≡ None
none-by text some all p q e =
    ap (λ c. option_map (λ digits. (begins_with_minus text, digits)) (cond c (Some (signed_digits text)) None)) (ap₂ (λ x y. x && y) p q ∙ e)

and-false : (a : Bool) → (a && false) ≡ false
and-false true = refl
and-false false = refl

pub number-no_digit : (text digits : List ℕ) → digits ≡ signed_digits text → length digits ≡ 0 → None ≡ number_in text
number-no_digit text digits is none =
    let len : prefix_len is_digit (without_sign text) ≡ 0 = sym (length-prefix_len is_digit (without_sign text)) ∙ sym (ap length is) ∙ none in
    sym (none-by text false (list_all is_blank (behind_digits text)) (ap (nat_lt 0) len) refl refl)

pub number-more : (text behind : List ℕ) → behind ≡ escaped (without_blanks (behind_digits text)) → (length behind ≡ 0 → ⊥) → None ≡ number_in text
number-more text behind is some =
    let digits : Bool = nat_lt 0 (prefix_len is_digit (without_sign text)) in
    let stops : list_all is_blank (behind_digits text) ≡ false =
    false_from_ne_true (list_all is_blank (behind_digits text)) (λ all. some (ap length (is ∙ ap escaped (blank-none (behind_digits text) all)))) in
    sym (none-by text digits false refl stops (and-false digits))

positive : (n : ℕ) → (n ≡ 0 → ⊥) → 0 < n
positive zero none = absurd (none refl)
positive (suc n) none = omega arith

pub number-some : (text digits behind : List ℕ) (minus : Bool) → minus ≡ begins_with_minus text → digits ≡ signed_digits text → behind ≡ escaped (without_blanks (behind_digits text))
    → (length digits ≡ 0 → ⊥) → length behind ≡ 0 → ◌≡◌ {A = Option (Bool × List ℕ)} (Some (minus, digits)) (number_in text)
number-some text digits behind minus m is then some none =
    let u = without_sign text in
    let len : 0 < prefix_len is_digit u = positive (prefix_len is_digit u) (λ z. some (ap length is ∙ length-prefix_len is_digit u ∙ z)) in
    let all : list_all is_blank (behind_digits text) ≡ true = all-blank (behind_digits text) (escaped-none (without_blanks (behind_digits text)) (sym (ap length then) ∙ none)) in
    let test : (nat_lt 0 (prefix_len is_digit u) && list_all is_blank (behind_digits text)) ≡ true = and_from _ _ (lt-ltb 0 (prefix_len is_digit u) len) all in
    ap₂ (λ a b. Some (a, b)) m is ∙ sym (ap (λ c. option_map (λ ds. (begins_with_minus text, ds)) (cond c (Some (signed_digits text)) None)) test)
