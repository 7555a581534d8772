-- Bytes that are escaped and read again are the same bytes, and their escapes stand within one line.
use Rattle.std.proofs.Common.{◌≡◌, ℕ, ◌+◌, ◌*◌, ◌/◌, ◌%◌, ◌<◌, ◌≤◌, Bool, true, false, ◌&&◌, ◌||◌, not, nat_le, nat_lt, ◌==◌, List, [], ◌∷◌, ◌++◌, Some, refl, ap, ◌∙◌, arith, eqb-true, ⊎_elim}
use Rattle.std.specs.List.{list_all}
use Rattle.std.specs.Option.{option_map}
use Rattle.std.proofs.lemmas.Bool.{and_parts, and_from, or_parts, or_cases, le-leb, leb-true, ltb-true, ltb-false, ne_eqb, not_from_false}
use Rattle.std.proofs.lemmas.List.Folds.{list_all-append}
use Rattle.tb_tree.specs.Names.{is_name_byte}
use Rattle.tb_tree.specs.Printed.{octal, escaped_byte, escaped}
use Rattle.tb_tree.specs.Escapes.{is_octal, octal_number, escape_of, unescaped}

-- three octal digits
is_octal-digit : (d : ℕ) → d ≤ 7 → is_octal (48 + d) ≡ true
is_octal-digit d h = and_from _ _ (le-leb 48 (48 + d) (omega arith)) (le-leb (48 + d) 55 (omega (arith, h)))

not_digit : (d c : ℕ) → d ≤ 7 → 55 < c → (48 + d == c) ≡ false
not_digit d c h k = ne_eqb (48 + d) c (λ e. omega (arith, e, h, k))

octal_number-digits : (p q r b : ℕ) → (p * 8 + q) * 8 + r ≡ b → octal_number (48 + p) (48 + q) (48 + r) ≡ b
octal_number-digits p q r b is = omega (arith, is)

escape_of-digits : (p q r b : ℕ) (rest : List ℕ) → p ≤ 7 → q ≤ 7 → r ≤ 7 → (p * 8 + q) * 8 + r ≡ b → b ≤ 255 → (b == 10) ≡ false
    → escape_of ((48 + p) ∷ (48 + q) ∷ (48 + r) ∷ rest) ≡ Some (record { gives = b ∷ []; takes = 3 })
escape_of-digits p q r b rest hp hq hr is small ten =
    rw (
      not_digit p 92 hp (omega arith),
      not_digit p 110 hp (omega arith),
      not_digit p 124 hp (omega arith),
      ne_eqb (48 + p) 35 (λ e. omega (arith, e)),
      is_octal-digit p hp,
      is_octal-digit q hq,
      is_octal-digit r hr,
      octal_number-digits p q r b is,
      le-leb b 255 small,
      ten,
    ) refl

unescaped-octal : (b : ℕ) (rest : List ℕ) → b ≤ 255 → (b == 10) ≡ false → unescaped (octal b ++ rest) ≡ option_map (λ given. b ∷ given) (unescaped rest)
unescaped-octal b rest small ten =
    rw (escape_of-digits (b / 64) (b / 8 % 8) (b % 8) b rest (omega (arith, small)) (omega arith) (omega arith) (omega arith) small ten) refl

-- one byte
unescaped-byte : (b : ℕ) (rest : List ℕ) → unescaped (escaped_byte b ++ rest) ≡ option_map (λ given. b ∷ given) (unescaped rest)
unescaped-byte b rest = by_case (b == 92) (b == 10) (nat_lt b 32 || b == 127) refl refl refl
  where
    control : (nat_lt b 32 || b == 127) ≡ true → b ≤ 255
    control e = ⊎_elim (λ low. omega (arith, ltb-true b 32 low)) (λ last. omega (arith, eqb-true b 127 last)) (or_cases (nat_lt b 32) (b == 127) e)

    by_case : (backslash ten low : Bool) → (b == 92) ≡ backslash → (b == 10) ≡ ten → (nat_lt b 32 || b == 127) ≡ low
        → unescaped (escaped_byte b ++ rest) ≡ option_map (λ given. b ∷ given) (unescaped rest)
    by_case true ten low is e f = rw (eqb-true b 92 is) refl
    by_case false true low is e f = rw (eqb-true b 10 e) refl
    by_case false false true is e f = rw (is, e, f) (unescaped-octal b rest (control f) e)
    by_case false false false is e f = rw (is, e, f, is) refl

-- Escaped bytes are read as they were.
pub unescaped-escaped : (value : List ℕ) → unescaped (escaped value) ≡ Some value
unescaped-escaped [] = refl
unescaped-escaped (b ∷ value) = unescaped-byte b (escaped value) ∙ ap (option_map (λ given. b ∷ given)) (unescaped-escaped value)

-- a byte that ends no line and isn't dropped before a line's end
abbrev pub is_inner : ℕ → Bool
is_inner b = not (b == 10) && not (b == 13)

high-inner : (b : ℕ) → 13 < b → is_inner b ≡ true
high-inner b h = and_from _ _ (not_from_false (b == 10) (ne_eqb b 10 (λ e. omega (arith, e, h)))) (not_from_false (b == 13) (ne_eqb b 13 (λ e. omega (arith, e, h))))

octal-inner : (b : ℕ) → list_all is_inner (octal b) ≡ true
octal-inner b = rw (high-inner (48 + b / 64) (omega arith), high-inner (48 + b / 8 % 8) (omega arith), high-inner (48 + b % 8) (omega arith)) refl

escaped_byte-inner : (b : ℕ) → list_all is_inner (escaped_byte b) ≡ true
escaped_byte-inner b = by_case (b == 92) (b == 10) (nat_lt b 32 || b == 127) refl refl refl
  where
    by_case : (backslash ten low : Bool) → (b == 92) ≡ backslash → (b == 10) ≡ ten → (nat_lt b 32 || b == 127) ≡ low → list_all is_inner (escaped_byte b) ≡ true
    by_case true ten low is e f = rw is refl
    by_case false true low is e f = rw (is, e) refl
    by_case false false true is e f = rw (is, e, f) (octal-inner b)
    by_case false false false is e f =
        let high = ltb-false b 32 (or_parts (nat_lt b 32) (b == 127) f).0 in
        rw (is, e, f) (rw (high-inner b (omega (arith, high))) refl)

pub escaped-inner : (value : List ℕ) → list_all is_inner (escaped value) ≡ true
escaped-inner [] = refl
escaped-inner (b ∷ value) = list_all-append is_inner (escaped_byte b) (escaped value) ∙ and_from _ _ (escaped_byte-inner b) (escaped-inner value)

-- bytes of a name
name_byte-high : (b : ℕ) → is_name_byte b ≡ true → 32 < b
name_byte-high b e =
    let outer = and_parts (nat_le 33 b && not (b == 127)) (not (b == 92)) e in
    let inner = and_parts (nat_le 33 b) (not (b == 127)) outer.0 in
    omega (arith, leb-true 33 b inner.0)

pub name_bytes-inner : (name : List ℕ) → list_all is_name_byte name ≡ true → list_all is_inner name ≡ true
name_bytes-inner [] all = refl
name_bytes-inner (b ∷ name) all =
    let parts = and_parts (is_name_byte b) (list_all is_name_byte name) all in
    and_from _ _ (high-inner b (omega (arith, name_byte-high b parts.0))) (name_bytes-inner name parts.1)

-- a byte of a name is no space
pub name_byte-space : (b : ℕ) → is_name_byte b ≡ true → (b == 32) ≡ false
name_byte-space b e = ne_eqb b 32 (λ is. omega (arith, is, name_byte-high b e))
