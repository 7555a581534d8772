-- What bytes with escapes give is no longer than they are.
use Rattle.std.proofs.Common.{◌≡◌, ℕ, zero, suc, ◌+◌, ◌-◌, ◌≤◌, Bool, true, false, cond, ◌&&◌, not, nat_le, ◌==◌, List, [], ◌∷◌, ◌++◌, length, take, drop, Option, Some, None, refl, ap, subst, arith, take-append-drop, encode_utf8, length-append}
use Rattle.std.specs.List.{prefix_len}
use Rattle.std.specs.Option.{option_map}
use Rattle.std.proofs.lemmas.Bool.{and_parts, false≢true}
use Rattle.std.proofs.lemmas.Option.{none-some}
use Rattle.std.proofs.lemmas.Str.{length-encode, len_utf8_bounds}
use lib.Utf8.{scalar}
use Rattle.tb_tree.specs.Sound.{is_empty_list}
use Rattle.tb_tree.specs.Steps.{◌>>=◌}
use Rattle.tb_tree.specs.Escapes.{Escape, is_digit, is_octal, number_from, octal_number, octal_bytes, begins_with_end, scalar_escape, octal_escape, escape_of, unescaped, unescaped_behind}

-- an escape of so many bytes behind its backslash
record Short (e : Escape) (most : ℕ) : Type 0 where
  gives : length e.gives ≤ 1 + e.takes
  takes : e.takes ≤ most

same_escape : (a b : Escape) → ◌≡◌ {A = Option Escape} (Some a) (Some b) → a ≡ b
same_escape a b e = cc

short : (a e : Escape) (most : ℕ) → Short a most → ◌≡◌ {A = Option Escape} (Some a) (Some e) → Short e most
short a e most s is = subst (λ x. Short x most) (same_escape a e is) s

some_digits : (digits : List ℕ) → not (is_empty_list digits) ≡ true → 1 ≤ length digits
some_digits [] e = absurd (false≢true e)
some_digits (d ∷ ds) e = omega arith

some_end : (behind : List ℕ) → begins_with_end behind ≡ true → 1 ≤ length behind
some_end [] e = absurd (false≢true e)
some_end (b ∷ rest) e = omega arith

scalar_short : (digits behind : List ℕ) (e : Escape) (b : Bool) → (not (is_empty_list digits) && begins_with_end behind && scalar (number_from 0 digits)) ≡ b
    → cond b (Some (record { gives = encode_utf8 (number_from 0 digits); takes = 2 + length digits })) None ≡ Some e → Short e (1 + (length digits + length behind))
scalar_short digits behind e true all is =
    let parts = and_parts (not (is_empty_list digits) && begins_with_end behind) (scalar (number_from 0 digits)) all in
    let more = and_parts (not (is_empty_list digits)) (begins_with_end behind) parts.0 in
    short _ e _ (record { gives = omega (arith, utf8_short (number_from 0 digits), some_digits digits more.0); takes = omega (arith, some_end behind more.1) }) is
  where
    utf8_short : (n : ℕ) → length (encode_utf8 n) ≤ 4
    utf8_short n = omega (arith, length-encode n, (len_utf8_bounds n).1)
scalar_short digits behind e false all is = absurd (none-some e is)

octal_length : (b : ℕ) → length (octal_bytes b) ≤ 1
octal_length b = by_case (b == 10) refl
  where
    by_case : (ten : Bool) → (b == 10) ≡ ten → length (octal_bytes b) ≤ 1
    by_case true e = rw e (omega arith)
    by_case false e = rw e (omega arith)

octal_case : (a b c : ℕ) (rest : List ℕ) (e : Escape) (ok : Bool) → cond ok (Some (record { gives = octal_bytes (octal_number a b c); takes = 3 })) None ≡ Some e → Short e (3 + length rest)
octal_case a b c rest e true is = short _ e _ (record { gives = omega (arith, octal_length (octal_number a b c)); takes = omega arith }) is
octal_case a b c rest e false is = absurd (none-some e is)

octal_short : (bs : List ℕ) (e : Escape) → octal_escape bs ≡ Some e → Short e (length bs)
octal_short [] e is = absurd (none-some e is)
octal_short (a ∷ []) e is = absurd (none-some e is)
octal_short (a ∷ b ∷ []) e is = absurd (none-some e is)
octal_short (a ∷ b ∷ c ∷ rest) e is =
    let s = octal_case a b c rest e (is_octal a && is_octal b && is_octal c && nat_le (octal_number a b c) 255) is in
    record { gives = s.gives; takes = omega (arith, s.takes) }

escape_case : (b : ℕ) (rest : List ℕ) (e : Escape) (p q r s : Bool) → (b == 92) ≡ p → (b == 110) ≡ q → (b == 124) ≡ r → (b == 35) ≡ s → escape_of (b ∷ rest) ≡ Some e → Short e (1 + length rest)
escape_case b rest e true q r s f g h i is = short _ e _ (record { gives = omega arith; takes = omega arith }) (rw f at is)
escape_case b rest e false true r s f g h i is = short _ e _ (record { gives = omega arith; takes = omega arith }) (rw (f, g) at is)
escape_case b rest e false false true s f g h i is = short _ e _ (record { gives = omega arith; takes = omega arith }) (rw (f, g, h) at is)
escape_case b rest e false false false true f g h i is =
    let digits = take (prefix_len is_digit rest) rest in
    let behind = drop (prefix_len is_digit rest) rest in
    let one : scalar_escape digits behind ≡ Some e = rw (f, g, h, i) at is in
    let found = scalar_short digits behind e _ refl one in
    record { gives = found.gives; takes = omega (arith, found.takes, length-append digits behind, ap length (take-append-drop (prefix_len is_digit rest) rest)) }
escape_case b rest e false false false false f g h i is =
    let one : octal_escape (b ∷ rest) ≡ Some e = rw (f, g, h, i) at is in
    let found = octal_short (b ∷ rest) e one in
    record { gives = found.gives; takes = omega (arith, found.takes) }

escape_short : (bs : List ℕ) (e : Escape) → escape_of bs ≡ Some e → Short e (length bs)
escape_short [] e is = absurd (none-some e is)
escape_short (b ∷ rest) e is =
    let s = escape_case b rest e (b == 92) (b == 110) (b == 124) (b == 35) refl refl refl refl is in
    record { gives = s.gives; takes = omega (arith, s.takes) }

same_given : (a b : List ℕ) → ◌≡◌ {A = Option (List ℕ)} (Some a) (Some b) → a ≡ b
same_given a b e = cc

given_behind : (o : Option (List ℕ)) (before v : List ℕ) (most : ℕ) → ((w : List ℕ) → o ≡ Some w → length w ≤ most) → option_map (λ given. before ++ given) o ≡ Some v → length v ≤ length before + most
given_behind None before v most fits is = absurd (none-some v is)
given_behind (Some w) before v most fits is = omega (arith, ap length (same_given (before ++ w) v is), length-append before w, fits w refl)

behind_escape : (o : Option Escape) (bs v : List ℕ) → ((e : Escape) → o ≡ Some e → Short e (length bs)) → ((e : Escape) (w : List ℕ) → unescaped_behind e.takes bs ≡ Some w → length w ≤ length bs - e.takes)
    → (o >>= λ e. option_map (λ given. e.gives ++ given) (unescaped_behind e.takes bs)) ≡ Some v → length v ≤ 1 + length bs
behind_escape None bs v short rest is = absurd (none-some v is)
behind_escape (Some e) bs v short rest is =
    omega (arith, given_behind (unescaped_behind e.takes bs) e.gives v (length bs - e.takes) (rest e) is, (short e refl).gives, (short e refl).takes)

behind_byte : (b : ℕ) (bs v : List ℕ) (slash : Bool) → (b == 92) ≡ slash → ((k : ℕ) (w : List ℕ) → unescaped_behind k bs ≡ Some w → length w ≤ length bs - k) → unescaped_behind zero (b ∷ bs) ≡ Some v → length v ≤ 1 + length bs
behind_byte b bs v true e rest is = behind_escape (escape_of bs) bs v (escape_short bs) (λ x w. rest x.takes w) (rw e at is)
behind_byte b bs v false e rest is = omega (arith, given_behind (unescaped_behind zero bs) (b ∷ []) v (length bs) (λ w some. omega (arith, rest zero w some)) (rw e at is))

behind_short : (k : ℕ) (bs v : List ℕ) → unescaped_behind k bs ≡ Some v → length v ≤ length bs - k
behind_short k [] v is = omega (arith, ap length (same_given [] v is))
behind_short (suc k) (b ∷ bs) v is = omega (arith, behind_short k bs v is)
behind_short zero (b ∷ bs) v is = omega (arith, behind_byte b bs v (b == 92) refl (λ k w. behind_short k bs w) is)

pub given-length : (bs v : List ℕ) → unescaped bs ≡ Some v → length v ≤ length bs
given-length bs v is = omega (arith, behind_short 0 bs v is)
