-- Keys are equal just where their parts are the same.
use Rattle.std.proofs.Common.{◌≡◌, ℕ, Bool, true, false, cond, if◌then◌else◌, length, ◌==◌, List, [], Option, Some, None, ℤ, pos, refl, sym, ap, ◌∙◌, inl, inr, Less, Equal, Greater, Ordering}
use Rattle.std.specs.Bool.{Decides}
use Rattle.std.specs.List.{list_all}
use Rattle.std.specs.Str.{bytes_eq}
use Rattle.std.specs.Ordering.{nat_cmp, is_eq}
use Rattle.std.specs.Cmp.Lexicographic.{slice_cmp}
use Rattle.std.proofs.lemmas.Cmp.{tied_itself, int_cmp_total}
use Rattle.std.proofs.lemmas.Bool.Decides.{Decides-eqb, Decides-and, Decides-like, same_from_decides}
use Rattle.std.proofs.lemmas.Slice.Eq.{bytes_eq-Decides}
use Rattle.tb_number.specs.IntText.{is_digit, number_of, signed}
use Rattle.tb_number.specs.Reading.{integer_of, without_blanks, begins_with_minus, without_sign, leading_digits}
use Rattle.tb_number.specs.Reduced.{is_reduced, without_zeros, keeps_minus, digits_cmp}
use Rattle.tb_number.specs.Values.{AreEqual}
use Rattle.tb_number.specs.Keys.{SortedAs, sorted_as, value_sorted_as, key_cmp, is_same_key, AreEqualKeys}
use Rattle.tb_number.specs.KeyParts.{KeyParts, same_parts, value_parts, text_parts, parts_of}
use Rattle.tb_number.proofs.ReadingLaws.{with_sign, integer_of-text, prefix-parts, stands-integer_of}
use Rattle.tb_number.proofs.DigitLaws.{reduced-without_zeros}
use Rattle.tb_number.proofs.SignLaws.{signed_digits_cmp, signed_digits_cmp-is, signed-without_zeros}
use Rattle.tb_number.proofs.ValueLaws.{bytes_cmp-Equal}
use Rattle.tb_number.proofs.KeyLaws.{then-Equal, key_cmp-equal, equal-key_cmp, sorted_as-equal}

-- The parts spell this number: its sign, and its digits without leading zeros.
record Spell (parts : KeyParts) (number : ℤ) : Type 0 where
  sign : Bool
  digits : List ℕ
  reduced : is_reduced sign digits ≡ true
  number_is : signed sign (number_of digits) ≡ number
  parts_are : parts ≡ record { kind = cond sign 2 1; bytes = digits }

spelled-by : (minus : Bool) (bytes : List ℕ) (found : Option (List ℕ)) (number : ℤ) → ((digits : List ℕ) → found ≡ Some digits → list_all is_digit digits ≡ true)
    → with_sign minus found ≡ Some number → Spell (value_parts minus bytes found) number
spelled-by minus bytes None number all is = absurd (let d : ◌≡◌ {A = Option ℤ} None (Some number) = is in cc)
spelled-by minus bytes (Some digits) number all is =
    let ds = without_zeros digits in
    let same : signed minus (number_of digits) ≡ number = (let d : ◌≡◌ {A = Option ℤ} (Some (signed minus (number_of digits))) (Some number) = is in cc) in
    record {
      sign = keeps_minus minus ds;
      digits = ds;
      reduced = reduced-without_zeros minus digits (all digits refl);
      number_is = signed-without_zeros minus digits ∙ same;
      parts_are = refl;
    }

-- The parts of an integer text spell its number.
spelled : (bytes : List ℕ) (number : ℤ) → integer_of bytes ≡ Some number → Spell (text_parts bytes) number
spelled bytes number is =
    let text = without_blanks bytes in
    spelled-by (begins_with_minus text) bytes (leading_digits (without_sign text)) number
    (λ digits found. (prefix-parts (without_sign text) digits found).all_digits)
    (sym (integer_of-text bytes) ∙ is)

unspelled-by : (minus : Bool) (bytes : List ℕ) (found : Option (List ℕ)) → with_sign minus found ≡ None → value_parts minus bytes found ≡ record { kind = 3; bytes = bytes }
unspelled-by minus bytes None is = refl
unspelled-by minus bytes (Some digits) is = absurd (let d : ◌≡◌ {A = Option ℤ} (Some (signed minus (number_of digits))) None = is in cc)

-- Those of another value are its bytes.
unspelled : (bytes : List ℕ) → integer_of bytes ≡ None → text_parts bytes ≡ record { kind = 3; bytes = bytes }
unspelled bytes is =
    let text = without_blanks bytes in
    unspelled-by (begins_with_minus text) bytes (leading_digits (without_sign text)) (sym (integer_of-text bytes) ∙ is)

digits_cmp-Equal : (xs ys : List ℕ) → digits_cmp xs ys ≡ Equal → xs ≡ ys
digits_cmp-Equal xs ys tied = bytes_cmp-Equal xs ys (then-Equal (nat_cmp (length xs) (length ys)) (slice_cmp nat_cmp xs ys) tied).1

one-sign : (a b : Bool) (xs ys : List ℕ) → signed_digits_cmp a b xs ys ≡ Equal → (a ≡ b) × (xs ≡ ys)
one-sign false false xs ys tied = (refl, digits_cmp-Equal xs ys tied)
one-sign true true xs ys tied = (refl, sym (digits_cmp-Equal ys xs tied))
one-sign false true xs ys tied = absurd (let d : ◌≡◌ {A = Ordering} Greater Equal = tied in cc)
one-sign true false xs ys tied = absurd (let d : ◌≡◌ {A = Ordering} Less Equal = tied in cc)

-- A number has one spelling.
one-spelling : (x y : KeyParts) (number : ℤ) → Spell x number → Spell y number → x ≡ y
one-spelling x y number s t =
    let tied = signed_digits_cmp-is s.sign t.sign s.sign t.sign s.digits t.digits number number refl refl s.reduced t.reduced s.number_is t.number_is
    ∙ tied_itself int_cmp_total number in
    let one = one-sign s.sign t.sign s.digits t.digits tied in
    s.parts_are ∙ (λ i. record { kind = cond (one.0 i) 2 1; bytes = one.1 i }) ∙ sym t.parts_are

values-alike : (a b : List ℕ) → AreEqual a b → text_parts a ≡ text_parts b
values-alike a b (inl one) =
    one-spelling (text_parts a) (text_parts b) one.0 (spelled a one.0 (stands-integer_of a one.0 one.1)) (spelled b one.0 (stands-integer_of b one.0 one.2))
values-alike a b (inr same) = ap text_parts same

-- Equal keys have the same parts.
keys-alike : (a b : Option (List ℕ)) → AreEqualKeys a b → parts_of a ≡ parts_of b
keys-alike None None equal = refl
keys-alike None (Some b) equal = absurd equal
keys-alike (Some a) None equal = absurd equal
keys-alike (Some a) (Some b) equal = values-alike a b equal

-- Parts tell how their key is sorted.
abbrev sorted_by : ℕ → List ℕ → SortedAs
sorted_by kind bytes =
    if kind == 0 then record { kind = 0; number = pos 0; bytes = [] }
    else if kind == 3 then record { kind = 2; number = pos 0; bytes = bytes }
    else record { kind = 1; number = signed (kind == 2) (number_of bytes); bytes = [] }

abbrev sorted_of : KeyParts → SortedAs
sorted_of parts = sorted_by parts.kind parts.bytes

sorted-sign : (sign : Bool) (digits : List ℕ) → sorted_by (cond sign 2 1) digits ≡ record { kind = 1; number = signed sign (number_of digits); bytes = [] }
sorted-sign true digits = refl
sorted-sign false digits = refl

sorted-value : (bytes : List ℕ) (number : Option ℤ) → integer_of bytes ≡ number → sorted_of (text_parts bytes) ≡ value_sorted_as number bytes
sorted-value bytes None is = ap sorted_of (unspelled bytes is)
sorted-value bytes (Some number) is =
    let s = spelled bytes number is in
    ap sorted_of s.parts_are ∙ sorted-sign s.sign s.digits ∙ ap (λ n. record { kind = 1; number = n; bytes = [] }) s.number_is

sorted-parts : (key : Option (List ℕ)) → sorted_of (parts_of key) ≡ sorted_as key
sorted-parts None = refl
sorted-parts (Some bytes) = sorted-value bytes (integer_of bytes) refl

-- Keys of the same parts are equal.
alike-keys : (a b : Option (List ℕ)) → parts_of a ≡ parts_of b → AreEqualKeys a b
alike-keys a b same = sorted_as-equal a b (sym (sorted-parts a) ∙ ap sorted_of same ∙ sorted-parts b)

same_parts-Decides : (x y : KeyParts) → Decides (same_parts x y) (x ≡ y)
same_parts-Decides x y =
    Decides-like (same_parts x y) (λ same. λ i. record { kind = same.0 i; bytes = same.1 i })
    (λ same. (ap (λ p. p.kind) same, ap (λ p. p.bytes) same))
    (Decides-and (x.kind == y.kind) (bytes_eq x.bytes y.bytes) (Decides-eqb x.kind y.kind) (bytes_eq-Decides x.bytes y.bytes))

pub is_eq-Decides : (order : Ordering) → Decides (is_eq order) (order ≡ Equal)
is_eq-Decides Less = (λ e. absurd (let d : ◌≡◌ {A = Bool} false true = e in cc), λ e. absurd (let d : ◌≡◌ {A = Ordering} Less Equal = e in cc))
is_eq-Decides Equal = (λ e. refl, λ e. refl)
is_eq-Decides Greater = (λ e. absurd (let d : ◌≡◌ {A = Bool} false true = e in cc), λ e. absurd (let d : ◌≡◌ {A = Ordering} Greater Equal = e in cc))

-- That two keys have the same parts says that they are equal.
pub parts-same : (a b : Option (List ℕ)) → same_parts (parts_of a) (parts_of b) ≡ is_same_key a b
parts-same a b =
    same_from_decides (same_parts (parts_of a) (parts_of b)) (is_same_key a b)
    (Decides-like (same_parts (parts_of a) (parts_of b)) (alike-keys a b) (keys-alike a b) (same_parts-Decides (parts_of a) (parts_of b)))
    (Decides-like (is_same_key a b) (key_cmp-equal a b) (equal-key_cmp a b) (is_eq-Decides (key_cmp a b)))
