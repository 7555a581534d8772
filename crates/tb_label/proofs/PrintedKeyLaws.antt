-- Keys from printed bytes are the same just where the keys of the values are.
use Rattle.std.proofs.Common.{◌≡◌, ℕ, Bool, true, false, not, ◌&&◌, ◌==◌, List, Option, Some, None, refl, sym, ap, ◌∙◌, Less, Equal, Greater, Ordering}
use Rattle.std.specs.Str.{bytes_eq}
use Rattle.std.specs.Ordering.{is_eq, is_ne}
use Rattle.std.proofs.lemmas.Map.Text.{is_eq-slice_cmp}
use Rattle.std.proofs.lemmas.Bool.Decides.{Decides-like, same_from_decides}
use Rattle.std.proofs.lemmas.Slice.Eq.{bytes_eq-Decides}
use Rattle.tb_tree.specs.Printed.{escaped}
use Rattle.tb_tree.specs.Escapes.{unescaped}
use Rattle.tb_tree.proofs.PrintedBytes.{unescaped-escaped}
use Rattle.tb_number.specs.Reading.{without_blanks, begins_with_minus, without_sign, leading_digits}
use Rattle.tb_number.specs.Values.{bytes_cmp}
use Rattle.tb_number.specs.Keys.{is_same_key}
use Rattle.tb_number.specs.KeyParts.{number_kind, value_parts, text_parts, parts_of, same_parts}
use Rattle.tb_number.specs.Reduced.{keeps_minus, without_zeros}
use Rattle.tb_number.proofs.PartsLaws.{parts-same}
use Rattle.tb_label.specs.PrintedKeys.{printed_parts, printed_key}

-- Bytes print alike just where they are the same.
escaped-injective : (v w : List ℕ) → escaped v ≡ escaped w → v ≡ w
escaped-injective v w same =
    let d : ◌≡◌ {A = Option (List ℕ)} (Some v) (Some w) = sym (unescaped-escaped v) ∙ ap unescaped same ∙ unescaped-escaped w in
    cc

pub printed-same : (v w : List ℕ) → bytes_eq (escaped v) (escaped w) ≡ bytes_eq v w
printed-same v w =
    same_from_decides (bytes_eq (escaped v) (escaped w)) (bytes_eq v w)
    (Decides-like (bytes_eq (escaped v) (escaped w)) (escaped-injective v w) (λ same. ap escaped same) (bytes_eq-Decides (escaped v) (escaped w)))
    (bytes_eq-Decides v w)

pub printed-equal : (v w : List ℕ) → bytes_eq (escaped v) (escaped w) ≡ is_eq (bytes_cmp v w)
printed-equal v w = printed-same v w ∙ sym (is_eq-slice_cmp v w)

pub printed-other : (v w : List ℕ) → not (bytes_eq (escaped v) (escaped w)) ≡ is_ne (bytes_cmp v w)
printed-other v w = ap not (printed-equal v w) ∙ other (bytes_cmp v w)
  where
    other : (order : Ordering) → not (is_eq order) ≡ is_ne order
    other Less = refl
    other Equal = refl
    other Greater = refl

-- a number's kind is no other value's
kind-by : (minus : Bool) (digits : List ℕ) (keeps : Bool) → keeps_minus minus digits ≡ keeps → ((number_kind minus digits == 3) ≡ false) × ((3 == number_kind minus digits) ≡ false)
kind-by minus digits true is = rw is (refl, refl)
kind-by minus digits false is = rw is (refl, refl)

kinds-apart : (minus : Bool) (digits : List ℕ) → ((number_kind minus digits == 3) ≡ false) × ((3 == number_kind minus digits) ≡ false)
kinds-apart minus digits = kind-by minus digits (keeps_minus minus digits) refl

values-same : (m n : Bool) (a b v w : List ℕ) (ds es : Option (List ℕ)) → bytes_eq a b ≡ bytes_eq v w
    → same_parts (value_parts m a ds) (value_parts n b es) ≡ same_parts (value_parts m v ds) (value_parts n w es)
values-same m n a b v w None None same = same
values-same m n a b v w None (Some es) same =
    let apart = (kinds-apart n (without_zeros es)).1 in
    ap (λ t. t && bytes_eq a (without_zeros es)) apart ∙ sym (ap (λ t. t && bytes_eq v (without_zeros es)) apart)
values-same m n a b v w (Some ds) None same =
    let apart = (kinds-apart m (without_zeros ds)).0 in
    ap (λ t. t && bytes_eq (without_zeros ds) b) apart ∙ sym (ap (λ t. t && bytes_eq (without_zeros ds) w) apart)
values-same m n a b v w (Some ds) (Some es) same = refl

parts-alike : (v w : List ℕ) → same_parts (printed_parts v) (printed_parts w) ≡ same_parts (text_parts v) (text_parts w)
parts-alike v w =
    let x = without_blanks v in
    let y = without_blanks w in
    values-same (begins_with_minus x) (begins_with_minus y) (escaped v) (escaped w) v w (leading_digits (without_sign x)) (leading_digits (without_sign y)) (printed-same v w)

-- a value is there, or none
none-by : (m : Bool) (a v : List ℕ) (ds : Option (List ℕ)) → (same_parts (value_parts m a ds) (parts_of None) ≡ same_parts (value_parts m v ds) (parts_of None))
    × (same_parts (parts_of None) (value_parts m a ds) ≡ same_parts (parts_of None) (value_parts m v ds))
none-by m a v None = (refl, refl)
none-by m a v (Some ds) = (refl, refl)

-- Keys that are made of printed bytes are the same just where the values' keys are equal.
pub keys-printed : (a b : Option (List ℕ)) → same_parts (printed_key a) (printed_key b) ≡ is_same_key a b
keys-printed None None = parts-same None None
keys-printed None (Some w) =
    let x = without_blanks w in
    (none-by (begins_with_minus x) (escaped w) w (leading_digits (without_sign x))).1 ∙ parts-same None (Some w)
keys-printed (Some v) None =
    let x = without_blanks v in
    (none-by (begins_with_minus x) (escaped v) v (leading_digits (without_sign x))).0 ∙ parts-same (Some v) None
keys-printed (Some v) (Some w) = parts-alike v w ∙ parts-same (Some v) (Some w)
