-- Values are equal just where they are compared as equal.
use Rattle.std.proofs.Common.{◌≡◌, ℕ, List, Option, Some, None, ℤ, refl, sym, ap, ◌∙◌, inl, inr, Equal}
use Rattle.std.specs.Ordering.{int_cmp, is_eq}
use Rattle.std.proofs.lemmas.Cmp.{int_ranked, tied_itself, int_cmp_total, nat_list_cmp_total}
use Rattle.std.proofs.lemmas.Map.Text.{is_eq-slice_cmp}
use Rattle.std.proofs.lemmas.Slice.Eq.{bytes_eq-Decides}
use Rattle.tb_number.specs.Reading.{integer_of}
use Rattle.tb_number.specs.Values.{AreEqual, bytes_cmp, number_or_bytes_cmp, value_cmp}
use Rattle.tb_number.proofs.ReadingLaws.{stands-integer_of, integer_of-stands}

pub int_cmp-Equal : (m n : ℤ) → int_cmp m n ≡ Equal → m ≡ n
int_cmp-Equal m n e = int_ranked m n Equal (sym e)

pub bytes_cmp-Equal : (a b : List ℕ) → bytes_cmp a b ≡ Equal → a ≡ b
bytes_cmp-Equal a b e = (bytes_eq-Decides a b).0 (sym (is_eq-slice_cmp a b) ∙ ap is_eq e)

equal-by : (m n : Option ℤ) (a b : List ℕ) → integer_of a ≡ m → integer_of b ≡ n → number_or_bytes_cmp m n a b ≡ Equal → AreEqual a b
equal-by (Some m) (Some n) a b p q e =
    let same = int_cmp-Equal m n e in
    inl (n, integer_of-stands a n (p ∙ ap Some same), integer_of-stands b n q)
equal-by (Some m) None a b p q e = inr (bytes_cmp-Equal a b e)
equal-by None n a b p q e = inr (bytes_cmp-Equal a b e)

pub value_cmp-equal : (a b : List ℕ) → value_cmp a b ≡ Equal → AreEqual a b
value_cmp-equal a b e = equal-by (integer_of a) (integer_of b) a b refl refl e

compared-itself : (n : Option ℤ) (a : List ℕ) → number_or_bytes_cmp n n a a ≡ Equal
compared-itself (Some n) a = tied_itself int_cmp_total n
compared-itself None a = tied_itself nat_list_cmp_total a

pub equal-value_cmp : (a b : List ℕ) → AreEqual a b → value_cmp a b ≡ Equal
equal-value_cmp a b (inl one) =
    let p = stands-integer_of a one.0 one.1 in
    let q = stands-integer_of b one.0 one.2 in
    rw (p, q) (tied_itself int_cmp_total one.0)
equal-value_cmp a b (inr same) = ap (value_cmp a) (sym same) ∙ compared-itself (integer_of a) a
