-- The order of keys is total, and keys that it does not tell apart are equal.
use Rattle.std.proofs.Common.{◌≡◌, ℕ, ◌<◌, List, Option, Some, None, ℤ, refl, sym, ap, ◌∙◌, inl, inr, arith, Less, Equal, Greater, Ordering}
use Rattle.std.specs.Ordering.{nat_cmp, int_cmp, ordering_then}
use Rattle.std.specs.Cmp.{IsTotalOrder}
use Rattle.std.proofs.lemmas.Cmp.{on_total, then_total, nat_cmp_total, int_cmp_total, nat_list_cmp_total, tied_itself, ranked}
use Rattle.tb_number.specs.Reading.{integer_of}
use Rattle.tb_number.specs.Values.{AreEqual, bytes_cmp}
use Rattle.tb_number.specs.Keys.{SortedAs, sorted_as, value_sorted_as, sorted_cmp, key_cmp, AreEqualKeys}
use Rattle.tb_number.proofs.ValueLaws.{int_cmp-Equal, bytes_cmp-Equal}
use Rattle.tb_number.proofs.ReadingLaws.{stands-integer_of, integer_of-stands}

-- of two keys as they are sorted the one is less, or the other, or they are tied
pub sorted_cmp-total : IsTotalOrder sorted_cmp
sorted_cmp-total =
    then_total (on_total (λ k. k.kind) nat_cmp_total) (then_total (on_total (λ k. k.number) int_cmp_total) (on_total (λ k. k.bytes) nat_list_cmp_total))

-- Of two keys the one is less, or the other, or they are tied; less and tied are transitive.
pub key_cmp-total : IsTotalOrder key_cmp
key_cmp-total = on_total sorted_as sorted_cmp-total

key_cmp-sorted_as : (a b : Option (List ℕ)) → sorted_as a ≡ sorted_as b → key_cmp a b ≡ Equal
key_cmp-sorted_as a b same = ap (λ s. sorted_cmp s (sorted_as b)) same ∙ tied_itself sorted_cmp-total (sorted_as b)

-- The three parts of a key as it is sorted, where two keys are tied.

pub then-Equal : (o p : Ordering) → ordering_then o p ≡ Equal → (o ≡ Equal) × (p ≡ Equal)
then-Equal Less p e = absurd (let d : ◌≡◌ {A = Ordering} Less Equal = e in cc)
then-Equal Equal p e = (refl, e)
then-Equal Greater p e = absurd (let d : ◌≡◌ {A = Ordering} Greater Equal = e in cc)

record AreTied (x y : SortedAs) : Type 0 where
  kind : x.kind ≡ y.kind
  number : x.number ≡ y.number
  bytes : x.bytes ≡ y.bytes

tied : (x y : SortedAs) → ordering_then (nat_cmp x.kind y.kind) (ordering_then (int_cmp x.number y.number) (bytes_cmp x.bytes y.bytes)) ≡ Equal → AreTied x y
tied x y e =
    let first = then-Equal (nat_cmp x.kind y.kind) (ordering_then (int_cmp x.number y.number) (bytes_cmp x.bytes y.bytes)) e in
    let second = then-Equal (int_cmp x.number y.number) (bytes_cmp x.bytes y.bytes) first.1 in
    record {
      kind = ranked x.kind y.kind Equal (sym first.0);
      number = int_cmp-Equal x.number y.number second.0;
      bytes = bytes_cmp-Equal x.bytes y.bytes second.1;
    }

equal-values : (m n : Option ℤ) (a b : List ℕ) → integer_of a ≡ m → integer_of b ≡ n → AreTied (value_sorted_as m a) (value_sorted_as n b) → AreEqual a b
equal-values None None a b p q t = inr t.bytes
equal-values None (Some n) a b p q t = absurd (let k : ◌≡◌ {A = ℕ} 2 1 = t.kind in omega arith)
equal-values (Some m) None a b p q t = absurd (let k : ◌≡◌ {A = ℕ} 1 2 = t.kind in omega arith)
equal-values (Some m) (Some n) a b p q t = inl (n, integer_of-stands a n (p ∙ ap Some t.number), integer_of-stands b n q)

below-value : (n : Option ℤ) (b : List ℕ) → 0 < (value_sorted_as n b).kind
below-value None b = omega arith
below-value (Some n) b = omega arith

-- keys that are not told apart are equal
pub key_cmp-equal : (a b : Option (List ℕ)) → key_cmp a b ≡ Equal → AreEqualKeys a b
key_cmp-equal None None e = tt
key_cmp-equal None (Some b) e =
    let t = tied (sorted_as None) (sorted_as (Some b)) e in
    absurd (let k : 0 ≡ (value_sorted_as (integer_of b) b).kind = t.kind in omega (arith, below-value (integer_of b) b))
key_cmp-equal (Some a) None e =
    let t = tied (sorted_as (Some a)) (sorted_as None) e in
    absurd (let k : (value_sorted_as (integer_of a) a).kind ≡ 0 = t.kind in omega (arith, below-value (integer_of a) a))
key_cmp-equal (Some a) (Some b) e = equal-values (integer_of a) (integer_of b) a b refl refl (tied (sorted_as (Some a)) (sorted_as (Some b)) e)

-- Keys are equal just where they are sorted as one; so equality of keys is an equivalence.

sorted_as-values : (a b : List ℕ) → AreEqual a b → sorted_as (Some a) ≡ sorted_as (Some b)
sorted_as-values a b (inl one) =
    ap (λ n. value_sorted_as n a) (stands-integer_of a one.0 one.1) ∙ sym (ap (λ n. value_sorted_as n b) (stands-integer_of b one.0 one.2))
sorted_as-values a b (inr same) = ap (λ v. sorted_as (Some v)) same

pub equal-sorted_as : (a b : Option (List ℕ)) → AreEqualKeys a b → sorted_as a ≡ sorted_as b
equal-sorted_as None None same = refl
equal-sorted_as None (Some b) same = absurd same
equal-sorted_as (Some a) None same = absurd same
equal-sorted_as (Some a) (Some b) same = sorted_as-values a b same

pub equal-key_cmp : (a b : Option (List ℕ)) → AreEqualKeys a b → key_cmp a b ≡ Equal
equal-key_cmp a b same = key_cmp-sorted_as a b (equal-sorted_as a b same)

pub sorted_as-equal : (a b : Option (List ℕ)) → sorted_as a ≡ sorted_as b → AreEqualKeys a b
sorted_as-equal a b same = key_cmp-equal a b (key_cmp-sorted_as a b same)
