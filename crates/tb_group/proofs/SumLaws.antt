-- A sum, one value after the other.
use Rattle.std.proofs.Common.{◌≡◌, ℕ, List, [], ◌∷◌, Option, Some, None, ℤ, refl, ap}
use Rattle.std.specs.Option.{option_and_then}
use Rattle.tb_number.specs.Range.{sum_with, sum_from}
use Rattle.tb_number.specs.Reading.{integer_of}
use Rattle.tb_query.specs.Operands.{numbers_of}

given : (sum : ℤ) (o : Option ℤ) → option_and_then (λ s. sum_from s []) o ≡ Some sum → o ≡ Some sum
given sum None is = absurd (let d : ◌≡◌ {A = Option ℤ} None (Some sum) = is in cc)
given sum (Some s) is = is

not-given : (o : Option ℤ) → option_and_then (λ s. sum_from s []) o ≡ None → o ≡ None
not-given None is = refl
not-given (Some s) is = is

then-by : (total sum : ℤ) (v : List ℕ) (vs : List (List ℕ)) (o : Option ℤ) → integer_of v ≡ o
    → sum_from total (numbers_of (v ∷ [])) ≡ Some sum → sum_from total (numbers_of (v ∷ vs)) ≡ sum_from sum (numbers_of vs)
then-by total sum v vs None is one =
    let same : Some total ≡ Some sum = rw is at one in
    let e : total ≡ sum = cc in
    rw is (ap (λ t. sum_from t (numbers_of vs)) e)
then-by total sum v vs (Some n) is one =
    let some = rw is at one in
    rw is (ap (option_and_then (λ s. sum_from s (numbers_of vs))) (given sum (sum_with total n) some))

pub sum-then : (total sum : ℤ) (v : List ℕ) (vs : List (List ℕ)) → sum_from total (numbers_of (v ∷ [])) ≡ Some sum → sum_from total (numbers_of (v ∷ vs)) ≡ sum_from sum (numbers_of vs)
sum-then total sum v vs one = then-by total sum v vs (integer_of v) refl one

past-by : (total : ℤ) (v : List ℕ) (vs : List (List ℕ)) (o : Option ℤ) → integer_of v ≡ o
    → sum_from total (numbers_of (v ∷ [])) ≡ None → sum_from total (numbers_of (v ∷ vs)) ≡ None
past-by total v vs None is none = absurd (let d : ◌≡◌ {A = Option ℤ} (Some total) None = rw is at none in cc)
past-by total v vs (Some n) is none =
    let past = rw is at none in
    rw is (ap (option_and_then (λ s. sum_from s (numbers_of vs))) (not-given (sum_with total n) past))

pub sum-past : (total : ℤ) (v : List ℕ) (vs : List (List ℕ)) → sum_from total (numbers_of (v ∷ [])) ≡ None → sum_from total (numbers_of (v ∷ vs)) ≡ None
sum-past total v vs none = past-by total v vs (integer_of v) refl none
