-- Numbers that stay within a limit, digit by digit, and the range of 128 bits.
use Rattle.std.proofs.Common.{◌≡◌, ℕ, zero, suc, ◌+◌, ◌^◌, ◌≤◌, ◌<◌, Bool, true, false, cond, List, [], ◌∷◌, length, take, get_or, Option, Some, None, ℤ, pos, negsuc, ◌+ℤ◌, refl, sym, ap, ◌∙◌, arith, ltb-true, ltb-false}
use Rattle.std.specs.Prelude.{FitsSigned, option_and_then}
use Rattle.std.specs.Int.{w128}
use Rattle.std.specs.List.{fold}
use Rattle.std.proofs.lemmas.List.{take_all}
use Rattle.std.proofs.lemmas.List.Sums.{fold_more}
use Rattle.tb_number.specs.IntText.{with_digit, number_of}
use Rattle.tb_number.specs.Range.{is_in_range, sum_with, sum_from, running_sum}
use Rattle.tb_number.proofs.DigitLaws.{fold-ge}

fold-take : (n : ℕ) (ds : List ℕ) (i : ℕ) → fold with_digit n (take i ds) ≤ fold with_digit n ds
fold-take n ds zero = fold-ge n ds
fold-take n [] (suc i) = omega arith
fold-take n (d ∷ ds) (suc i) = fold-take (with_digit n d) ds i

-- where the first digits reach a limit, all do
pub number_of-past : (ds : List ℕ) (i n limit : ℕ) → n ≡ number_of (take i ds) → i < length ds → ¬ (with_digit n (get_or ds i 0) < limit) → ¬ (number_of ds < limit)
number_of-past ds i n limit so_far within past =
    let more = fold_more with_digit 0 ds i 0 within in
    let all = fold-take 0 ds (i + 1) in
    λ less. past (rw so_far (omega arith))

pub number_of-all : (ds : List ℕ) (i n : ℕ) → n ≡ number_of (take i ds) → length ds ≤ i → n ≡ number_of ds
number_of-all ds i n so_far all = so_far ∙ ap number_of (take_all i ds all)

-- The range is what an `i128` holds.

pub in_range-fits : (z : ℤ) → is_in_range z ≡ true → FitsSigned w128 z
in_range-fits (pos n) is = omega (arith, ltb-true n (2 ^ 127) is)
in_range-fits (negsuc n) is = omega (arith, ltb-true n (2 ^ 127) is)

pub past-fits : (z : ℤ) → is_in_range z ≡ false → ¬ FitsSigned w128 z
past-fits (pos n) is fits = omega (arith, ltb-false n (2 ^ 127) is, fits)
past-fits (negsuc n) is fits = omega (arith, ltb-false n (2 ^ 127) is, fits)

-- A running sum that is not past the range is the sum of the numbers.

chosen : (is : Bool) (x y : ℤ) → cond is (Some x) None ≡ Some y → x ≡ y
chosen true x y e = let d : ◌≡◌ {A = Option ℤ} (Some x) (Some y) = e in cc
chosen false x y e = absurd (let d : ◌≡◌ {A = Option ℤ} None (Some y) = e in cc)

sum_with-by : (is : Bool) (total number sum : ℤ) → is_in_range number ≡ is → sum_with total number ≡ Some sum → total +ℤ number ≡ sum
sum_with-by true total number sum is e = chosen (is_in_range (total +ℤ number)) (total +ℤ number) sum (rw is at e)
sum_with-by false total number sum is e = absurd (let d : ◌≡◌ {A = Option ℤ} None (Some sum) = rw is at e in cc)

sum_from-by : (next : Option ℤ) (total number : ℤ) (numbers : List ℤ) (sum : ℤ) → sum_with total number ≡ next
    → ((more : ℤ) → sum_from more numbers ≡ Some sum → sum ≡ fold ◌+ℤ◌ more numbers)
    → option_and_then (λ n. sum_from n numbers) next ≡ Some sum → sum ≡ fold ◌+ℤ◌ (total +ℤ number) numbers
sum_from-by None total number numbers sum next rest e = absurd (let d : ◌≡◌ {A = Option ℤ} None (Some sum) = e in cc)
sum_from-by (Some more) total number numbers sum next rest e =
    rest more e ∙ ap (λ n. fold ◌+ℤ◌ n numbers) (sym (sum_with-by (is_in_range number) total number more refl next))

sum_from-fold : (total : ℤ) (numbers : List ℤ) (sum : ℤ) → sum_from total numbers ≡ Some sum → sum ≡ fold ◌+ℤ◌ total numbers
sum_from-fold total [] sum e = let d : ◌≡◌ {A = Option ℤ} (Some total) (Some sum) = e in cc
sum_from-fold total (number ∷ numbers) sum e =
    sum_from-by (sum_with total number) total number numbers sum refl (λ more. sum_from-fold more numbers sum) e

pub running_sum-fold : (numbers : List ℤ) (sum : ℤ) → running_sum numbers ≡ Some sum → sum ≡ fold ◌+ℤ◌ (pos 0) numbers
running_sum-fold numbers sum e = sum_from-fold (pos 0) numbers sum e
