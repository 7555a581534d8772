-- What is printed of a number is its canonical text.
use Rattle.std.proofs.Common.{◌≡◌, ℕ, zero, suc, ◌+◌, ◌/◌, ◌%◌, ◌^◌, ◌<◌, ◌≤◌, ◌==◌, false, List, [], ◌∷◌, ◌++◌, map, ℤ, pos, negsuc, refl, sym, ap, ◌∙◌, arith}
use Rattle.std.specs.Prelude.{FitsSigned}
use Rattle.std.specs.Int.{w128}
use Rattle.std.specs.Int.Digits.{digits_of}
use Rattle.std.specs.Fmt.{decimal, signed_decimal}
use Rattle.std.proofs.lemmas.Bool.Decides.{nat_tests}
use Rattle.std.proofs.lemmas.Fmt.{decimal_by_steps_wide}
use Rattle.std.proofs.lemmas.Int.Digits.{digits_of_step}
use Rattle.std.proofs.lemmas.List.{map_push}
use Rattle.tb_number.specs.Canonical.{decimal_text, canonical_text}

abbrev shown : List ℕ → List ℕ
shown = map (λ d. 48 + d)

decimal_text-some : (n : ℕ) → 0 < n → decimal_text n ≡ shown (digits_of 10 n)
decimal_text-some n some = let e : (n == 0) ≡ false = grind (arith, nat_tests) in rw e refl

one-digit : (n : ℕ) → n < 10 → (48 + n) ∷ [] ≡ decimal_text n
one-digit zero small = refl
one-digit (suc k) small =
    let n = suc k in
    let z : n / 10 ≡ 0 = omega arith in
    let e : n % 10 ≡ n = omega arith in
    sym (decimal_text-some n (omega arith) ∙ ap shown (digits_of_step 10 n (omega arith) (omega arith) ∙ (λ i. digits_of 10 (z i) ++ (e i ∷ []))))

more-digits : (n : ℕ) (ds : List ℕ) → 10 ≤ n → ds ≡ decimal_text (n / 10) → ds ++ (48 + n % 10) ∷ [] ≡ decimal_text n
more-digits n ds large is =
    ap (λ l. l ++ (48 + n % 10) ∷ []) (is ∙ decimal_text-some (n / 10) (omega arith))
    ∙ sym (map_push (λ d. 48 + d) (digits_of 10 (n / 10)) (n % 10))
    ∙ ap shown (sym (digits_of_step 10 n (omega arith) (omega arith)))
    ∙ sym (decimal_text-some n (omega arith))

decimal-text : (n : ℕ) → n < 10 ^ 64 → decimal n ≡ decimal_text n
decimal-text n small = decimal_by_steps_wide (λ m ds. ds ≡ decimal_text m) one-digit more-digits n small

pub signed_decimal-text : (z : ℤ) → FitsSigned w128 z → signed_decimal z ≡ canonical_text z
unfolding canonical_text
signed_decimal-text (pos n) fits = decimal-text n (omega (arith, fits))
signed_decimal-text (negsuc n) fits =
    let e : suc n ≡ n + 1 = omega arith in
    ap (λ l. 45 ∷ l) (ap decimal e ∙ decimal-text (n + 1) (omega (arith, fits)))
