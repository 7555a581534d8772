-- What an expression begins with, by whether it may be empty.
use Rattle.std.proofs.Common.{◌≡◌, ℕ, Bool, true, false, not, ◌&&◌, ◌||◌, refl}
use Rattle.tb_token.specs.grammar.Grammar.{Expression, one, both, either, maybe, many, opened, has}
use Rattle.tb_token.specs.grammar.Reading.{is_never_empty}
use Rattle.tb_token.specs.reading.Machine.{begins_by}

or-none : (a : Bool) → a ≡ (a || false)
or-none true = refl
or-none false = refl

-- Below, a and b say whether an expression begins with the terminal, f and g whether it is never empty.

in_turn : (a f b g c : Bool) → (a || (not f && (b || (not g && c)))) ≡ ((a || (not f && b)) || (not (f || g) && c))
in_turn true f b g c = refl
in_turn false true b g c = refl
in_turn false false true g c = refl
in_turn false false false g c = refl

in_choice : (a f b g c : Bool) → ((a || (not f && c)) || (b || (not g && c))) ≡ ((a || b) || (not (f && g) && c))
in_choice true f b g c = refl
in_choice false true b g c = refl
in_choice false false true g true = refl
in_choice false false true g false = refl
in_choice false false false g true = refl
in_choice false false false true false = refl
in_choice false false false false false = refl

in_option : (a f c : Bool) → ((a || (not f && c)) || c) ≡ ((a || false) || c)
in_option true f c = refl
in_option false true c = refl
in_option false false true = refl
in_option false false false = refl

-- What stands behind an expression matters where the expression may be empty.
pub begins-behind : (p : Expression) (x : ℕ) (c : Bool) → begins_by p x c ≡ (begins_by p x false || (not (is_never_empty p) && c))
begins-behind (one l) x c = or-none (has l x)
begins-behind (both p q) x c =
    let alone = begins-behind p x (begins_by q x false) in
    let last = begins-behind q x c in
    let whole = begins-behind p x (begins_by q x c) in
    rw (whole, alone, last) (in_turn (begins_by p x false) (is_never_empty p) (begins_by q x false) (is_never_empty q) c)
begins-behind (either p q) x c =
    let one_is = begins-behind p x c in
    let two_is = begins-behind q x c in
    rw (one_is, two_is) (in_choice (begins_by p x false) (is_never_empty p) (begins_by q x false) (is_never_empty q) c)
begins-behind (maybe p) x c =
    let one_is = begins-behind p x c in
    rw one_is (in_option (begins_by p x false) (is_never_empty p) c)
begins-behind (many p) x c =
    let one_is = begins-behind p x c in
    rw one_is (in_option (begins_by p x false) (is_never_empty p) c)
begins-behind (opened l n) x c = or-none (has l x)

module _ (p q : Expression) (x : ℕ) (c : Bool) where
  pub begins-first : begins_by p x false ≡ true → begins_by (both p q) x c ≡ true
  begins-first e = rw (begins-behind p x (begins_by q x c), e) refl

  pub begins-second : begins_by p x false ≡ false → is_never_empty p ≡ false → begins_by (both p q) x c ≡ begins_by q x c
  begins-second e f = rw (begins-behind p x (begins_by q x c), e, f) refl

  pub begins-neither : begins_by p x false ≡ false → is_never_empty p ≡ true → begins_by (both p q) x c ≡ false
  begins-neither e f = rw (begins-behind p x (begins_by q x c), e, f) refl
