-- How long lines are.
use Rattle.std.proofs.Common.{◌≡◌, ℕ, ◌+◌, ◌*◌, ◌≤◌, Bool, true, false, ◌||◌, nat_lt, ◌==◌, codes, List, [], ◌∷◌, ◌++◌, length, refl, ap, ◌∙◌, arith, length-append}
use Rattle.tb_tree.specs.Printed.{escaped_byte, escaped, attribute_line, data_line}

byte-length : (b : ℕ) → length (escaped_byte b) ≤ 4
byte-length b = by_case (b == 92) (b == 10) (nat_lt b 32 || b == 127) refl refl refl
  where
    by_case : (backslash ten low : Bool) → (b == 92) ≡ backslash → (b == 10) ≡ ten → (nat_lt b 32 || b == 127) ≡ low → length (escaped_byte b) ≤ 4
    by_case true ten low is e f = rw is (omega arith)
    by_case false true low is e f = rw (is, e) (omega arith)
    by_case false false true is e f = rw (is, e, f) (omega arith)
    by_case false false false is e f = rw (is, e, f) (omega arith)

-- A byte prints as four at most.
pub escaped-length : (value : List ℕ) → length (escaped value) ≤ 4 * length value
escaped-length [] = omega arith
escaped-length (b ∷ value) = omega (arith, byte-length b, escaped-length value, length-append (escaped_byte b) (escaped value))

pub attribute-length : (name value : List ℕ) → length (attribute_line name value) ≤ 9 + length name + 4 * length value
attribute-length name value =
    omega (arith, escaped-length value, length-append ((name ++ codes " CDATA ") ++ escaped value) (10 ∷ []), length-append (name ++ codes " CDATA ") (escaped value), length-append name (codes " CDATA "))

-- a text with a line more
pub grown-line : (old new line : List ℕ) → new ≡ old ++ line → length new ≡ length old + length line
grown-line old new line is = ap length is ∙ length-append old line

pub attribute-some : (name value : List ℕ) → 9 ≤ length (attribute_line name value)
attribute-some name value =
    omega (arith, length-append ((name ++ codes " CDATA ") ++ escaped value) (10 ∷ []), length-append (name ++ codes " CDATA ") (escaped value), length-append name (codes " CDATA "))

pub data-line-length : (value : List ℕ) → length (data_line value) ≡ 2 + length (escaped value)
data-line-length value = omega (arith, length-append (escaped value) (10 ∷ []))
