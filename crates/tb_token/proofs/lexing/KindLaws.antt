-- The first byte of a token tells its class, and its bytes tell its kind.
use Rattle.std.proofs.Common.{◌≡◌, ℕ, Bool, true, false, cond, not, ◌==◌, List, [], ◌∷◌, refl, sym, ap, ◌∙◌, arith, eqb-true}
use Rattle.std.specs.Prelude.{nat_lt, length, codes}
use Rattle.std.specs.List.{list_all}
use Rattle.std.proofs.lemmas.Bool.{and_parts, not-true}
use Rattle.std.proofs.lemmas.Bool.Decides.{nat_tests}
use Rattle.tb_token.specs.tokens.Bytes.{is_blank, is_digit, is_quote, starts_name}
use Rattle.tb_token.specs.tokens.Names.{is_name, is_keyword, all_go_on}
use Rattle.tb_token.specs.tokens.Kinds.{is_token, is_closed, is_text_test, signs}
use Rattle.tb_token.specs.declared.lexer.token.Kind.{Kind}
use Rattle.tb_token.specs.declared.lexer.token.Kind.TheVariants.{Name, Word, Variable, Number, Quoted, TextTest, Sign}
use Rattle.tb_token.proofs.lexing.AmongLaws.{among-passes, keyword-passes}

-- names 0, numbers 1, strings 2, variables 3, signs 4; blanks 5
abbrev pub class_of : ℕ → ℕ
class_of b = cond (starts_name b) 0 (cond (is_digit b) 1 (cond (is_quote b) 2 (cond (b == 36) 3 (cond (is_blank b) 5 4))))

abbrev pub kind_class : Kind → ℕ
kind_class Name = 0
kind_class Word = 0
kind_class TextTest = 0
kind_class Number = 1
kind_class Quoted = 2
kind_class Variable = 3
kind_class Sign = 4

pub name-class : (b : ℕ) → starts_name b ≡ true → class_of b ≡ 0
name-class b is = rw is refl

pub digit-class : (b : ℕ) → is_digit b ≡ true → class_of b ≡ 1
digit-class b is =
    let other : starts_name b ≡ false = grind (arith, nat_tests) in
    rw (other, is) refl

pub quote-class : (b : ℕ) → is_quote b ≡ true → class_of b ≡ 2
quote-class b is =
    let other : starts_name b ≡ false = grind (arith, nat_tests) in
    let another : is_digit b ≡ false = grind (arith, nat_tests) in
    rw (other, another, is) refl

pub dollar-class : (b : ℕ) → (b == 36) ≡ true → class_of b ≡ 3
dollar-class b is = let here = eqb-true b 36 is in rw here refl

pub blank-class : (b : ℕ) → is_blank b ≡ true → class_of b ≡ 5
blank-class b is =
    let other : starts_name b ≡ false = grind (arith, nat_tests) in
    let another : is_digit b ≡ false = grind (arith, nat_tests) in
    let third : is_quote b ≡ false = grind (arith, nat_tests) in
    let fourth : (b == 36) ≡ false = grind (arith, nat_tests) in
    rw (other, another, third, fourth, is) refl

abbrev is_first_of : ℕ → List ℕ → Bool
is_first_of class [] = false
is_first_of class (b ∷ bs) = class_of b == class

first-of : (class b : ℕ) (bs : List ℕ) → is_first_of class (b ∷ bs) ≡ true → class_of b ≡ class
first-of class b bs e = eqb-true (class_of b) class e

-- the first byte of a token is of the class of its kind
pub token-class : (k : Kind) (b : ℕ) (bs : List ℕ) → is_token k (b ∷ bs) ≡ true → class_of b ≡ kind_class k
token-class Name b bs is =
    let name = (and_parts (is_name (b ∷ bs)) (not (is_keyword (b ∷ bs))) is).0 in
    name-class b (and_parts (starts_name b) (all_go_on bs) name).0
token-class Word b bs is = first-of 0 b bs (keyword-passes (is_first_of 0) (b ∷ bs) refl refl is)
token-class Variable b bs is = dollar-class b (and_parts (b == 36) (is_name bs) is).0
token-class Number b bs is =
    let all = (and_parts (nat_lt 0 (length (b ∷ bs))) (list_all is_digit (b ∷ bs)) is).1 in
    digit-class b (and_parts (is_digit b) (list_all is_digit bs) all).0
token-class Quoted b bs is = quote-class b (and_parts (is_quote b) (is_closed b bs) is).0
token-class TextTest b bs is = first-of 0 b bs (among-passes (is_first_of 0) (b ∷ bs) (codes "text()" ∷ codes "TEXT()" ∷ []) refl is)
token-class Sign b bs is = first-of 4 b bs (among-passes (is_first_of 4) (b ∷ bs) signs refl is)

-- no token is empty
pub token-some : (k : Kind) → is_token k [] ≡ false
token-some Name = refl
token-some Word = refl
token-some Variable = refl
token-some Number = refl
token-some Quoted = refl
token-some TextTest = refl
token-some Sign = refl

pub keyword-name : (bytes : List ℕ) → is_keyword bytes ≡ true → is_name bytes ≡ true
keyword-name bytes keyword = keyword-passes is_name bytes refl refl keyword

pub text_test-no_name : (bytes : List ℕ) → is_text_test bytes ≡ true → not (is_name bytes) ≡ true
text_test-no_name bytes is = among-passes (λ text. not (is_name text)) bytes (codes "text()" ∷ codes "TEXT()" ∷ []) refl is

abbrev of_name : List ℕ → Kind
of_name bytes = cond (is_name bytes) (cond (is_keyword bytes) Word Name) TextTest

abbrev by_class : ℕ → List ℕ → Kind
by_class class bytes = cond (class == 0) (of_name bytes) (cond (class == 1) Number (cond (class == 2) Quoted (cond (class == 3) Variable Sign)))

abbrev kind_of : List ℕ → Kind
kind_of [] = Sign
kind_of (b ∷ bs) = by_class (class_of b) (b ∷ bs)

kind-by : (k : Kind) (bytes : List ℕ) → is_token k bytes ≡ true → by_class (kind_class k) bytes ≡ k
kind-by Name bytes is =
    let parts = and_parts (is_name bytes) (not (is_keyword bytes)) is in
    let no = not-true (is_keyword bytes) parts.1 in
    rw (parts.0, no) refl
kind-by Word bytes is = rw (keyword-name bytes is, is) refl
kind-by Variable bytes is = refl
kind-by Number bytes is = refl
kind-by Quoted bytes is = refl
kind-by TextTest bytes is =
    let no = not-true (is_name bytes) (text_test-no_name bytes is) in
    rw no refl
kind-by Sign bytes is = refl

kind-is : (k : Kind) (bytes : List ℕ) → is_token k bytes ≡ true → kind_of bytes ≡ k
kind-is k [] is = absurd (let d : ◌≡◌ {A = Bool} false true = sym (token-some k) ∙ is in cc)
kind-is k (b ∷ bs) is = ap (λ class. by_class class (b ∷ bs)) (token-class k b bs is) ∙ kind-by k (b ∷ bs) is

-- Bytes are a token of one kind.
pub kind-unique : (k l : Kind) (bytes : List ℕ) → is_token k bytes ≡ true → is_token l bytes ≡ true → k ≡ l
kind-unique k l bytes one two = sym (kind-is k bytes one) ∙ kind-is l bytes two
