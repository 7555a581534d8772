-- What the program finds at the beginning is the longest token, and it finds one wherever there is one.
use Rattle.std.proofs.Common.{◌≡◌, ◌⊎◌, inl, inr, ⊎_elim, ℕ, zero, suc, ◌+◌, ◌<◌, ◌≤◌, Bool, true, false, cond, not, ◌==◌, List, [], ◌∷◌, ◌++◌, length, take, drop, Option, None, refl, sym, ap, ◌∙◌, subst, arith, eqb-true, ltb-true, take-append-drop}
use Rattle.std.specs.Prelude.{codes, nat_lt, nat_eq}
use Rattle.std.specs.List.{list_all, prefix_len, starts_with}
use Rattle.std.specs.Str.{bytes_eq}
use Rattle.std.specs.Cmp.Lexicographic.{bytes_decides}
use Rattle.std.proofs.lemmas.Bool.{and_parts, and_from}
use Rattle.std.proofs.lemmas.Bool.Decides.{nat_tests}
use Rattle.std.proofs.lemmas.List.{length-take-le}
use Rattle.std.proofs.lemmas.List.Sums.{prefix_len-le-length}
use Rattle.tb_token.specs.tokens.Bytes.{is_blank, is_digit, is_quote, starts_name}
use Rattle.tb_token.specs.tokens.Names.{is_name, is_keyword, is_among}
use Rattle.tb_token.specs.tokens.Kinds.{is_token, is_closed, is_text_test, signs}
use Rattle.tb_token.specs.tokens.Cuts.{IsLongest}
use Rattle.tb_token.specs.tokens.Prefixes.{Finds, found, rest_len, begins_text_test, named, quoted, variable, is_pair, is_single, sign, prefix_of}
use Rattle.tb_token.specs.declared.lexer.token.Kind.{Kind}
use Rattle.tb_token.specs.declared.lexer.token.Kind.TheVariants.{Name, Word, Variable, Number, Quoted, TextTest, Sign}
use Rattle.tb_token.specs.declared.lexer.prefix.Prefix.{Prefix}
use Rattle.tb_token.proofs.grammar.TerminalLaws.{none-true}
use Rattle.tb_token.proofs.lexing.AmongLaws.{or-by, among-passes}
use Rattle.tb_token.proofs.lexing.KindLaws.{class_of, kind_class, name-class, digit-class, quote-class, dollar-class, token-class, token-some, keyword-name}
use Rattle.tb_token.proofs.lexing.SizeLaws.{all-prefix, all-most, rest-le, name-prefix, name-most, inside, closed-at, closed-prefix}
use Rattle.tb_token.proofs.lexing.SignLaws.{sign-single, sign-pair, sign-short}

pub token-prefix : (k : Kind) (b : ℕ) (bs : List ℕ) (n : ℕ) → is_token k (take n (b ∷ bs)) ≡ true → class_of b ≡ kind_class k
token-prefix k b bs zero is = none-true (is_token k []) (token-some k) is
token-prefix k b bs (suc n) is = token-class k b (take n bs) is

-- all classes but that of names have one kind
abbrev lone : ℕ → Kind
lone class = cond (class == 1) Number (cond (class == 2) Quoted (cond (class == 3) Variable Sign))

lone-is : (k : Kind) → 0 < kind_class k → lone (kind_class k) ≡ k
lone-is Name some = absurd (omega arith)
lone-is Word some = absurd (omega arith)
lone-is TextTest some = absurd (omega arith)
lone-is Variable some = refl
lone-is Number some = refl
lone-is Quoted some = refl
lone-is Sign some = refl

lone-token : (class : ℕ) (k : Kind) (b : ℕ) (bs : List ℕ) (n : ℕ) → class_of b ≡ class → 0 < class → is_token k (take n (b ∷ bs)) ≡ true → is_token (lone class) (take n (b ∷ bs)) ≡ true
lone-token class k b bs n e some is =
    let same : kind_class k ≡ class = sym (token-prefix k b bs n is) ∙ e in
    let kind : lone class ≡ k = ap lone (sym same) ∙ lone-is k (omega arith) in
    rw kind is

-- Numbers.

number-longest : (b : ℕ) (bs : List ℕ) → is_digit b ≡ true → IsLongest (b ∷ bs) Number (1 + prefix_len is_digit bs)
number-longest b bs digit = record {
  within = omega (arith, prefix_len-le-length is_digit bs);
  is =
      let more : 1 + prefix_len is_digit bs ≡ suc (prefix_len is_digit bs) = omega arith in
      rw more (and_from (nat_lt 0 (length (b ∷ take (prefix_len is_digit bs) bs))) (list_all is_digit (b ∷ take (prefix_len is_digit bs) bs))
      (grind (arith, nat_tests)) (and_from (is_digit b) (list_all is_digit (take (prefix_len is_digit bs) bs)) digit (all-prefix is_digit bs)));
  most = λ k n within is.
      let number = lone-token 1 k b bs n (digit-class b digit) (omega arith) is in
      let all = (and_parts (nat_lt 0 (length (take n (b ∷ bs)))) (list_all is_digit (take n (b ∷ bs))) number).1 in
      rw digit at (all-most is_digit (b ∷ bs) n within all);
}

-- Strings.

quoted-size : (q : ℕ) (bs : List ℕ) → is_quote q ≡ true → (k : Kind) (n : ℕ) → n ≤ length (q ∷ bs) → is_token k (take n (q ∷ bs)) ≡ true → (n ≡ inside q bs + 2) × (inside q bs < length bs)
quoted-size q bs quote k zero within is = none-true (is_token k []) (token-some k) is
quoted-size q bs quote k (suc n) within is =
    let string = lone-token 2 k q bs (suc n) (quote-class q quote) (omega arith) is in
    let at = closed-at q bs n (omega arith) (and_parts (is_quote q) (is_closed q (take n bs)) string).1 in
    let size = at.size in
    (omega arith, at.within)

quoted-by : (q : ℕ) (bs : List ℕ) → is_quote q ≡ true → (some : Bool) → nat_lt (inside q bs) (length bs) ≡ some → Finds (q ∷ bs) (cond some (found Quoted (inside q bs + 2)) None)
quoted-by q bs quote true e =
    let some = ltb-true (inside q bs) (length bs) e in
    record {
      within = omega arith;
      is =
          let more : inside q bs + 2 ≡ suc (inside q bs + 1) = omega arith in
          rw more (and_from (is_quote q) (is_closed q (take (inside q bs + 1) bs)) quote (closed-prefix q bs some));
      most = λ k n within is. let size = (quoted-size q bs quote k n within is).0 in omega arith;
    }
quoted-by q bs quote false e = λ k n within is.
    let some = (quoted-size q bs quote k n within is).1 in
    let yes : nat_lt (inside q bs) (length bs) ≡ true = grind (arith, nat_tests) in
    none-true (nat_lt (inside q bs) (length bs)) e yes

-- Variables.

variable-most : (d c : ℕ) (bs : List ℕ) (k : Kind) → class_of d ≡ 3 → (n : ℕ) → n ≤ length (d ∷ c ∷ bs) → is_token k (take n (d ∷ c ∷ bs)) ≡ true → (n ≤ 2 + rest_len bs) × (starts_name c ≡ true)
variable-most d c bs k e zero within is = none-true (is_token k []) (token-some k) is
variable-most d c bs k e (suc zero) within is =
    let name = (and_parts (d == 36) false (lone-token 3 k d (c ∷ bs) 1 e (omega arith) is)).1 in
    none-true false refl name
variable-most d c bs k e (suc (suc n)) within is =
    let name = (and_parts (d == 36) (is_name (take (suc n) (c ∷ bs))) (lone-token 3 k d (c ∷ bs) (suc (suc n)) e (omega arith) is)).1 in
    let rest = name-most c bs (suc n) (omega arith) name in
    (omega arith, (and_parts (starts_name c) _ name).0)

variable-none : (d : ℕ) (k : Kind) → class_of d ≡ 3 → (n : ℕ) → n ≤ 1 → is_token k (take n (d ∷ [])) ≡ true → ⊥
variable-none d k e zero within is = none-true (is_token k []) (token-some k) is
variable-none d k e (suc n) within is =
    let one : n ≡ 0 = omega arith in
    let token = rw one at is in
    none-true false refl (and_parts (d == 36) false (lone-token 3 k d [] 1 e (omega arith) token)).1

variable-by : (d c : ℕ) (bs : List ℕ) → (d == 36) ≡ true → (starts : Bool) → starts_name c ≡ starts → Finds (d ∷ c ∷ bs) (cond starts (found Variable (2 + rest_len bs)) None)
variable-by d c bs dollar true e = record {
  within = omega (arith, rest-le bs);
  is =
      let more : 2 + rest_len bs ≡ suc (1 + rest_len bs) = omega arith in
      rw more (and_from (d == 36) (is_name (take (1 + rest_len bs) (c ∷ bs))) dollar (name-prefix c bs e));
  most = λ k n within is. (variable-most d c bs k (dollar-class d dollar) n within is).0;
}
variable-by d c bs dollar false e = λ k n within is. none-true (starts_name c) e (variable-most d c bs k (dollar-class d dollar) n within is).1

variable-finds : (d : ℕ) (bs : List ℕ) → (d == 36) ≡ true → Finds (d ∷ bs) (variable bs)
variable-finds d [] dollar = λ k n within is. absurd (variable-none d k (dollar-class d dollar) n within is)
variable-finds d (c ∷ bs) dollar = variable-by d c bs dollar (starts_name c) refl

-- Signs.

abbrev begins_pair : ℕ → List ℕ → Bool
begins_pair a [] = false
begins_pair a (b ∷ bs) = is_pair a b

abbrev sign_by : Bool → Bool → Option Prefix
sign_by pair one = cond pair (found Sign 2) (cond one (found Sign 1) None)

sign-by : (a : ℕ) (bs : List ℕ) → sign a bs ≡ sign_by (begins_pair a bs) (is_single a)
sign-by a [] = refl
sign-by a (b ∷ bs) = refl

lone-sign : (k : Kind) → 3 < kind_class k → k ≡ Sign
lone-sign Name some = absurd (omega arith)
lone-sign Word some = absurd (omega arith)
lone-sign TextTest some = absurd (omega arith)
lone-sign Variable some = absurd (omega arith)
lone-sign Number some = absurd (omega arith)
lone-sign Quoted some = absurd (omega arith)
lone-sign Sign some = refl

-- a prefix that is a sign is one of the two
sign-size : (a : ℕ) (bs : List ℕ) (n : ℕ) → n ≤ length (a ∷ bs) → is_among (take n (a ∷ bs)) signs ≡ true → ((n ≡ 1) × (is_single a ≡ true)) ⊎ ((n ≡ 2) × (begins_pair a bs ≡ true))
sign-size a bs zero within is = none-true false refl is
sign-size a bs (suc zero) within is = inl (refl, sym (sign-single a) ∙ is)
sign-size a [] (suc (suc n)) within is = absurd (omega arith)
sign-size a (b ∷ bs) (suc (suc zero)) within is = inr (refl, sym (sign-pair a b) ∙ is)
sign-size a (b ∷ bs) (suc (suc (suc n))) within is = absurd (omega (arith, sign-short (a ∷ b ∷ bs) (suc (suc (suc n))) within is))

token-sign : (a : ℕ) (bs : List ℕ) → 3 < class_of a → (k : Kind) (n : ℕ) → n ≤ length (a ∷ bs) → is_token k (take n (a ∷ bs)) ≡ true → ((n ≡ 1) × (is_single a ≡ true)) ⊎ ((n ≡ 2) × (begins_pair a bs ≡ true))
token-sign a bs class k n within is =
    let here = token-prefix k a bs n is in
    let kind = lone-sign k (omega arith) in
    let token : is_token Sign (take n (a ∷ bs)) ≡ true = subst (λ l. is_token l (take n (a ∷ bs)) ≡ true) kind is in
    sign-size a bs n within token

pair-longest : (a : ℕ) (bs : List ℕ) → 3 < class_of a → begins_pair a bs ≡ true → IsLongest (a ∷ bs) Sign 2
pair-longest a [] class e = none-true false refl e
pair-longest a (b ∷ bs) class e = record {
  within = omega arith;
  is = sign-pair a b ∙ e;
  most = λ k n within is. ⊎_elim (λ one. let size = one.0 in omega arith) (λ two. let size = two.0 in omega arith) (token-sign a (b ∷ bs) class k n within is);
}

sign-finds-by : (a : ℕ) (bs : List ℕ) → 3 < class_of a → (pair one : Bool) → begins_pair a bs ≡ pair → is_single a ≡ one → Finds (a ∷ bs) (sign_by pair one)
sign-finds-by a bs class true one e f = pair-longest a bs class e
sign-finds-by a bs class false true e f = record {
  within = omega arith;
  is = sign-single a ∙ f;
  most = λ k n within is. ⊎_elim (λ one. let size = one.0 in omega arith) (λ two. none-true (begins_pair a bs) e two.1) (token-sign a bs class k n within is);
}
sign-finds-by a bs class false false e f = λ k n within is.
    ⊎_elim (λ one. none-true (is_single a) f one.1) (λ two. none-true (begins_pair a bs) e two.1) (token-sign a bs class k n within is)

sign-finds : (a : ℕ) (bs : List ℕ) → 3 < class_of a → Finds (a ∷ bs) (sign a bs)
sign-finds a bs class = rw (sign-by a bs) (sign-finds-by a bs class (begins_pair a bs) (is_single a) refl refl)

-- Names, keywords and `text()`.

abbrev text_tests : List (List ℕ)
text_tests = codes "text()" ∷ codes "TEXT()" ∷ []

text-size : (bytes : List ℕ) (n : ℕ) → n ≤ length bytes → is_text_test (take n bytes) ≡ true → n ≡ 6
text-size bytes n within is =
    let len = length-take-le n bytes within in
    let six = eqb-true (length (take n bytes)) 6 (among-passes (λ text. length text == 6) (take n bytes) text_tests refl is) in
    omega arith

-- a token that begins as names do is a name or `text()`
name-or-text : (k : Kind) (bytes : List ℕ) → kind_class k ≡ 0 → is_token k bytes ≡ true → (is_name bytes ≡ true) ⊎ (is_text_test bytes ≡ true)
name-or-text Name bytes e is = inl (and_parts (is_name bytes) (not (is_keyword bytes)) is).0
name-or-text Word bytes e is = inl (keyword-name bytes is)
name-or-text TextTest bytes e is = inr is
name-or-text Variable bytes e is = absurd (omega arith)
name-or-text Number bytes e is = absurd (omega arith)
name-or-text Quoted bytes e is = absurd (omega arith)
name-or-text Sign bytes e is = absurd (omega arith)

token-name : (b : ℕ) (bs : List ℕ) → starts_name b ≡ true → (k : Kind) (n : ℕ) → n ≤ length (b ∷ bs) → is_token k (take n (b ∷ bs)) ≡ true → (n ≤ 1 + rest_len bs) ⊎ (is_text_test (take n (b ∷ bs)) ≡ true)
token-name b bs starts k n within is =
    let class = sym (token-prefix k b bs n is) ∙ name-class b starts in
    ⊎_elim (λ name. inl (name-most b bs n within name)) (λ text. inr text) (name-or-text k (take n (b ∷ bs)) class is)

-- a prefix that is `text()` stands there
text-begins : (bytes : List ℕ) (n : ℕ) → n ≤ length bytes → is_text_test (take n bytes) ≡ true → begins_text_test bytes ≡ true
text-begins bytes n within is =
    let six = text-size bytes n within is in
    let test : is_text_test (take 6 bytes) ≡ true = rw six at is in
    or-by (bytes_eq (take 6 bytes) (codes "text()")) (is_among (take 6 bytes) (codes "TEXT()" ∷ []))
    (λ small. let same = (bytes_decides (take 6 bytes) (codes "text()")).0 small in rw same refl)
    (λ other. or-by (bytes_eq (take 6 bytes) (codes "TEXT()")) false
    (λ capital. let same = (bytes_decides (take 6 bytes) (codes "TEXT()")).0 capital in rw same refl)
    (λ never. none-true false refl never) other) test

text-longest : (b : ℕ) (bs : List ℕ) → starts_name b ≡ true → rest_len bs ≡ 3 → 6 ≤ length (b ∷ bs) → is_text_test (take 6 (b ∷ bs)) ≡ true → IsLongest (b ∷ bs) TextTest 6
text-longest b bs starts rest within is = record {
  within = within;
  is = is;
  most = λ k n here token. ⊎_elim (λ name. omega arith) (λ text. let six = text-size (b ∷ bs) n here text in omega arith) (token-name b bs starts k n here token);
}

small-longest : (rest : List ℕ) → IsLongest (codes "text()" ++ rest) TextTest 6
small-longest rest = text-longest 116 (codes "ext()" ++ rest) refl refl (omega arith) refl

capital-longest : (rest : List ℕ) → IsLongest (codes "TEXT()" ++ rest) TextTest 6
capital-longest rest = text-longest 84 (codes "EXT()" ++ rest) refl refl (omega arith) refl

text-finds : (bytes : List ℕ) → begins_text_test bytes ≡ true → IsLongest bytes TextTest 6
text-finds bytes begins =
    or-by (starts_with nat_eq bytes (codes "text()")) (starts_with nat_eq bytes (codes "TEXT()"))
    (λ small.
    let same : codes "text()" ≡ take 6 bytes = (bytes_decides (codes "text()") (take 6 bytes)).0 small in
    let whole : codes "text()" ++ drop 6 bytes ≡ bytes = ap (λ prefix. prefix ++ drop 6 bytes) same ∙ take-append-drop 6 bytes in
    subst (λ all. IsLongest all TextTest 6) whole (small-longest (drop 6 bytes)))
    (λ capital.
    let same : codes "TEXT()" ≡ take 6 bytes = (bytes_decides (codes "TEXT()") (take 6 bytes)).0 capital in
    let whole : codes "TEXT()" ++ drop 6 bytes ≡ bytes = ap (λ prefix. prefix ++ drop 6 bytes) same ∙ take-append-drop 6 bytes in
    subst (λ all. IsLongest all TextTest 6) whole (capital-longest (drop 6 bytes)))
    begins

name-longest : (b : ℕ) (bs : List ℕ) (k : Kind) → starts_name b ≡ true → begins_text_test (b ∷ bs) ≡ false → is_token k (take (1 + rest_len bs) (b ∷ bs)) ≡ true → IsLongest (b ∷ bs) k (1 + rest_len bs)
name-longest b bs k starts other is = record {
  within = omega (arith, rest-le bs);
  is = is;
  most = λ l n within token. ⊎_elim (λ name. name) (λ text. none-true (begins_text_test (b ∷ bs)) other (text-begins (b ∷ bs) n within text)) (token-name b bs starts l n within token);
}

named-by : (b : ℕ) (bs : List ℕ) → starts_name b ≡ true → (text keyword : Bool) → begins_text_test (b ∷ bs) ≡ text → is_keyword (take (1 + rest_len bs) (b ∷ bs)) ≡ keyword
    → Finds (b ∷ bs) (cond text (found TextTest 6) (cond keyword (found Word (1 + rest_len bs)) (found Name (1 + rest_len bs))))
named-by b bs starts true keyword e f = text-finds (b ∷ bs) e
named-by b bs starts false true e f = name-longest b bs Word starts e f
named-by b bs starts false false e f =
    let prefix = take (1 + rest_len bs) (b ∷ bs) in
    let other : not (is_keyword prefix) ≡ true = rw f refl in
    name-longest b bs Name starts e (and_from (is_name prefix) (not (is_keyword prefix)) (name-prefix b bs starts) other)

-- All classes.

blank-or-sign : (b : ℕ) (blank : Bool) → cond blank 5 4 ≡ class_of b → 3 < class_of b
blank-or-sign b true e = omega arith
blank-or-sign b false e = omega arith

other-class : (b : ℕ) → starts_name b ≡ false → is_digit b ≡ false → is_quote b ≡ false → (b == 36) ≡ false → 3 < class_of b
other-class b name digit quote dollar =
    let here : cond (is_blank b) 5 4 ≡ class_of b = rw (name, digit, quote, dollar) refl in
    blank-or-sign b (is_blank b) here

finds-by : (b : ℕ) (bs : List ℕ) (name digit quote dollar : Bool) → starts_name b ≡ name → is_digit b ≡ digit → is_quote b ≡ quote → (b == 36) ≡ dollar
    → Finds (b ∷ bs) (cond name (named (b ∷ bs) (1 + rest_len bs)) (cond digit (found Number (1 + prefix_len is_digit bs)) (cond quote (quoted b bs) (cond dollar (variable bs) (sign b bs)))))
finds-by b bs true digit quote dollar n d q v = named-by b bs n (begins_text_test (b ∷ bs)) (is_keyword (take (1 + rest_len bs) (b ∷ bs))) refl refl
finds-by b bs false true quote dollar n d q v = number-longest b bs d
finds-by b bs false false true dollar n d q v = quoted-by b bs q (nat_lt (inside b bs) (length bs)) refl
finds-by b bs false false false true n d q v = variable-finds b bs v
finds-by b bs false false false false n d q v = sign-finds b bs (other-class b n d q v)

pub prefix_of-finds : (bytes : List ℕ) → Finds bytes (prefix_of bytes)
prefix_of-finds [] = λ k n within is.
    let none : n ≡ 0 = omega arith in
    none-true (is_token k []) (token-some k) (rw none at is)
prefix_of-finds (b ∷ bs) = finds-by b bs (starts_name b) (is_digit b) (is_quote b) (b == 36) refl refl refl refl

-- what the program finds, the bytes begin with
pub finds-prefix_of : (bytes : List ℕ) (prefix : Option Prefix) → prefix ≡ prefix_of bytes → Finds bytes prefix
finds-prefix_of bytes prefix e = subst (λ f. Finds bytes f) (sym e) (prefix_of-finds bytes)
