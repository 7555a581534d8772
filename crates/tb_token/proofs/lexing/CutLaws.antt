-- A text is cut in one way, and its tokens rise.
use Rattle.std.proofs.Common.{◌≡◌, ℕ, zero, suc, ◌+◌, ◌<◌, ◌≤◌, true, List, [], ◌∷◌, length, take, drop, Option, refl, sym, subst, arith, length-drop}
use Rattle.tb_token.specs.tokens.Bytes.{is_blank, is_quote}
use Rattle.tb_token.specs.tokens.Kinds.{is_token}
use Rattle.tb_token.specs.tokens.Cuts.{IsLongest, BeginsNone, AreCut, at_end, behind_blank, behind_token, at_byte, at_quote, token, IsCut}
use Rattle.tb_token.specs.tokens.Calls.{HasOneCut, Rise}
use Rattle.tb_token.specs.declared.lexer.token.Kind.{Kind}
use Rattle.tb_token.specs.declared.lexer.token.Kind.TheVariants.{Name, Word, Variable, Number, Quoted, TextTest, Sign}
use Rattle.tb_token.specs.declared.lexer.token.Token.{Token}
use Rattle.tb_token.specs.declared.lexer.fault.LexFault.{LexFault}
use Rattle.tb_token.proofs.lexing.KindLaws.{kind_class, blank-class, quote-class, token-some, kind-unique}
use Rattle.tb_token.proofs.grammar.TerminalLaws.{none-true}
use Rattle.tb_token.proofs.lexing.PrefixLaws.{token-prefix}

-- a token has a byte
pub longest-some : {bytes : List ℕ} {k : Kind} {n : ℕ} → IsLongest bytes k n → 0 < n
longest-some {k = k} {n = zero} l = none-true (is_token k []) (token-some k) l.is
longest-some {n = suc n} l = omega arith

longest-end : {k : Kind} {n : ℕ} → IsLongest [] k n → ⊥
longest-end l =
    let some = longest-some l in
    let within = l.within in
    absurd (omega arith)

class-below : (k : Kind) → kind_class k < 5
class-below Name = omega arith
class-below Word = omega arith
class-below Variable = omega arith
class-below Number = omega arith
class-below Quoted = omega arith
class-below TextTest = omega arith
class-below Sign = omega arith

-- no token begins with a blank
longest-blank : {b : ℕ} {bs : List ℕ} {k : Kind} {n : ℕ} → is_blank b ≡ true → IsLongest (b ∷ bs) k n → ⊥
longest-blank {b = b} {bs = bs} {k = k} {n = n} blank l =
    let class = token-prefix k b bs n l.is in
    let five = blank-class b blank in
    let below = class-below k in
    absurd (omega arith)

longest-size : {bytes : List ℕ} {k l : Kind} {n m : ℕ} → IsLongest bytes k n → IsLongest bytes l m → n ≡ m
longest-size {k = k} {l = l} {n = n} {m = m} one two =
    let up = two.most k n one.within one.is in
    let down = one.most l m two.within two.is in
    omega arith

longest-kind : {bytes : List ℕ} {k l : Kind} {n m : ℕ} → IsLongest bytes k n → IsLongest bytes l m → k ≡ l
longest-kind {bytes = bytes} {k = k} {l = l} {n = n} one two =
    kind-unique k l (take n bytes) one.is (subst (λ s. is_token l (take s bytes) ≡ true) (sym (longest-size one two)) two.is)

longest-none : {bytes : List ℕ} {k : Kind} {n : ℕ} → IsLongest bytes k n → BeginsNone bytes → ⊥
longest-none {k = k} {n = n} l none = none k n l.within l.is

blank-no_quote : (b : ℕ) → is_blank b ≡ true → is_quote b ≡ true → ⊥
blank-no_quote b blank quote =
    let five = blank-class b blank in
    let two = quote-class b quote in
    absurd (omega arith)

same-token : (at : ℕ) (bytes : List ℕ) (k j : Kind) (n m : ℕ) {ts us : List Token} {f g : Option LexFault} → k ≡ j → n ≡ m
    → ((vs : List Token) (h : Option LexFault) → AreCut (at + n) (drop n bytes) vs h → (ts ≡ vs) × (f ≡ h))
    → AreCut (at + m) (drop m bytes) us g → (token k at (at + n) ∷ ts ≡ token j at (at + m) ∷ us) × (f ≡ g)
same-token at bytes k j n m {us = us} {g = g} kinds sizes rest e =
    let d : AreCut (at + n) (drop n bytes) us g = rw sizes e in
    let same = rest us g d in
    (rw (kinds, sizes, same.0) refl, same.1)

-- The tokens and the fault of one cut are those of the other.
pub cut-unique : {at : ℕ} {bytes : List ℕ} {ts us : List Token} {f g : Option LexFault} → AreCut at bytes ts f → AreCut at bytes us g → (ts ≡ us) × (f ≡ g)
cut-unique at_end at_end = (refl, refl)
cut-unique at_end (behind_token k n l d) = absurd (longest-end l)
cut-unique (behind_blank blank d) (behind_blank _ e) = cut-unique d e
cut-unique (behind_blank blank d) (behind_token k n l e) = absurd (longest-blank blank l)
cut-unique (behind_blank blank d) (at_byte other _ _) = none-true _ other blank
cut-unique (behind_blank {b = b} blank d) (at_quote quote _) = absurd (blank-no_quote b blank quote)
cut-unique (behind_token k n l d) at_end = absurd (longest-end l)
cut-unique (behind_token k n l d) (behind_blank blank e) = absurd (longest-blank blank l)
cut-unique {at = at} {bytes = bytes} (behind_token k n l d) (behind_token j m r e) =
    same-token at bytes k j n m (longest-kind l r) (longest-size l r) (λ us g e. cut-unique d e) e
cut-unique (behind_token k n l d) (at_byte _ _ none) = absurd (longest-none l none)
cut-unique (behind_token k n l d) (at_quote _ none) = absurd (longest-none l none)
cut-unique (at_byte other _ _) (behind_blank blank e) = none-true _ other blank
cut-unique (at_byte _ _ none) (behind_token k n l e) = absurd (longest-none l none)
cut-unique (at_byte _ _ _) (at_byte _ _ _) = (refl, refl)
cut-unique (at_byte _ other _) (at_quote quote _) = none-true _ other quote
cut-unique (at_quote {b = b} quote _) (behind_blank blank e) = absurd (blank-no_quote b blank quote)
cut-unique (at_quote _ none) (behind_token k n l e) = absurd (longest-none l none)
cut-unique (at_quote quote _) (at_byte _ other _) = none-true _ other quote
cut-unique (at_quote _ _) (at_quote _ _) = (refl, refl)

pub one_cut : (text : List ℕ) → HasOneCut text
one_cut text ts us f g d e = cut-unique d e

-- The tokens of a cut rise, within the bytes.
pub cut-rises : {at : ℕ} {bytes : List ℕ} {ts : List Token} {f : Option LexFault} (low : ℕ) → low ≤ at → AreCut at bytes ts f → Rise low (at + length bytes) ts
cut-rises low le at_end = omega arith
cut-rises low le (behind_blank {at = at} {bs = bs} {ts = ts} blank d) =
    let same : at + 1 + length bs ≡ at + suc (length bs) = omega arith in
    rw same at (cut-rises low (omega arith) d)
cut-rises low le (behind_token {at = at} {bytes = bytes} k n l d) =
    let some = longest-some l in
    let within = l.within in
    let same : at + n + length (drop n bytes) ≡ at + length bytes = omega (arith, length-drop n bytes) in
    (le, omega arith, rw same at (cut-rises (at + n) (omega arith) d))
cut-rises low le (at_byte _ _ _) = omega arith
cut-rises low le (at_quote _ _) = omega arith

pub rise-of_cut : (text : List ℕ) (ts : List Token) (f : Option LexFault) → IsCut text ts f → Rise 0 (length text) ts
rise-of_cut text ts f d =
    let same : 0 + length text ≡ length text = omega arith in
    rw same at (cut-rises 0 (omega arith) d)
