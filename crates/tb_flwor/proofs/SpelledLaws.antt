-- Tokens of a text that may stand where a name does are names.
use Rattle.std.proofs.Common.{◌≡◌, ℕ, ◌+◌, ◌-◌, ◌<◌, ◌≤◌, Bool, true, false, cond, ◌&&◌, ◌||◌, not, nat_le, ◌==◌, List, [], ◌∷◌, map, length, take, drop, Option, refl, sym, ap, ◌∙◌, subst, arith, drop-drop}
use Rattle.std.specs.List.{list_all, AllByRecursion}
use Rattle.std.specs.Str.{bytes_eq}
use Rattle.std.specs.Char.{to_ascii_lowercase}
use Rattle.std.proofs.lemmas.Bool.{and_parts, and_from, leb-true, eqb-true, ne_eqb}
use Rattle.std.proofs.lemmas.Slice.Eq.{bytes_eq-Decides}
use Rattle.tb_tree.specs.Names as tree
use Rattle.tb_token.specs.grammar.Grammar.{Tok, has}
use Rattle.tb_token.specs.tokens.Bytes.{is_digit, starts_name}
use Rattle.tb_token.specs.tokens.Names.{goes_on, all_go_on, begins_name, is_name, keywords, is_among, is_keyword}
use Rattle.tb_token.specs.tokens.Kinds.{is_token, signs}
use Rattle.tb_token.specs.tokens.Cuts.{AreCut, at_end, behind_blank, behind_token, at_byte, at_quote, token, IsCut}
use Rattle.tb_token.specs.tokens.Lexemes.{place_in, terminal_of, bytes_of, toks_from, toks_of}
use Rattle.tb_token.specs.tokens.TerminalNames as terminals
use Rattle.tb_token.specs.declared.lexer.token.Kind.{Kind}
use Rattle.tb_token.specs.declared.lexer.token.Kind.TheVariants.{Name, Word, Variable, Number, Quoted, TextTest, Sign}
use Rattle.tb_token.specs.declared.lexer.token.Token.{Token}
use Rattle.tb_token.specs.declared.lexer.fault.LexFault.{LexFault}

-- what may stand where a name does is a name
abbrev pub IsSpelled : Tok → Type 0
IsSpelled t = has terminals.NAMES t.terminal ≡ true → tree.is_name t.bytes ≡ true

-- one of two, each of which is enough
either : {P : Type 0} (x y : Bool) → (x ≡ true → P) → (y ≡ true → P) → (x || y) ≡ true → P
either true y f g e = f refl
either false y f g e = g e

name_byte : (b : ℕ) → 33 ≤ b → (b ≡ 127 → ⊥) → (b ≡ 92 → ⊥) → tree.is_name_byte b ≡ true
name_byte b low rub slash =
    and_from (nat_le 33 b && not (b == 127)) (not (b == 92))
    (and_from (nat_le 33 b) (not (b == 127)) (grind arith) (ap not (ne_eqb b 127 rub))) (ap not (ne_eqb b 92 slash))

between : (b m n : ℕ) → (nat_le m b && nat_le b n) ≡ true → (m ≤ b) × (b ≤ n)
between b m n e = let parts = and_parts (nat_le m b) (nat_le b n) e in (leb-true m b parts.0, leb-true b n parts.1)

exactly : (b n : ℕ) → tree.is_name_byte n ≡ true → (b == n) ≡ true → tree.is_name_byte b ≡ true
exactly b n named e = subst (λ x. tree.is_name_byte x ≡ true) (sym (eqb-true b n e)) named

starts-byte : (b : ℕ) → starts_name b ≡ true → tree.is_name_byte b ≡ true
starts-byte b e =
    either (((nat_le 65 b && nat_le b 90) || (nat_le 97 b && nat_le b 122)) || b == 95) (nat_le 128 b)
    (λ f. either ((nat_le 65 b && nat_le b 90) || (nat_le 97 b && nat_le b 122)) (b == 95)
    (λ g. either (nat_le 65 b && nat_le b 90) (nat_le 97 b && nat_le b 122)
    (λ h. let in_it = between b 65 90 h in name_byte b (omega (arith, in_it.0)) (λ x. omega (arith, x, in_it.1)) (λ x. omega (arith, x, in_it.1)))
    (λ h. let in_it = between b 97 122 h in name_byte b (omega (arith, in_it.0)) (λ x. omega (arith, x, in_it.1)) (λ x. omega (arith, x, in_it.0))) g)
    (λ g. exactly b 95 refl g) f)
    (λ f. let big = leb-true 128 b f in name_byte b (omega (arith, big)) (λ x. omega (arith, x, big)) (λ x. omega (arith, x, big))) e

goes-byte : (b : ℕ) (bs : List ℕ) → goes_on b bs ≡ true → tree.is_name_byte b ≡ true
goes-byte b bs e =
    either (((starts_name b || is_digit b) || b == 45) || b == 46) (b == 58 && begins_name bs)
    (λ f. either ((starts_name b || is_digit b) || b == 45) (b == 46)
    (λ g. either (starts_name b || is_digit b) (b == 45)
    (λ h. either (starts_name b) (is_digit b) (starts-byte b)
    (λ i. let in_it = between b 48 57 i in name_byte b (omega (arith, in_it.0)) (λ x. omega (arith, x, in_it.1)) (λ x. omega (arith, x, in_it.1))) h)
    (λ h. exactly b 45 refl h) g)
    (λ g. exactly b 46 refl g) f)
    (λ f. exactly b 58 refl (and_parts (b == 58) (begins_name bs) f).0) e

go-bytes : (bs : List ℕ) → all_go_on bs ≡ true → list_all tree.is_name_byte bs ≡ true
go-bytes [] e = refl
go-bytes (b ∷ bs) e =
    let parts = and_parts (goes_on b bs) (all_go_on bs) e in
    and_from (tree.is_name_byte b) (list_all tree.is_name_byte bs) (goes-byte b bs parts.0) (go-bytes bs parts.1)

name-name : (bytes : List ℕ) → is_name bytes ≡ true → tree.is_name bytes ≡ true
name-name [] e = e
name-name (b ∷ bs) e =
    let parts = and_parts (starts_name b) (all_go_on bs) e in
    and_from (tree.is_name_byte b) (list_all tree.is_name_byte bs) (starts-byte b parts.0) (go-bytes bs parts.1)

-- one of texts that are names
among-name : (bytes : List ℕ) (texts : List (List ℕ)) → list_all tree.is_name texts ≡ true → is_among bytes texts ≡ true → tree.is_name bytes ≡ true
among-name bytes [] all e = absurd (let g : ◌≡◌ {A = Bool} true false = sym e in cc)
among-name bytes (text ∷ texts) all e =
    let parts = and_parts (tree.is_name text) (list_all tree.is_name texts) all in
    either (bytes_eq bytes text) (is_among bytes texts)
    (λ f. subst (λ b. tree.is_name b ≡ true) (sym ((bytes_eq-Decides bytes text).0 f)) parts.0)
    (among-name bytes texts parts.1) e

keyword-name : (bytes : List ℕ) → is_keyword bytes ≡ true → tree.is_name bytes ≡ true
keyword-name bytes e =
    either (is_among bytes keywords) (is_among bytes (map (map to_ascii_lowercase) keywords))
    (among-name bytes keywords refl) (among-name bytes (map (map to_ascii_lowercase) keywords) refl) e

-- a sign's terminal lies before those of keywords
below-none : (x : ℕ) (c : List ℕ) → x < 64 → list_all (nat_le 64) c ≡ true → has c x ≡ false
below-none x [] low all = refl
below-none x (n ∷ c) low all =
    let parts = and_parts (nat_le 64 n) (list_all (nat_le 64) c) all in
    let high = leb-true 64 n parts.0 in
    rw (ne_eqb n x (λ e. omega (arith, e, high, low)), below-none x c low parts.1) refl

place-most : (bytes : List ℕ) (texts : List (List ℕ)) → place_in bytes texts ≤ length texts
place-most bytes [] = omega arith
place-most bytes (text ∷ texts) = by (bytes_eq bytes text) (place-most bytes texts)
  where
    by : (is : Bool) → place_in bytes texts ≤ length texts → cond is 0 (1 + place_in bytes texts) ≤ length (text ∷ texts)
    by true most = omega arith
    by false most = omega (arith, most)

sign-none : (bytes : List ℕ) → has terminals.NAMES (terminal_of Sign bytes) ≡ false
sign-none bytes =
    let most : place_in bytes signs ≤ 24 = place-most bytes signs in
    rw (ne_eqb 0 (8 + place_in bytes signs) (λ e. omega (arith, e)), below-none (8 + place_in bytes signs) (map (terminal_of Word) keywords) (omega (arith, most)) refl) refl

none : (x : Bool) → x ≡ false → x ≡ true → ⊥
none true e f = (let g : ◌≡◌ {A = Bool} true false = e in cc)
none false e f = (let g : ◌≡◌ {A = Bool} true false = sym f in cc)

token-spelled : (k : Kind) (bytes : List ℕ) → is_token k bytes ≡ true → has terminals.NAMES (terminal_of k bytes) ≡ true → tree.is_name bytes ≡ true
token-spelled Name bytes is e = name-name bytes (and_parts (is_name bytes) (not (is_keyword bytes)) is).0
token-spelled Word bytes is e = keyword-name bytes is
token-spelled Variable bytes is e = absurd (none _ refl e)
token-spelled Number bytes is e = absurd (none _ refl e)
token-spelled Quoted bytes is e = absurd (none _ refl e)
token-spelled TextTest bytes is e = absurd (none _ refl e)
token-spelled Sign bytes is e = absurd (none _ (sign-none bytes) e)

module _ (text : List ℕ) where
  spelled-cut : {at : ℕ} {bytes : List ℕ} {ts : List Token} {f : Option LexFault} (n : ℕ) → AreCut at bytes ts f → bytes ≡ drop at text → AllByRecursion IsSpelled (toks_from n text ts)
  spelled-cut n at_end e = tt
  spelled-cut n (behind_blank {at = at} {b = b} {bs = bs} blank d) e = spelled-cut n d (ap (λ s. drop 1 s) e ∙ drop-drop 1 at text)
  spelled-cut n (behind_token {at = at} {bytes = bytes} k size l d) e =
      let few : at + size - at ≡ size = omega arith in
      let same : bytes_of text (token k at (at + size)) ≡ take size bytes = rw (few, e) refl in (
        λ terminal. rw (sym same) at (token-spelled k (take size bytes) l.is (rw same at terminal)),
        spelled-cut (n + 1) d (ap (λ s. drop size s) e ∙ drop-drop size at text),
      )
  spelled-cut n (at_byte _ _ _) e = tt
  spelled-cut n (at_quote _ _) e = tt

pub spelled-of_cut : (text : List ℕ) (ts : List Token) (f : Option LexFault) → IsCut text ts f → AllByRecursion IsSpelled (toks_of text ts)
spelled-of_cut text ts f d = spelled-cut text 1 d refl
