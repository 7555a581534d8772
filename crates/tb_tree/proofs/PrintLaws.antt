-- What is appended piece by piece makes the printed lines.
use Rattle.std.proofs.Common.{◌≡◌, ℕ, zero, suc, ◌+◌, take, drop, ◌≤◌, Bool, true, false, ◌&&◌, ◌||◌, not, nat_le, ◌==◌, List, [], ◌∷◌, ◌++◌, refl, sym, ap, ap₂, ◌∙◌, subst, arith, append_assoc}
use Rattle.std.specs.List.{list_all}
use Rattle.std.proofs.lemmas.Bool.{and_parts, and_from, not-true, leb-true, le-ltb, ne_eqb}
use Rattle.std.proofs.lemmas.List.Folds.{list_all-append}
use Rattle.std.proofs.lemmas.Grind.{flat_map-append}
use Rattle.tb_tree.specs.Printed.{escaped, escaped_byte}
use Rattle.tb_tree.specs.Written.{is_plain, has_escape, IsGrown, CutsEscape}

-- A list that grows by pieces.
pub grown : (a b c x : List ℕ) → IsGrown a b → c ≡ b ++ x → IsGrown a c
grown a b c x first e = (first.0 ++ x, e ∙ ap (λ l. l ++ x) first.1 ∙ append_assoc a first.0 x)

-- what is written, with what is left, makes the whole
pub written_more : (out new whole here left rest : List ℕ) → new ≡ out ++ here → left ≡ here ++ rest → out ++ left ≡ whole → new ++ rest ≡ whole
written_more out new whole here left rest is split before =
    ap (λ l. l ++ rest) is ∙ append_assoc out here rest ∙ ap (λ l. out ++ l) (sym split) ∙ before

-- Plain bytes print as they are.
pub plain-byte : (b : ℕ) → is_plain b ≡ true → escaped_byte b ≡ b ∷ []
plain-byte b plain =
    let outer = and_parts (nat_le 32 b && not (b == 127)) (not (b == 92)) plain in
    let inner = and_parts (nat_le 32 b) (not (b == 127)) outer.0 in
    let high : 32 ≤ b = leb-true 32 b inner.0 in
    let ten : (b == 10) ≡ false = ne_eqb b 10 (λ e. omega arith) in
    rw (not-true (b == 92) outer.1, ten, le-ltb b 32 high, not-true (b == 127) inner.1) refl

pub escaped-plain : (run : List ℕ) → list_all is_plain run ≡ true → escaped run ≡ run
escaped-plain [] all = refl
escaped-plain (b ∷ run) all =
    let parts = and_parts (is_plain b) (list_all is_plain run) all in
    ap₂ (λ x y. x ++ y) (plain-byte b parts.0) (escaped-plain run parts.1)

pub escaped-cut : (bytes run behind : List ℕ) (b : ℕ) → CutsEscape bytes run b behind → escaped bytes ≡ (run ++ escaped_byte b) ++ escaped behind
escaped-cut bytes run behind b cut =
    ap escaped cut.whole ∙ flat_map-append escaped_byte run (b ∷ behind) ∙ ap (λ l. l ++ (escaped_byte b ++ escaped behind)) (escaped-plain run cut.plain)
    ∙ sym (append_assoc run (escaped_byte b) (escaped behind))

-- a byte that is escaped was met
pub cut-told : (bytes run behind : List ℕ) (b : ℕ) → CutsEscape bytes run b behind → has_escape bytes ≡ true
cut-told bytes run behind b cut =
    ap has_escape cut.whole ∙ ap not (list_all-append is_plain run (b ∷ behind))
    ∙ ap (λ r. not (list_all is_plain run && (r && list_all is_plain behind))) cut.escaped ∙ ap (λ l. not (l && false)) cut.plain

pub told-more : (before here whole : Bool) → here ≡ true → (before || here) ≡ whole → true ≡ whole
told-more true here whole is e = e
told-more false here whole is e = sym is ∙ e

pub told-end : (before plain whole : Bool) → plain ≡ true → (before || not plain) ≡ whole → before ≡ whole
told-end true plain whole is e = e
told-end false plain whole is e = ap not (sym is) ∙ e

-- plain bytes, and a block of such behind them
pub plain-block : (bytes : List ℕ) (at n m : ℕ) → m ≡ at + n → list_all is_plain (take at bytes) ≡ true → list_all is_plain (take n (drop at bytes)) ≡ true → list_all is_plain (take m bytes) ≡ true
plain-block bytes zero n m is front block = subst (λ k. list_all is_plain (take k bytes) ≡ true) (let e : n ≡ m = omega (arith, is) in e) block
plain-block [] (suc at) n zero is front block = refl
plain-block [] (suc at) n (suc m) is front block = refl
plain-block (b ∷ bytes) (suc at) n zero is front block = refl
plain-block (b ∷ bytes) (suc at) n (suc m) is front block =
    let parts = and_parts (is_plain b) (list_all is_plain (take at bytes)) front in
    and_from _ _ parts.0 (plain-block bytes at n m (omega (arith, is)) parts.1 block)
