-- What is built of a part is built of its parts.
use Rattle.std.proofs.Common.{◌≡◌, ℕ, Bool, true, false, cond, List, [], ◌∷◌, drop, Option, Some, None, refl, sym, ap, ◌∙◌}
use Rattle.std.specs.Prelude.{codes}
use Rattle.tb_token.specs.grammar.Grammar.{Tok, Expression, one, both, either, maybe, opened, has}
use Rattle.tb_token.specs.grammar.Sentences.{Tree, leaf, nothing, pair, first, second, by_one, by_both, by_first, by_second, left_out, put_in, by_rule}
use Rattle.tb_token.specs.grammar.Reading.{is_never_empty, first_set, after, read}
use Rattle.tb_token.proofs.grammar.PlaceLaws.{read-both, read-first, read-second, read-put_in, read-left_out, read-one, read-rule}
use Rattle.tb_token.proofs.grammar.TerminalLaws.{none-true}
use Rattle.tb_token.specs.grammar.Queries.{rules}
use Rattle.tb_pattern.specs.Faults.{is_past, past_behind}
use Rattle.tb_token.specs.tokens.TerminalNames.{is_sign}
use Rattle.tb_pattern.specs.Building.{next, begins, Come, IsBuilt, Builds}

-- the reading of a list that ends too early, or of a token that is wrong, is no whole one
pub some-none : {A : Type 0} {n : ℕ} → ◌≡◌ {A = Option ℕ} (Some n) None → A
some-none {n = n} e = absurd (let g : ◌≡◌ {A = Option ℕ} (Some n) None = e in cc)

pub false-true : {A : Type 0} → ◌≡◌ {A = Bool} false true → A
false-true e = none-true false refl e

-- The next token is taken.

pub numbers-next : (minus : Bool) (t : Tok) (u : List Tok) → past_behind minus (t ∷ u) ≡ None
    → (is_past minus t.terminal t.bytes ≡ false) × (past_behind (is_sign (codes "-") t.terminal) u ≡ None)
numbers-next minus t u e = by (is_past minus t.terminal t.bytes) refl e
  where
    by : (past : Bool) → is_past minus t.terminal t.bytes ≡ past → cond past (Some t.number) (past_behind (is_sign (codes "-") t.terminal) u) ≡ None
        → (is_past minus t.terminal t.bytes ≡ false) × (past_behind (is_sign (codes "-") t.terminal) u ≡ None)
    by true here e = some-none e
    by false here e = (here, e)

pub come-next : (minus : Bool) (ps qs : List Expression) (t : Tok) (u : List Tok) → Come minus ps (t ∷ u) → read rules (t ∷ u) (Some ps) ≡ read rules u (Some qs)
    → Come (is_sign (codes "-") t.terminal) qs u
come-next minus ps qs t u come e = record {
  parts = sym e ∙ come.parts;
  digits = come.digits.1;
  numbers = (numbers-next minus t u come.numbers).1;
}

-- the same parts in another way
pub come-as : (minus : Bool) (ps qs : List Expression) (s : List Tok) → read rules s (Some ps) ≡ read rules s (Some qs) → Come minus ps s → Come minus qs s
come-as minus ps qs s e come = record { parts = sym e ∙ come.parts; digits = come.digits; numbers = come.numbers }

pub wrong-terminal : {A : Type 0} (c : List ℕ) (t : Tok) (u : List Tok) (ps : List Expression) → has c t.terminal ≡ false → read rules (t ∷ u) (Some (one c ∷ ps)) ≡ None → A
wrong-terminal c t u ps h e =
    let stuck : after rules (one c ∷ ps) t.terminal ≡ None = rw h refl in
    some-none (sym (ap (λ o. read rules u o) stuck) ∙ e)

-- a token stands at the beginning where one must, and its terminal is among these
pub one-builds : (c : List ℕ) (s : List Tok) → Builds (one c) (λ v. v ≡ next s) s (drop 1 s)
one-builds c [] ps minus come = some-none come.parts
one-builds c (t ∷ u) ps minus come = by (has c t.terminal) refl
  where
    by : (is : Bool) → has c t.terminal ≡ is → IsBuilt (one c) (λ v. v ≡ leaf t) ps (t ∷ u) u
    by true h = record {
      minus = is_sign (codes "-") t.terminal;
      behind = come-next minus (one c ∷ ps) ps t u come (read-one rules c t u ps h);
      tree = leaf t;
      is = refl;
      derived = λ vs d. by_one h d;
    }
    by false h = wrong-terminal c t u ps h come.parts

-- a pair of such trees
pub record Both (P Q : Tree → Type 0) (v : Tree) : Type 0 where
  pub one : Tree
  pub two : Tree
  pub pair_is : v ≡ pair one two
  pub one_is : P one
  pub two_is : Q two

module _ (p q : Expression) (P Q : Tree → Type 0) (s mid left : List Tok) where
  both-built : (ps : List Expression) (b : IsBuilt p P (q ∷ ps) s mid) → IsBuilt q Q ps mid left → IsBuilt (both p q) (Both P Q) ps s left
  both-built ps b d = record {
    minus = d.minus;
    behind = d.behind;
    tree = pair b.tree d.tree;
    is = record { one = b.tree; two = d.tree; pair_is = refl; one_is = b.is; two_is = d.is };
    derived = λ vs e. by_both (b.derived (d.tree ∷ vs) (d.derived vs e));
  }

  pub both-builds : Builds p P s mid → Builds q Q mid left → Builds (both p q) (Both P Q) s left
  both-builds one_is two_is ps minus come =
      let b = one_is (q ∷ ps) minus (come-as minus (both p q ∷ ps) (p ∷ q ∷ ps) s (read-both rules p q s ps) come) in
      both-built ps b (two_is ps b.minus b.behind)

-- the same part with a tree of which more is said
pub builds-as : (p : Expression) (P Q : Tree → Type 0) (s left : List Tok) → ((v : Tree) → P v → Q v) → Builds p P s left → Builds p Q s left
builds-as p P Q s left says is ps minus come =
    let b = is ps minus come in
    record { minus = b.minus; behind = b.behind; tree = b.tree; is = says b.tree b.is; derived = b.derived }

-- The next token chooses.

pub record First (P : Tree → Type 0) (v : Tree) : Type 0 where
  pub one : Tree
  pub first_is : v ≡ first one
  pub one_is : P one

pub record Second (Q : Tree → Type 0) (v : Tree) : Type 0 where
  pub two : Tree
  pub second_is : v ≡ second two
  pub two_is : Q two

pub first-builds : (p q : Expression) (P : Tree → Type 0) (s left : List Tok) → begins (first_set p) s ≡ true → Builds p P s left → Builds (either p q) (First P) s left
first-builds p q P [] left e is ps minus come = false-true e
first-builds p q P (t ∷ u) left e is ps minus come =
    let b = is ps minus (come-as minus (either p q ∷ ps) (p ∷ ps) (t ∷ u) (read-first rules p q t u ps e) come) in
    record {
      minus = b.minus;
      behind = b.behind;
      tree = first b.tree;
      is = record { one = b.tree; first_is = refl; one_is = b.is };
      derived = λ vs d. by_first (b.derived vs d);
    }

pub second-builds : (p q : Expression) (Q : Tree → Type 0) (s left : List Tok) → is_never_empty (either p q) ≡ true → begins (first_set p) s ≡ false → Builds q Q s left
    → Builds (either p q) (Second Q) s left
second-builds p q Q [] left filled e is ps minus come =
    let ends : read rules [] (Some (either p q ∷ ps)) ≡ Some 0 = rw filled refl in
    some-none (sym ends ∙ come.parts)
second-builds p q Q (t ∷ u) left filled e is ps minus come =
    let b = is ps minus (come-as minus (either p q ∷ ps) (q ∷ ps) (t ∷ u) (read-second rules p q t u ps e) come) in
    record {
      minus = b.minus;
      behind = b.behind;
      tree = second b.tree;
      is = record { two = b.tree; second_is = refl; two_is = b.is };
      derived = λ vs d. by_second (b.derived vs d);
    }

pub put_in-builds : (p : Expression) (P : Tree → Type 0) (s left : List Tok) → begins (first_set p) s ≡ true → Builds p P s left → Builds (maybe p) P s left
put_in-builds p P [] left e is ps minus come = false-true e
put_in-builds p P (t ∷ u) left e is ps minus come =
    let b = is ps minus (come-as minus (maybe p ∷ ps) (p ∷ ps) (t ∷ u) (read-put_in rules p t u ps e) come) in
    record { minus = b.minus; behind = b.behind; tree = b.tree; is = b.is; derived = λ vs d. put_in (b.derived vs d) }

pub left_out-builds : (p : Expression) (s : List Tok) → begins (first_set p) s ≡ false → Builds (maybe p) (λ v. v ≡ nothing) s s
left_out-builds p [] e ps minus come = record {
  minus = minus;
  behind = come-as minus (maybe p ∷ ps) ps [] refl come;
  tree = nothing;
  is = refl;
  derived = λ vs d. left_out d;
}
left_out-builds p (t ∷ u) e ps minus come = record {
  minus = minus;
  behind = come-as minus (maybe p ∷ ps) ps (t ∷ u) (read-left_out rules p t u ps e) come;
  tree = nothing;
  is = refl;
  derived = λ vs d. left_out d;
}

pub record Opened (P : Tree → Type 0) (v : Tree) : Type 0 where
  pub opening : Tree
  pub inside : Tree
  pub pair_is : v ≡ pair opening inside
  pub inside_is : P inside

pub rule-builds : (c : List ℕ) (n : ℕ) (P : Tree → Type 0) (s left : List Tok) → Builds (rules n) P (drop 1 s) left → Builds (opened c n) (Opened P) s left
rule-builds c n P [] left is ps minus come = some-none come.parts
rule-builds c n P (t ∷ u) left is ps minus come = by (has c t.terminal) refl
  where
    by : (here : Bool) → has c t.terminal ≡ here → IsBuilt (opened c n) (Opened P) ps (t ∷ u) left
    by true h =
        let b = is ps (is_sign (codes "-") t.terminal) (come-next minus (opened c n ∷ ps) (rules n ∷ ps) t u come (read-rule rules c n t u ps h)) in
        record {
          minus = b.minus;
          behind = b.behind;
          tree = pair (leaf t) b.tree;
          is = record { opening = leaf t; inside = b.tree; pair_is = refl; inside_is = b.is };
          derived = λ vs d. by_rule h (b.derived vs d);
        }
    by false h =
        let stuck : after rules (opened c n ∷ ps) t.terminal ≡ None = rw h refl in
        some-none (sym (ap (λ o. read rules u o) stuck) ∙ come.parts)
