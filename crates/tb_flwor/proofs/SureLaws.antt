-- Attributes of one constructor differ where no attribute of the tokens is repeated.
use Rattle.std.proofs.Common.{◌≡◌, ℕ, Bool, true, false, cond, ◌||◌, ◌==◌, not, List, [], ◌∷◌, ◌++◌, Some, None, refl, sym, ap, ◌∙◌, subst, append_assoc}
use Rattle.std.specs.List.{list_any, AllByRecursion}
use Rattle.std.specs.Str.{bytes_eq}
use Rattle.std.proofs.lemmas.Bool.{and_parts, and_from, or_parts}
use Rattle.std.proofs.lemmas.Option.{none-some}
use Rattle.std.proofs.lemmas.Slice.Eq.{bytes_eq-Decides}
use Rattle.tb_tree.specs.Sound.{are_different}
use Rattle.tb_token.specs.grammar.Grammar.{Tok, Expression, many, has}
use Rattle.tb_token.specs.grammar.Sentences.{Tree, pair}
use Rattle.tb_token.specs.grammar.LL1.{are_apart}
use Rattle.tb_token.specs.grammar.Results.{attr}
use Rattle.tb_token.proofs.grammar.TerminalLaws.{none-true, apart-none}
use Rattle.tb_token.specs.tokens.TerminalNames as terminals
use Rattle.tb_query.specs.Actions.{names_of_attributes}
use Rattle.tb_pattern.proofs.PartLaws.{Of, of_one, of_both, of_first, of_second, of_nothing, of_put, of_none, of_more, of_rule, lacks}
use Rattle.tb_flwor.specs.Constructors.{is_named, repeated_in}
use Rattle.tb_flwor.specs.Results.{attrs_of}
use Rattle.tb_flwor.specs.Returned.{tokens_of}
use Rattle.tb_flwor.specs.Value.{BoundNames}
use Rattle.tb_flwor.proofs.TokenLaws.{swapped}
use Rattle.tb_flwor.proofs.SpelledLaws.{IsSpelled}

-- where some names are known, no attribute is repeated
abbrev pub FineSomewhere : List Tok → Type 0
FineSomewhere s = (known : List (List ℕ)) × (repeated_in known s ≡ None)

-- what isn't among more names isn't among the first ones
abbrev Grown : List (List ℕ) → List (List ℕ) → Type 0
Grown known more = (b : List ℕ) → list_any (bytes_eq b) more ≡ false → list_any (bytes_eq b) known ≡ false

-- so it goes on with these names or more
abbrev GoesOn : List (List ℕ) → List Tok → Type 0
GoesOn known s = (more : List (List ℕ)) × Grown known more × (repeated_in more s ≡ None)

grown-behind : (known : List (List ℕ)) (name : List ℕ) → Grown known (known ++ name ∷ [])
grown-behind [] name b e = refl
grown-behind (k ∷ known) name b e =
    let parts = or_parts (bytes_eq b k) (list_any (bytes_eq b) (known ++ name ∷ [])) e in
    rw (parts.0, grown-behind known name b parts.1) refl

last-other : (known : List (List ℕ)) (name b : List ℕ) → list_any (bytes_eq b) (known ++ name ∷ []) ≡ false → bytes_eq b name ≡ false
last-other [] name b e = (or_parts (bytes_eq b name) false e).0
last-other (k ∷ known) name b e = last-other known name b (or_parts (bytes_eq b k) (list_any (bytes_eq b) (known ++ name ∷ [])) e).1

-- One token, by what it is.
step : (opens named old : Bool) (known : List (List ℕ)) (t : Tok) (s : List Tok)
    → cond opens (repeated_in [] s) (cond named (cond old (Some t.number) (repeated_in (known ++ t.bytes ∷ []) s)) (repeated_in known s)) ≡ None → FineSomewhere s
step true named old known t s e = ([], e)
step false true true known t s e = absurd (none-some t.number (sym e))
step false true false known t s e = (known ++ t.bytes ∷ [], e)
step false false old known t s e = (known, e)

pub fine-later : (u rest : List Tok) → FineSomewhere (u ++ rest) → FineSomewhere rest
fine-later [] rest fine = fine
fine-later (t ∷ u) rest fine =
    fine-later u rest (step (t.terminal == terminals.LESS) (is_named (u ++ rest)) (list_any (bytes_eq t.bytes) fine.0) fine.0 t (u ++ rest) fine.1)

inside-step : (named old : Bool) (known : List (List ℕ)) (t : Tok) (s : List Tok)
    → cond named (cond old (Some t.number) (repeated_in (known ++ t.bytes ∷ []) s)) (repeated_in known s) ≡ None → GoesOn known s
inside-step true true known t s e = absurd (none-some t.number (sym e))
inside-step true false known t s e = (known ++ t.bytes ∷ [], grown-behind known t.bytes, e)
inside-step false old known t s e = (known, λ b f. f, e)

abbrev less : List ℕ
less = terminals.LESS ∷ []

not-less : (c : List ℕ) (t : Tok) → are_apart c less ≡ true → has c t.terminal ≡ true → (t.terminal == terminals.LESS) ≡ false
not-less c t apart h = swapped t.terminal terminals.LESS ∙ (or_parts (terminals.LESS == t.terminal) false (apart-none c less t.terminal apart h)).0

token-goes : (known : List (List ℕ)) (t : Tok) (s : List Tok) → (t.terminal == terminals.LESS) ≡ false → repeated_in known (t ∷ s) ≡ None → GoesOn known s
token-goes known t s within e =
    inside-step (is_named s) (list_any (bytes_eq t.bytes) known) known t s
    (sym (ap (λ opens. cond opens (repeated_in [] s) (cond (is_named s) (cond (list_any (bytes_eq t.bytes) known) (Some t.number) (repeated_in (known ++ t.bytes ∷ []) s)) (repeated_in known s))) within) ∙ e)

goes-then : (known : List (List ℕ)) (s : List Tok) (goes : GoesOn known s) (u : List Tok) → GoesOn goes.0 u → GoesOn known u
goes-then known s goes u on = (on.0, λ b f. goes.1 b (on.1 b f), on.2)

-- a tree in which no constructor begins
tree-goes : {p : Expression} {v : Tree} → Of p v → lacks less p ≡ true → (known : List (List ℕ)) (rest : List Tok) → repeated_in known (tokens_of v ++ rest) ≡ None → GoesOn known rest
tree-goes (of_one {c = c} {t = t} h) apart known rest e = token-goes known t rest (not-less c t apart h) e
tree-goes (of_both {p = p} {q = q} {v = v} {w = w} f g) apart known rest e =
    let parts = and_parts (lacks less p) (lacks less q) apart in
    let goes = tree-goes f parts.0 known (tokens_of w ++ rest) (ap (repeated_in known) (sym (append_assoc (tokens_of v) (tokens_of w) rest)) ∙ e) in
    goes-then known (tokens_of w ++ rest) goes rest (tree-goes g parts.1 goes.0 rest goes.2)
tree-goes (of_first {p = p} {q = q} f) apart known rest e = tree-goes f (and_parts (lacks less p) (lacks less q) apart).0 known rest e
tree-goes (of_second {p = p} {q = q} f) apart known rest e = tree-goes f (and_parts (lacks less p) (lacks less q) apart).1 known rest e
tree-goes of_nothing apart known rest e = (known, λ b f. f, e)
tree-goes (of_put f) apart known rest e = tree-goes f apart known rest e
tree-goes of_none apart known rest e = (known, λ b f. f, e)
tree-goes (of_more {v = v} {w = w} f g) apart known rest e =
    let goes = tree-goes f apart known (tokens_of w ++ rest) (ap (repeated_in known) (sym (append_assoc (tokens_of v) (tokens_of w) rest)) ∙ e) in
    goes-then known (tokens_of w ++ rest) goes rest (tree-goes g apart goes.0 rest goes.2)
tree-goes (of_rule h f) apart known rest e = none-true false refl apart

-- Attributes.

-- none of these names is known
abbrev AreNew : List (List ℕ) → List (List ℕ) → Type 0
AreNew known ns = AllByRecursion (λ b. list_any (bytes_eq b) known ≡ false) ns

new-before : (known more : List (List ℕ)) → Grown known more → (ns : List (List ℕ)) → AreNew more ns → AreNew known ns
new-before known more grown [] new = tt
new-before known more grown (n ∷ ns) new = (grown n new.0, new-before known more grown ns new.1)

other-names : (name : List ℕ) (known ns : List (List ℕ)) → AreNew (known ++ name ∷ []) ns → list_any (bytes_eq name) ns ≡ false
other-names name known [] new = refl
other-names name known (n ∷ ns) new =
    rw (turned name n (last-other known name n new.0), other-names name known ns new.1) refl
  where
    turned : (a b : List ℕ) → bytes_eq b a ≡ false → bytes_eq a b ≡ false
    turned a b e = by (bytes_eq a b) refl
      where
        by : (is : Bool) → bytes_eq a b ≡ is → bytes_eq a b ≡ false
        by false f = f
        by true f = absurd (let g : ◌≡◌ {A = Bool} true false = sym ((bytes_eq-Decides b a).1 (sym ((bytes_eq-Decides a b).0 f))) ∙ e in cc)

-- an attribute's name, which `=` follows
name-new : (old : Bool) (known : List (List ℕ)) (t : Tok) (s : List Tok) → cond old (Some t.number) (repeated_in (known ++ t.bytes ∷ []) s) ≡ None
    → (old ≡ false) × (repeated_in (known ++ t.bytes ∷ []) s ≡ None)
name-new true known t s e = absurd (none-some t.number (sym e))
name-new false known t s e = (refl, e)

module _ (names : BoundNames) where
  attributes-new : {v : Tree} → Of (many attr) v → (known : List (List ℕ)) (rest : List Tok) → repeated_in known (tokens_of v ++ rest) ≡ None
      → AreNew known (names_of_attributes (attrs_of names v)) × (are_different (names_of_attributes (attrs_of names v)) ≡ true)
  attributes-new of_none known rest e = (tt, refl)
  attributes-new (of_more {w = w} (of_both (of_one {c = c} {t = t} h) (of_both {w = b} (of_one {c = d} {t = u} k) f)) g) known rest e =
      let s = u ∷ ((tokens_of b ++ tokens_of w) ++ rest) in
      let here : cond (is_named s) (cond (list_any (bytes_eq t.bytes) known) (Some t.number) (repeated_in (known ++ t.bytes ∷ []) s)) (repeated_in known s) ≡ None =
      sym (ap (λ opens. cond opens (repeated_in [] s) (cond (is_named s) (cond (list_any (bytes_eq t.bytes) known) (Some t.number) (repeated_in (known ++ t.bytes ∷ []) s)) (repeated_in known s))) (not-less c t refl h)) ∙ e in
      let equal : is_named s ≡ true = swapped u.terminal terminals.EQUAL ∙ is-one (terminals.EQUAL == u.terminal) k in
      let new = name-new (list_any (bytes_eq t.bytes) known) known t s
      (sym (ap (λ named. cond named (cond (list_any (bytes_eq t.bytes) known) (Some t.number) (repeated_in (known ++ t.bytes ∷ []) s)) (repeated_in known s)) equal) ∙ here) in
      let sign = token-goes (known ++ t.bytes ∷ []) u ((tokens_of b ++ tokens_of w) ++ rest) (not-less d u refl k) new.1 in
      let value = tree-goes f refl sign.0 (tokens_of w ++ rest) (ap (repeated_in sign.0) (sym (append_assoc (tokens_of b) (tokens_of w) rest)) ∙ sign.2) in
      let more = attributes-new g value.0 rest value.2 in
      let ns = names_of_attributes (attrs_of names w) in
      let others = new-before (known ++ t.bytes ∷ []) value.0 (λ x q. sign.1 x (value.1 x q)) ns more.0 in (
        (new.0, new-before known (known ++ t.bytes ∷ []) (grown-behind known t.bytes) ns others),
        and_from (not (list_any (bytes_eq t.bytes) ns)) (are_different ns) (ap not (other-names t.bytes known ns others)) more.1,
      )
    where
      is-one : (x : Bool) → (x || false) ≡ true → x ≡ true
      is-one true q = refl
      is-one false q = q

  pub attributes-differ : {v : Tree} → Of (many attr) v → (rest : List Tok) → FineSomewhere (tokens_of v ++ rest) → are_different (names_of_attributes (attrs_of names v)) ≡ true
  attributes-differ f rest fine = (attributes-new f fine.0 rest fine.1).1

-- What a constructor's tree needs: its names are spelled, and no attribute is repeated in it, whatever comes
-- behind.

abbrev pub Sure : Tree → Type 0
Sure v = (rest : List Tok) × AllByRecursion IsSpelled (tokens_of v) × FineSomewhere (tokens_of v ++ rest)

pub spelled-left : (s u : List Tok) → AllByRecursion IsSpelled (s ++ u) → AllByRecursion IsSpelled s × AllByRecursion IsSpelled u
spelled-left [] u all = (tt, all)
spelled-left (t ∷ s) u all = let rest = spelled-left s u all.1 in ((all.0, rest.0), rest.1)

pub sure-left : (v w : Tree) → Sure (pair v w) → Sure v
sure-left v w sure =
    (tokens_of w ++ sure.0, (spelled-left (tokens_of v) (tokens_of w) sure.1).0, subst FineSomewhere (append_assoc (tokens_of v) (tokens_of w) sure.0) sure.2)

pub sure-right : (v w : Tree) → Sure (pair v w) → Sure w
sure-right v w sure =
    (sure.0, (spelled-left (tokens_of v) (tokens_of w) sure.1).1, fine-later (tokens_of v) (tokens_of w ++ sure.0) (subst FineSomewhere (append_assoc (tokens_of v) (tokens_of w) sure.0) sure.2))
