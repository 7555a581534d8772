-- Which attributes wait, by what is noted for each name.
use Rattle.std.proofs.Common.{◌≡◌, ◌↔◌, ℕ, ◌+◌, ◌<◌, ◌≤◌, max, Bool, true, false, cond, not, ◌||◌, ◌==◌, ◌⊎◌, inl, inr, List, [], ◌∷◌, ◌++◌, length, get_or, Some, None, refl, sym, ap, ◌∙◌, subst, arith, ⊎_elim}
use Rattle.std.specs.List.{list_any}
use Rattle.std.specs.Str.{bytes_eq}
use Rattle.std.proofs.lemmas.Bool.{false≢true, eqb-true, eq-eqb, cases_lt}
use Rattle.std.proofs.lemmas.List.{map-append, get_or_append_left, get_or_past}
use Rattle.std.proofs.lemmas.List.Folds.{list_any-append}
use Rattle.std.proofs.lemmas.Slice.Eq.{bytes_eq-Decides}
use Rattle.tb_tree.specs.Plain.{Plain, attr}
use Rattle.tb_tree.specs.Making.{Made, attribute_name, names_of, with_attribute}
use Rattle.tb_tree.specs.NameTables.{IsKnown, IsNumber, IsMore, same, one_more}
use Rattle.tb_tree.specs.declared.draft.Draft.{Draft}
use Rattle.tb_tree.specs.Drafts.{is_none, WaitsIn, IsNoted}
use Rattle.tb_tree.proofs.NameLaws.{more-length}

-- what is noted stays, where no attribute waits
pub notes-kept : (d d' : Draft) (m m' : Made) → IsNoted d m → d'.waited.items ≡ d.waited.items → d'.attributes ≡ d.attributes → length d.extents.items ≤ length d'.extents.items → d'.is_waiting ≡ false
    → IsNoted d' m'
notes-kept d d' m m' notes waited names long none = record {
  noted = λ waits. absurd (false≢true (sym none ∙ waits));
  risen = λ n. omega (arith, ap (λ w. get_or w n 0) waited, notes.risen n, long);
  few_noted = omega (arith, ap length waited, ap length names, notes.few_noted);
}

either : (a b : Bool) → (a || b) ≡ true → (a ≡ true) ⊎ (b ≡ true)
either true b e = inl refl
either false b e = inr e

or-first : (a b : Bool) → a ≡ true → (a || b) ≡ true
or-first true b e = refl
or-first false b e = absurd (false≢true e)

or-second : (a b : Bool) → b ≡ true → (a || b) ≡ true
or-second true b e = refl
or-second false b e = e

more-names : (q : List ℕ) (ws : List Plain) (name value : List ℕ)
    → list_any (bytes_eq q) (names_of (ws ++ attr name value ∷ [])) ≡ (list_any (bytes_eq q) (names_of ws) || (bytes_eq q name || false))
more-names q ws name value =
    ap (list_any (bytes_eq q)) (map-append attribute_name ws (attr name value ∷ [])) ∙ list_any-append (bytes_eq q) (names_of ws) (name ∷ [])

number-more : (old new : List (List ℕ)) (q : List ℕ) (n : ℕ) → IsMore old new → IsNumber old q n → IsNumber new q n
number-more old new q n (same is) at = subst (λ names. IsNumber names q n) (sym is) at
number-more old new q n (one_more name is) at =
    (omega (arith, at.0, (more-length old new (one_more name is)).0), ap (λ names. get_or names n []) is ∙ get_or_append_left old (name ∷ []) [] n at.0 ∙ at.1)

number-less : (old new : List (List ℕ)) (q : List ℕ) (n : ℕ) → IsMore old new → n < length old → IsNumber new q n → IsNumber old q n
number-less old new q n (same is) less at = subst (λ names. IsNumber names q n) is at
number-less old new q n (one_more name is) less at =
    (less, sym (ap (λ names. get_or names n []) is ∙ get_or_append_left old (name ∷ []) [] n less) ∙ at.1)

-- what waits already for the element that is kept or new
Before : Draft → Made → ℕ → Type 0
Before d m here = (q : List ℕ) → (list_any (bytes_eq q) (names_of m.waiting) ≡ true) ↔ WaitsIn d.attributes d.waited.items here q

before-noted : (d : Draft) (m : Made) (place : ℕ) (waits : Bool) → d.is_waiting ≡ waits → d.is_waiting ≡ not (is_none m.waiting) → IsNoted d m
    → place ≡ cond waits d.kept (length d.extents.items) → Before d m (place + 1)
unfolding Before
before-noted d m place true is some notes at = subst (λ p. (q : List ℕ) → (list_any (bytes_eq q) (names_of m.waiting) ≡ true) ↔ WaitsIn d.attributes d.waited.items (p + 1) q) (sym at) (notes.noted is)
before-noted d m place false is some notes at = λ q. (
  λ any. absurd (false≢true (sym (none-waits q m.waiting (sym is ∙ some)) ∙ any)),
  λ w. absurd (omega (arith, notes.risen w.0, w.2, at)),
)
  where
    none-waits : (q : List ℕ) (ws : List Plain) → false ≡ not (is_none ws) → list_any (bytes_eq q) (names_of ws) ≡ false
    none-waits q [] e = refl
    none-waits q (w ∷ ws) e = absurd (false≢true e)

-- An attribute more is noted.
pub notes-attribute : (d d' : Draft) (m : Made) (name value : List ℕ) (number : ℕ) → d.is_waiting ≡ not (is_none m.waiting) → IsNoted d m
    → IsNumber d'.attributes name number → IsMore d.attributes d'.attributes
    → d'.kept ≡ cond d.is_waiting d.kept (length d.extents.items)
    → ((n : ℕ) → get_or d'.waited.items n 0 ≡ cond (n == number) (d'.kept + 1) (get_or d.waited.items n 0))
    → length d'.waited.items ≤ max (length d.waited.items) (number + 1)
    → length d.extents.items ≤ length d'.extents.items → d'.kept + 1 ≤ length d'.extents.items
    → IsNoted d' (with_attribute m name value)
unfolding Before
notes-attribute d d' m name value number some notes at more place written few long kept = record {
  noted = λ waits q. (
    λ any. ⊎_elim (λ e. stays q (before q).0 e) (λ e. fresh q e) (either _ _ (sym (more-names q m.waiting name value) ∙ any)),
    λ w. more-names q m.waiting name value ∙ back q w.0 (w.0 == number) refl w.1 w.2,
  );
  risen = λ n. rises n (n == number) refl;
  few_noted = omega (arith, few, notes.few_noted, (more-length _ _ more).0, at.0);
}
  where
    before : Before d m (d'.kept + 1)
    before = before-noted d m d'.kept d.is_waiting refl some notes place

    here : (n : ℕ) (b : Bool) → (n == number) ≡ b → get_or d'.waited.items n 0 ≡ cond b (d'.kept + 1) (get_or d.waited.items n 0)
    here n b is = written n ∙ ap (λ x. cond x (d'.kept + 1) (get_or d.waited.items n 0)) is

    same_or : (n : ℕ) (b : Bool) → (n == number) ≡ b → get_or d.waited.items n 0 ≡ d'.kept + 1 → get_or d'.waited.items n 0 ≡ d'.kept + 1
    same_or n true is e = here n true is
    same_or n false is e = here n false is ∙ e

    stays : (q : List ℕ) → (list_any (bytes_eq q) (names_of m.waiting) ≡ true → WaitsIn d.attributes d.waited.items (d'.kept + 1) q) → list_any (bytes_eq q) (names_of m.waiting) ≡ true → WaitsIn d'.attributes d'.waited.items (d'.kept + 1) q
    stays q found e =
        let w = found e in
        (w.0, number-more _ _ q w.0 more w.1, same_or w.0 (w.0 == number) refl w.2)

    alike : (q : List ℕ) → (bytes_eq q name || false) ≡ true → q ≡ name
    alike q e = (bytes_eq-Decides q name).0 (strip (bytes_eq q name) e)
      where
        strip : (b : Bool) → (b || false) ≡ true → b ≡ true
        strip true e = refl
        strip false e = absurd (false≢true e)

    fresh : (q : List ℕ) → (bytes_eq q name || false) ≡ true → WaitsIn d'.attributes d'.waited.items (d'.kept + 1) q
    fresh q e = (number, subst (λ x. IsNumber d'.attributes x number) (sym (alike q e)) at, here number true (eq-eqb number number refl))

    back : (q : List ℕ) (n : ℕ) (b : Bool) → (n == number) ≡ b → IsNumber d'.attributes q n → get_or d'.waited.items n 0 ≡ d'.kept + 1
        → (list_any (bytes_eq q) (names_of m.waiting) || (bytes_eq q name || false)) ≡ true
    back q n true is found e =
        let q_is : q ≡ name = sym found.1 ∙ ap (λ k. get_or d'.attributes k []) (eqb-true n number is) ∙ at.1 in
        or-second (list_any (bytes_eq q) (names_of m.waiting)) (bytes_eq q name || false) (or-first (bytes_eq q name) false ((bytes_eq-Decides q name).1 q_is))
    back q n false is found e =
        let old : get_or d.waited.items n 0 ≡ d'.kept + 1 = sym (here n false is) ∙ e in
        or-first (list_any (bytes_eq q) (names_of m.waiting)) (bytes_eq q name || false)
        ((before q).1 (n, number-less _ _ q n more (within n old) found, old))
      where
        within : (n : ℕ) → get_or d.waited.items n 0 ≡ d'.kept + 1 → n < length d.attributes
        within n old =
            ⊎_elim (λ (less : n < length d.waited.items). omega (arith, less, notes.few_noted))
            (λ (past : length d.waited.items ≤ n). absurd (omega (arith, get_or_past d.waited.items n 0 past, old))) (cases_lt n (length d.waited.items))

    rises : (n : ℕ) (b : Bool) → (n == number) ≡ b → get_or d'.waited.items n 0 ≤ length d'.extents.items
    rises n true is = omega (arith, here n true is, kept)
    rises n false is = omega (arith, here n false is, notes.risen n, long)

-- A name waits where its number waited last for the element that is kept.
told_case : (names : List (List ℕ)) (waited : List ℕ) (here : ℕ) (name : List ℕ) (n : ℕ) (any b : Bool) → ((any ≡ true) ↔ WaitsIn names waited here name) → IsKnown names name (Some n)
    → (get_or waited n 0 == here) ≡ b → b ≡ any
told_case names waited here name n any true means known is = sym (means.1 (n, known.0, eqb-true _ _ is))
told_case names waited here name n true false means known is =
    let w = means.0 refl in
    absurd (false≢true (sym is ∙ eq-eqb _ _ (ap (λ k. get_or waited k 0) (sym (known.1 w.0 w.1)) ∙ w.2)))
told_case names waited here name n false false means known is = refl

pub waiting-told : (d : Draft) (m : Made) (name : List ℕ) (n : ℕ) → IsNoted d m → d.is_waiting ≡ true → IsKnown d.attributes name (Some n)
    → (get_or d.waited.items n 0 == d.kept + 1) ≡ list_any (bytes_eq name) (names_of m.waiting)
waiting-told d m name n notes waits known = told_case d.attributes d.waited.items (d.kept + 1) name n _ _ (notes.noted waits name) known refl

none_case : (names : List (List ℕ)) (waited : List ℕ) (here : ℕ) (name : List ℕ) (any : Bool) → ((any ≡ true) ↔ WaitsIn names waited here name) → IsKnown names name None → false ≡ any
none_case names waited here name true means known =
    let w = means.0 refl in
    absurd (known w.0 w.1)
none_case names waited here name false means known = refl

pub waiting-none : (d : Draft) (m : Made) (name : List ℕ) → IsNoted d m → d.is_waiting ≡ true → IsKnown d.attributes name None → false ≡ list_any (bytes_eq name) (names_of m.waiting)
waiting-none d m name notes waits known = none_case d.attributes d.waited.items (d.kept + 1) name _ (notes.noted waits name) known

pub none-waiting : (name : List ℕ) (ws : List Plain) → false ≡ not (is_none ws) → false ≡ list_any (bytes_eq name) (names_of ws)
none-waiting name [] e = refl
none-waiting name (w ∷ ws) e = absurd (false≢true e)
