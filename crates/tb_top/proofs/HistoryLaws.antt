-- A history with one change more.
use Rattle.std.proofs.Common.{◌≡◌, ℕ, ◌+◌, ◌≤◌, ◌==◌, Bool, true, false, cond, Option, Some, None, Global, List, [], ◌∷◌, ◌++◌, length, map, get_or, set, refl, sym, ap, ◌∙◌, subst, arith, inl, inr, ◌⊎◌, eq-eqb, eqb-true, ◌<◌}
use Rattle.std.specs.Option.{option_map}
use Rattle.std.specs.BTreeMap.{BTreeMap, get, is_at}
use Rattle.std.specs.declared.sync.Arc.{Arc}
use Rattle.std.specs.Arc.{arc_value}
use Rattle.std.specs.Cmp.Lexicographic.{slice_cmp}
use Rattle.std.specs.Ordering.{nat_cmp}
use Rattle.std.specs.Str.{bytes_eq}
use Rattle.std.proofs.lemmas.Bool.{cases_eq, false_from_ne_true}
use Rattle.std.proofs.lemmas.List.{get_or-set_same, get_or-set_other, map-append}
use Rattle.std.proofs.lemmas.Map.Text.{is_eq-slice_cmp}
use Rattle.tb_tree.specs.Plain.{Plain}
use Rattle.tb_tree.specs.View.{plain_of}
use Rattle.tb_tree.specs.declared.node.Node.{Node}
use Rattle.tb_esis.proofs.ReadLaws.{bytes_eq-swap}
use Rattle.tb_tree.specs.Documents.{found}
use Rattle.tb_top.specs.History.{Change, count_of, documents_in}
use Rattle.tb_top.specs.Kept.{change_in}
use Rattle.tb_top.specs.declared.history.Change as change_code

abbrev Shared : Type 0
Shared = Arc Node Global

abbrev tree_of : Shared → Plain
tree_of store = plain_of (arc_value store)

-- the document of one change more stands before the others
pub documents_in-more : (cs : List Change) (c : Change) → documents_in (cs ++ c ∷ []) ≡ (c.name, c.tree) ∷ documents_in cs
documents_in-more [] c = refl
documents_in-more (x ∷ cs) c = ap (λ ds. ds ++ (x.name, x.tree) ∷ []) (documents_in-more cs c)

eq-swapped : (a b : List ℕ) → bytes_eq a b ≡ bytes_eq b a
eq-swapped a b = by (bytes_eq a b) (bytes_eq b a) refl refl
  where
    by : (x y : Bool) → bytes_eq a b ≡ x → bytes_eq b a ≡ y → x ≡ y
    by true true e f = refl
    by false false e f = refl
    by true false e f = sym e ∙ bytes_eq-swap b a f
    by false true e f = sym (bytes_eq-swap a b e) ∙ f

add_one : (mine own : Bool) (n : ℕ) → cond mine (n + cond own 1 0 + 1) (n + cond own 1 0) ≡ cond mine (n + 1) n + cond own 1 0
add_one true true n = omega arith
add_one true false n = omega arith
add_one false own n = refl

pub count_of-more : (session : ℕ) (cs : List Change) (c : Change) → count_of session (cs ++ c ∷ []) ≡ count_of session cs + cond (c.session == session) 1 0
count_of-more session [] c = by (c.session == session)
  where
    by : (b : Bool) → cond b (0 + 1) 0 ≡ 0 + cond b 1 0
    by true = refl
    by false = refl
count_of-more session (x ∷ cs) c =
    ap (λ n. cond (x.session == session) (n + 1) n) (count_of-more session cs c) ∙ add_one (x.session == session) (c.session == session) (count_of session cs)

pub count_of-few : (session : ℕ) (cs : List Change) → count_of session cs ≤ length cs
count_of-few session [] = omega arith
count_of-few session (x ∷ cs) = by (x.session == session) (count_of-few session cs)
  where
    by : (b : Bool) → count_of session cs ≤ length cs → cond b (count_of session cs + 1) (count_of session cs) ≤ length (x ∷ cs)
    by true few = omega arith
    by false few = omega arith

-- the counts of all sessions behind one change more
pub counts-more : (counts : List ℕ) (cs : List Change) (c : Change) → ((session : ℕ) → get_or counts session 0 ≡ count_of session cs) → c.session < length counts
    → (session : ℕ) → get_or (set counts c.session (get_or counts c.session 0 + 1)) session 0 ≡ count_of session (cs ++ c ∷ [])
counts-more counts cs c kept within session = by (cases_eq c.session session)
  where
    by : (c.session ≡ session) ⊎ (c.session ≡ session → ⊥) → get_or (set counts c.session (get_or counts c.session 0 + 1)) session 0 ≡ count_of session (cs ++ c ∷ [])
    by (inl same) =
        subst (λ s. get_or (set counts c.session (get_or counts c.session 0 + 1)) s 0 ≡ count_of s cs + 1) same
        (get_or-set_same counts c.session (get_or counts c.session 0 + 1) 0 within ∙ ap (λ n. n + 1) (kept c.session))
        ∙ sym (count_of-more session cs c ∙ ap (λ b. count_of session cs + cond b 1 0) (eq-eqb c.session session same))
    by (inr other) =
        get_or-set_other counts c.session session (get_or counts c.session 0 + 1) 0 (λ e. other (sym e)) ∙ kept session
        ∙ sym (count_of-more session cs c ∙ ap (λ b. count_of session cs + cond b 1 0) (false_from_ne_true (c.session == session) (λ t. other (eqb-true c.session session t))) ∙ omega arith)

-- the documents behind one change more
pub latest-more : (m n : BTreeMap (List ℕ) Shared) (cs : List Change) (c : Change) (w : Shared) (key : List ℕ) → ((name : List ℕ) → option_map tree_of (get (slice_cmp nat_cmp) m name) ≡ found name (documents_in cs))
    → ((name : List ℕ) → get (slice_cmp nat_cmp) n name ≡ cond (is_at (slice_cmp nat_cmp key) name) (Some w) (get (slice_cmp nat_cmp) m name))
    → key ≡ c.name → tree_of w ≡ c.tree → (name : List ℕ) → option_map tree_of (get (slice_cmp nat_cmp) n name) ≡ found name (documents_in (cs ++ c ∷ []))
latest-more m n cs c w key kept writes same tree name =
    ap (option_map tree_of) (writes name) ∙ by (is_at (slice_cmp nat_cmp key) name) ∙ ap (λ b. cond b (Some c.tree) (found name (documents_in cs))) (is_eq-slice_cmp key name ∙ ap (λ k. bytes_eq k name) same ∙ eq-swapped c.name name)
    ∙ sym (ap (found name) (documents_in-more cs c))
  where
    by : (b : Bool) → option_map tree_of (cond b (Some w) (get (slice_cmp nat_cmp) m name)) ≡ cond b (Some c.tree) (found name (documents_in cs))
    by true = ap Some tree
    by false = kept name

-- a change is made of these four
pub same-change : (session count more : ℕ) (name given : List ℕ) (tree stored : Plain) → count ≡ more → given ≡ name → stored ≡ tree
    → ◌≡◌ {A = Change} (record { session = session; count = count; name = given; tree = stored }) (record { session = session; count = more; name = name; tree = tree })
same-change session count more name given tree stored a b d = cc

-- the changes with their stores, and one more
pub changes-grown : (before same after : List change_code.Change) (x : change_code.Change) (d : Change) → same ≡ before → after ≡ same ++ x ∷ [] → change_in x ≡ d
    → map change_in after ≡ map change_in before ++ d ∷ []
changes-grown before same after x d e more is =
    ap (map change_in) (more ∙ ap (λ (cs : List change_code.Change). cs ++ x ∷ []) e) ∙ map-append change_in before (x ∷ []) ∙ ap (λ (c : Change). map change_in before ++ c ∷ []) is
