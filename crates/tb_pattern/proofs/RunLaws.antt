-- The law of a list in the grammar: a part any number of times, built one after the other.
use Rattle.std.proofs.Common.{◌≡◌, ℕ, Bool, true, false, ◌≤◌, ◌-◌, List, [], ◌∷◌, ◌++◌, length, drop, Some, refl, sym, ap, ◌∙◌, append_assoc, append-nil, length-drop, arith}
use Rattle.tb_token.specs.grammar.Grammar.{Tok, Expression, one, both, many}
use Rattle.tb_token.specs.grammar.Terminals.{list_of}
use Rattle.tb_token.specs.grammar.Sentences.{Tree, nothing, pair, Derives, by_both, no_more, one_more}
use Rattle.tb_token.specs.grammar.Reading.{is_never_empty, first_set, read}
use Rattle.tb_token.proofs.grammar.PlaceLaws.{read-both, read-one_more, read-no_more}
use Rattle.tb_token.specs.grammar.Queries.{rules}
use Rattle.tb_pattern.specs.Building.{next, begins, Come, IsBuilt, Builds}
use Rattle.tb_pattern.proofs.BuildingLaws.{false-true, come-as, one-builds, Both, both-builds, builds-as}

-- `put` puts what was found before a value, and `more` is the value of a repetition's tree.
module _ (p : Expression) {A B : Type 0} (put : B → A → A) (more : Tree → A) where
  pub record IsRun (old found : B) (ps : List Expression) (s left : List Tok) (behind : Tree) : Type 0 where
    pub tree : Tree
    pub value : put old (more tree) ≡ put found (more behind)
    pub derived : (vs : List Tree) → Derives rules (many p ∷ ps) (behind ∷ vs) left → Derives rules (many p ∷ ps) (tree ∷ vs) s

  pub record Runs (old found : B) (ps : List Expression) (s left : List Tok) : Type 0 where
    pub minus : Bool
    pub behind : Come minus (many p ∷ ps) left
    pub made : (w : Tree) → IsRun old found ps s left w

  -- so much of the repetition is built, whatever comes behind it
  abbrev pub BuildsRun : B → B → List Tok → List Tok → Type 0
  BuildsRun old found s left = (ps : List Expression) (minus : Bool) → Come minus (many p ∷ ps) s → Runs old found ps s left

  -- one more was put behind what was found
  abbrev pub Adds : B → B → Tree → Type 0
  Adds found new v = (w : Tree) → put found (more (pair v w)) ≡ put new (more w)

  -- the whole was
  abbrev pub AddsAll : B → B → Tree → Type 0
  AddsAll old found v = put old (more v) ≡ put found (more nothing)

  pub run-start : (old : B) (s : List Tok) → BuildsRun old old s s
  run-start old s ps minus come = record {
    minus = minus;
    behind = come;
    made = λ w. record { tree = w; value = refl; derived = λ vs d. d };
  }

  pub run-next : (old found new : B) (s mid left : List Tok) → is_never_empty p ≡ true → begins (first_set p) mid ≡ true → BuildsRun old found s mid
      → Builds p (Adds found new) mid left → BuildsRun old new s left
  run-next old found new s [] left filled e runs is ps minus come = false-true e
  run-next old found new s (t ∷ u) left filled e runs is ps minus come =
      let so_far = runs ps minus come in
      let b = is (many p ∷ ps) so_far.minus (come-as so_far.minus (many p ∷ ps) (p ∷ many p ∷ ps) (t ∷ u) (read-one_more rules p t u ps filled e) so_far.behind) in
      record {
        minus = b.minus;
        behind = b.behind;
        made = λ w.
            let l = so_far.made (pair b.tree w) in
            record { tree = l.tree; value = l.value ∙ b.is w; derived = λ vs d. l.derived vs (one_more (b.derived (w ∷ vs) d)) };
      }

  run-ends : (old found : B) (ps : List Expression) (s left : List Tok) (l : Runs old found ps s left) → read rules left (Some (many p ∷ ps)) ≡ read rules left (Some ps)
      → IsBuilt (many p) (AddsAll old found) ps s left
  run-ends old found ps s left l e =
      let r = l.made nothing in
      record {
        minus = l.minus;
        behind = come-as l.minus (many p ∷ ps) ps left e l.behind;
        tree = r.tree;
        is = r.value;
        derived = λ vs d. r.derived vs (no_more d);
      }

  pub run-end : (old found : B) (s left : List Tok) → begins (first_set p) left ≡ false → BuildsRun old found s left → Builds (many p) (AddsAll old found) s left
  run-end old found s [] e runs ps minus come = run-ends old found ps s [] (runs ps minus come) refl
  run-end old found s (t ∷ u) e runs ps minus come = run-ends old found ps s (t ∷ u) (runs ps minus come) (read-no_more rules p t u ps e)

  -- so far in a loop: fewer tokens are left, and so much is built
  pub record SoFar (old found : B) (s left : List Tok) : Type 0 where
    pub built : BuildsRun old found s left
    pub shorter : length left ≤ length s

  pub far-start : (old : B) (s : List Tok) → SoFar old old s s
  far-start old s = record { built = run-start old s; shorter = omega arith }

  pub far-next : (old found new : B) (s mid left : List Tok) → is_never_empty p ≡ true → begins (first_set p) mid ≡ true → SoFar old found s mid
      → Builds p (Adds found new) mid left → length left ≤ length mid → SoFar old new s left
  far-next old found new s mid left filled e far is shorter = record {
    built = run-next old found new s mid left filled e far.built is;
    shorter = let before = far.shorter in omega arith;
  }

-- what was found, before what is behind it
abbrev pub put : {A : Type 0} → List A → List A → List A
put found behind = found ++ behind

-- A token and then the part is built by the part behind the token.
pub behind-builds : (c : List ℕ) (p : Expression) (P Q : Tree → Type 0) (s left : List Tok) → ((a v : Tree) → P v → Q (pair a v)) → Builds p P (drop 1 s) left → Builds (both (one c) p) Q s left
behind-builds c p P Q s left says is =
    builds-as (both (one c) p) (Both (λ v. v ≡ next s) P) Q s left
    (λ v b. rw b.pair_is (says b.one b.two b.two_is))
    (both-builds (one c) p (λ v. v ≡ next s) P s (drop 1 s) left (one-builds c s) is)

-- A repetition that stands for a list of items, where `more` is the list of its tree.
module _ (p : Expression) {A : Type 0} (more : Tree → List A) where
  abbrev pub ListSoFar : List A → List A → List Tok → List Tok → Type 0
  ListSoFar = SoFar p put more

  -- one more of the part stands for these items before those behind it
  abbrev pub Puts : List A → Tree → Type 0
  Puts are v = (w : Tree) → more (pair v w) ≡ are ++ more w

  pub list-start : (old : List A) (s : List Tok) → ListSoFar old old s s
  list-start old s = far-start p put more old s

  pub list-next : (old found are : List A) (s mid left : List Tok) → is_never_empty p ≡ true → begins (first_set p) mid ≡ true → ListSoFar old found s mid
      → Builds p (Puts are) mid left → length left ≤ length mid → ListSoFar old (found ++ are) s left
  list-next old found are s mid left filled e far puts shorter =
      far-next p put more old found (found ++ are) s mid left filled e far
      (builds-as p (Puts are) (Adds p put more found (found ++ are)) mid left (λ v g w. ap (λ x. found ++ x) (g w) ∙ sym (append_assoc found are (more w))) puts)
      shorter

  pub list-end : (old found : List A) (s left : List Tok) → more nothing ≡ [] → begins (first_set p) left ≡ false → ListSoFar old found s left
      → Builds (many p) (λ v. old ++ more v ≡ found) s left
  list-end old found s left none e far =
      builds-as (many p) (AddsAll p put more old found) (λ v. old ++ more v ≡ found) s left (λ v f. f ∙ ap (λ x. found ++ x) none ∙ append-nil found)
      (run-end p put more old found s left e far.built)

-- The same where each item has a part of its own, which `from` reads, alone or behind a token.
module _ (item : Expression) {A : Type 0} (from : Tree → List A → List A) (more : Tree → List A) where
  abbrev pub IsItem : A → Tree → Type 0
  IsItem is v = (behind : List A) → from v behind ≡ is ∷ behind

  pub item-next : (old found : List A) (is : A) (s mid left : List Tok) → ((v w : Tree) → more (pair v w) ≡ from v (more w)) → is_never_empty item ≡ true → begins (first_set item) mid ≡ true
      → ListSoFar item more old found s mid → Builds item (IsItem is) mid left → length left ≤ length mid - 1 → ListSoFar item more old (found ++ is ∷ []) s left
  item-next old found is s mid left pairs filled e far gives shorter =
      list-next item more old found (is ∷ []) s mid left filled e far
      (builds-as item (IsItem is) (Puts item more (is ∷ [])) mid left (λ v g w. pairs v w ∙ g (more w)) gives)
      (omega arith)

  module _ (c : List ℕ) where
    pub behind-next : (old found : List A) (is : A) (s mid left : List Tok) → ((a v w : Tree) → more (pair (pair a v) w) ≡ from v (more w)) → begins c mid ≡ true
        → ListSoFar (both (one c) item) more old found s mid → Builds item (IsItem is) (drop 1 mid) left → length left ≤ length (drop 1 mid)
        → ListSoFar (both (one c) item) more old (found ++ is ∷ []) s left
    behind-next old found is s mid left pairs e far gives shorter =
        list-next (both (one c) item) more old found (is ∷ []) s mid left refl e far
        (behind-builds c item (IsItem is) (Puts (both (one c) item) more (is ∷ [])) mid left (λ a v g w. pairs a v w ∙ g (more w)) gives)
        (omega (arith, length-drop 1 mid))

    -- an item, and others behind tokens
    pub behind-end : (is : A) (found : List A) (s mid left : List Tok) → more nothing ≡ [] → begins c left ≡ false → Builds item (IsItem is) s mid
        → ListSoFar (both (one c) item) more (is ∷ []) found mid left
        → Builds (list_of (one c) item) (Both (IsItem is) (λ v. is ∷ more v ≡ found)) s left
    behind-end is found s mid left none e gives far =
        both-builds item (many (both (one c) item)) (IsItem is) (λ v. is ∷ more v ≡ found) s mid left gives
        (list-end (both (one c) item) more (is ∷ []) found mid left none e far)

-- A part once or more is the part any number of times, with the same tree.

as-many : {p : Expression} {ps : List Expression} {x : Tree} {vs : List Tree} {s : List Tok} → Derives rules (both p (many p) ∷ ps) (x ∷ vs) s → Derives rules (many p ∷ ps) (x ∷ vs) s
as-many (by_both d) = one_more d

pub many-built : (p : Expression) (P Q : Tree → Type 0) (s left : List Tok) → is_never_empty p ≡ true → begins (first_set p) s ≡ true → ((v : Tree) → P v → Q v)
    → Builds (both p (many p)) P s left → Builds (many p) Q s left
many-built p P Q [] left filled e says is ps minus come = false-true e
many-built p P Q (t ∷ u) left filled e says is ps minus come =
    let same = read-one_more rules p t u ps filled e ∙ sym (read-both rules p (many p) (t ∷ u) ps) in
    let b = is ps minus (come-as minus (many p ∷ ps) (both p (many p) ∷ ps) (t ∷ u) same come) in
    record {
      minus = b.minus;
      behind = b.behind;
      tree = b.tree;
      is = says b.tree b.is;
      derived = λ vs d. as-many (b.derived vs d);
    }

-- it is not there
pub many-none : (p : Expression) (s : List Tok) → begins (first_set p) s ≡ false → Builds (many p) (λ v. v ≡ nothing) s s
many-none p [] e ps minus come = record {
  minus = minus;
  behind = come-as minus (many p ∷ ps) ps [] refl come;
  tree = nothing;
  is = refl;
  derived = λ vs d. no_more d;
}
many-none p (t ∷ u) e ps minus come = record {
  minus = minus;
  behind = come-as minus (many p ∷ ps) ps (t ∷ u) (read-no_more rules p t u ps e) come;
  tree = nothing;
  is = refl;
  derived = λ vs d. no_more d;
}
