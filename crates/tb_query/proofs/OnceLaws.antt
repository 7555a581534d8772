-- Items each once, at their first places: those that are added one after the other, unless they are
-- there already, are each once.
use Rattle.std.proofs.Common.{◌≡◌, Bool, true, false, not, ◌&&◌, ◌||◌, cond, List, [], ◌∷◌, ◌++◌, map, refl, sym, ap, ◌∙◌, append_assoc, append-nil}
use Rattle.std.specs.Bool.{⊤}
use Rattle.std.specs.Cmp.{IsEquivalence}
use Rattle.std.specs.List.{fold, filter, list_any}
use Rattle.std.proofs.lemmas.Bool.{or_parts, or_from, not_from_true, not_from_false}
use Rattle.std.proofs.lemmas.Map.Views.{any-filter_same}
use Rattle.tb_tree.proofs.lists.Filters.{filter_push-yes, filter_push-no, filter-map}
use Rattle.tb_query.specs.Lists.{each_once, with_once}

-- Two tests one after the other are one.

filter-step : {A : Type 0} (u w : A → Bool) (b : Bool) (y : A) (vs ys : List A) → w y ≡ (b && u y) → filter u vs ≡ filter w ys
    → filter u (cond b (y ∷ vs) vs) ≡ filter w (y ∷ ys)
filter-step u w true y vs ys is e = rw (is, e) refl
filter-step u w false y vs ys is e = rw is e

pub filter-both : {A : Type 0} (u v w : A → Bool) → ((y : A) → w y ≡ (v y && u y)) → (ys : List A)
    → filter u (filter v ys) ≡ filter w ys
filter-both u v w both [] = refl
filter-both u v w both (y ∷ ys) = filter-step u w (v y) y (filter v ys) ys (both y) (filter-both u v w both ys)

pub filter-all : {A : Type 0} (ys : List A) → filter (λ y. true) ys ≡ ys
filter-all [] = refl
filter-all (y ∷ ys) = ap (λ t. y ∷ t) (filter-all ys)

-- No item of a list is among those behind it.
abbrev pub IsApart : {A : Type 0} → (A → A → Bool) → List A → Type 0
IsApart same [] = ⊤
IsApart same (x ∷ xs) = (list_any (same x) xs ≡ false) × IsApart same xs

none-kept : {A : Type 0} (test : A → Bool) (b : Bool) (x : A) (xs : List A) → test x ≡ false → list_any test xs ≡ false → list_any test (cond b (x ∷ xs) xs) ≡ false
none-kept test true x xs this others = or_from (test x) (list_any test xs) this others
none-kept test false x xs this others = others

none-filter : {A : Type 0} (test p : A → Bool) (xs : List A) → list_any test xs ≡ false → list_any test (filter p xs) ≡ false
none-filter test p [] none = refl
none-filter test p (x ∷ xs) none =
    let parts = or_parts (test x) (list_any test xs) none in
    none-kept test (p x) x (filter p xs) parts.0 (none-filter test p xs parts.1)

apart-kept : {A : Type 0} (same : A → A → Bool) (b : Bool) (x : A) (xs : List A) → list_any (same x) xs ≡ false → IsApart same xs → IsApart same (cond b (x ∷ xs) xs)
apart-kept same true x xs this others = (this, others)
apart-kept same false x xs this others = others

pub apart-filter : {A : Type 0} (same : A → A → Bool) (p : A → Bool) (xs : List A) → IsApart same xs → IsApart same (filter p xs)
apart-filter same p [] apart = tt
apart-filter same p (x ∷ xs) apart =
    apart-kept same (p x) x (filter p xs) (none-filter (same x) p xs apart.0) (apart-filter same p xs apart.1)

dropped-any : {A : Type 0} (same : A → A → Bool) (k : A) (xs : List A) → list_any (same k) (filter (λ y. not (same k y)) xs) ≡ false
dropped-any same k xs = any-filter_same (same k) (λ y. not (same k y)) false (λ y e. not_from_true (same k y) e) xs

-- each once, none is among those behind it
pub once-apart : {A : Type 0} (same : A → A → Bool) (xs : List A) → IsApart same (each_once same xs)
once-apart same [] = tt
once-apart same (x ∷ xs) =
    (dropped-any same x (each_once same xs), apart-filter same (λ y. not (same x y)) (each_once same xs) (once-apart same xs))

-- what a function gives of items each once, where they are the same just where it gives the same
pub map-once : {A B : Type 0} (key : A → B) (same : B → B → Bool) (xs : List A)
    → map key (each_once (λ x y. same (key x) (key y)) xs) ≡ each_once same (map key xs)
map-once key same [] = refl
map-once key same (x ∷ xs) =
    ap (λ t. key x ∷ t)
    (sym (filter-map (λ y. not (same (key x) y)) key (each_once (λ z y. same (key z) (key y)) xs))
    ∙ ap (filter (λ y. not (same (key x) y))) (map-once key same xs))

module _ {A : Type 0} (same : A → A → Bool) (laws : IsEquivalence same) where
  kept-any : (x k : A) (xs : List A) → same x k ≡ false → list_any (same x) (filter (λ y. not (same k y)) xs) ≡ list_any (same x) xs
  kept-any x k xs differ =
      any-filter_same (same x) (λ y. not (same k y)) true
      (λ y e. not_from_false (same k y) (laws.symm k y ∙ sym (laws.congr x y k e) ∙ differ)) xs

  any-step : (x k : A) (xs : List A) (b : Bool) → same x k ≡ b → list_any (same x) (each_once same xs) ≡ list_any (same x) xs
      → (b || list_any (same x) (filter (λ y. not (same k y)) (each_once same xs))) ≡ (b || list_any (same x) xs)
  any-step x k xs true is others = refl
  any-step x k xs false is others = kept-any x k (each_once same xs) is ∙ others

  -- an item is among items exactly where it is among them each once
  pub any-once : (x : A) (xs : List A) → list_any (same x) (each_once same xs) ≡ list_any (same x) xs
  any-once x [] = refl
  any-once x (k ∷ xs) = any-step x k xs (same x k) refl (any-once x xs)

  last-step : (k x : A) (xs : List A) (b c : Bool) → same x k ≡ b → list_any (same x) xs ≡ c
      → k ∷ filter (λ y. not (same k y)) (cond c xs (xs ++ x ∷ []))
      ≡ cond (b || list_any (same x) (filter (λ y. not (same k y)) xs)) (k ∷ filter (λ y. not (same k y)) xs) (k ∷ (filter (λ y. not (same k y)) xs ++ x ∷ []))
  last-step k x xs true true p q = refl
  last-step k x xs true false p q =
      ap (λ t. k ∷ t) (filter_push-no (λ y. not (same k y)) xs x (not_from_true (same k x) (laws.symm k x ∙ p)))
  last-step k x xs false true p q = rw (kept-any x k xs p, q) refl
  last-step k x xs false false p q =
      let more = ap (λ t. k ∷ t) (filter_push-yes (λ y. not (same k y)) xs x (not_from_false (same k x) (laws.symm k x ∙ p))) in
      rw (kept-any x k xs p, q) more

  -- One item more behind the others is one more of them each once, unless it is among them.
  pub once-last : (xs : List A) (x : A) → each_once same (xs ++ x ∷ []) ≡ with_once same (each_once same xs) x
  once-last [] x = refl
  once-last (k ∷ xs) x =
      ap (λ t. k ∷ filter (λ y. not (same k y)) t) (once-last xs x)
      ∙ last-step k x (each_once same xs) (same x k) (list_any (same x) (each_once same xs)) refl refl

  pub once-fold : (before xs : List A) → fold (with_once same) (each_once same before) xs ≡ each_once same (before ++ xs)
  once-fold before [] = ap (each_once same) (sym (append-nil before))
  once-fold before (x ∷ xs) =
      ap (λ out. fold (with_once same) out xs) (sym (once-last before x))
      ∙ once-fold (before ++ x ∷ []) xs
      ∙ ap (each_once same) (append_assoc before (x ∷ []) xs)
