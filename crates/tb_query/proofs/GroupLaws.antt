-- Groups that are found one item after the other, by the keys seen so far.
use Rattle.std.proofs.Common.{◌≡◌, ℕ, suc, ◌+◌, Bool, true, false, not, ◌||◌, cond, List, [], ◌∷◌, ◌++◌, map, length, get_or, set, refl, sym, ap, ap₂, ◌∙◌, append_assoc, arith}
use Rattle.std.specs.Prelude.{nat_lt}
use Rattle.std.specs.Cmp.{IsEquivalence}
use Rattle.std.specs.List.{filter, list_any, position_or_len, range_with_len}
use Rattle.std.proofs.lemmas.Bool.{or_parts, or_from}
use Rattle.std.proofs.lemmas.Bool.Decides.{nat_tests}
use Rattle.std.proofs.lemmas.Simd.{map-map}
use Rattle.std.proofs.Math.Seq.{get_or-append_seam}
use Rattle.std.proofs.lemmas.List.{length-append, length-map, map-append}
use Rattle.std.proofs.lemmas.Map.Steps.{list_any_congr}
use Rattle.tb_tree.proofs.lists.Filters.{filter_push-yes, filter_push-no, filter-map}
use Rattle.tb_tree.proofs.lists.Maps.{map-alike}
use Rattle.tb_query.specs.Lists.{each_once, grouped, with_once}
use Rattle.tb_query.proofs.OnceLaws.{IsApart, map-once, once-last, once-apart, any-once}

-- groups of what a function gives, where items are the same just where it gives the same
pub grouped-map : {A B : Type 0} (f : A → B) (same : B → B → Bool) (xs : List A)
    → map (map f) (grouped (λ x y. same (f x) (f y)) xs) ≡ grouped same (map f xs)
grouped-map f same xs =
    let once = each_once (λ x y. same (f x) (f y)) xs in
    map-map (map f) (λ x. filter (λ y. same (f x) (f y)) xs) once
    ∙ map-alike (λ x. map f (filter (λ y. same (f x) (f y)) xs)) (λ x. filter (same (f x)) (map f xs)) (λ x. sym (filter-map (same (f x)) f xs)) once
    ∙ sym (map-map (λ z. filter (same z) (map f xs)) f once)
    ∙ ap (map (λ z. filter (same z) (map f xs))) (map-once f same xs)

numbered-from : {A : Type 0} (d : A) (before xs : List A) → map (λ i. get_or (before ++ xs) i d) (range_with_len (length before) (length xs)) ≡ xs
numbered-from d before [] = refl
numbered-from d before (x ∷ xs) =
    let more : length (before ++ x ∷ []) ≡ length before + 1 = length-append before (x ∷ []) in
    let whole = append_assoc before (x ∷ []) xs in
    let rest = numbered-from d (before ++ x ∷ []) xs in
    ap₂ (λ y ys. y ∷ ys) (get_or-append_seam before x xs d) (rw (more, whole) at rest)

-- the items are those with their numbers from 0
pub all-numbered : {A : Type 0} (d : A) (xs : List A) → map (λ i. get_or xs i d) (range_with_len 0 (length xs)) ≡ xs
all-numbered d xs = numbered-from d [] xs

-- groups of items are groups of their numbers
pub grouped-numbered : {A : Type 0} (d : A) (same : A → A → Bool) (xs : List A)
    → map (map (λ i. get_or xs i d)) (grouped (λ i j. same (get_or xs i d) (get_or xs j d)) (range_with_len 0 (length xs))) ≡ grouped same xs
grouped-numbered d same xs =
    grouped-map (λ i. get_or xs i d) same (range_with_len 0 (length xs)) ∙ ap (grouped same) (all-numbered d xs)

-- a group with one item more, or a group of that item behind all
abbrev pub placed : {A : Type 0} → List (List A) → ℕ → A → List (List A)
placed groups at y =
    cond (nat_lt at (length groups)) (set groups at (get_or groups at [] ++ y ∷ [])) (groups ++ (y ∷ []) ∷ [])

module _ {A B : Type 0} (key : A → B) (same : B → B → Bool) where
  -- the items that have the key
  abbrev pub members : B → List A → List A
  members k xs = filter (λ x. same k (key x)) xs

  -- those of each of the keys
  abbrev pub groups_for : List B → List A → List (List A)
  groups_for ks xs = map (λ k. members k xs) ks

  -- the groups of items are those of their keys
  pub grouped-for : (xs : List A) → groups_for (each_once same (map key xs)) xs ≡ grouped (λ x y. same (key x) (key y)) xs
  grouped-for xs =
      ap (λ ks. groups_for ks xs) (sym (map-once key same xs))
      ∙ map-map (λ k. members k xs) key (each_once (λ x y. same (key x) (key y)) xs)

  -- the first group whose key is that of the item has it too, or it has a group of its own behind all
  abbrev added : List B → List (List A) → A → List (List A)
  added (k ∷ ks) (g ∷ groups) y = cond (same (key y) k) ((g ++ y ∷ []) ∷ groups) (g ∷ added ks groups y)
  added _ groups y = (y ∷ []) ∷ []

  placed-next : (g : List A) (groups : List (List A)) (at : ℕ) (y : A) → placed (g ∷ groups) (1 + at) y ≡ g ∷ placed groups at y
  placed-next g groups at y = by (nat_lt at (length groups)) (nat_lt (1 + at) (length (g ∷ groups))) refl refl
    where
      by : (b c : Bool) → nat_lt at (length groups) ≡ b → nat_lt (1 + at) (length (g ∷ groups)) ≡ c
          → cond c (set (g ∷ groups) (1 + at) (get_or (g ∷ groups) (1 + at) [] ++ y ∷ [])) ((g ∷ groups) ++ (y ∷ []) ∷ [])
          ≡ g ∷ cond b (set groups at (get_or groups at [] ++ y ∷ [])) (groups ++ (y ∷ []) ∷ [])
      by true true p q = let one : 1 + at ≡ suc at = omega arith in rw one refl
      by false false p q = refl
      by true false p q = absurd (grind (arith, nat_tests))
      by false true p q = absurd (grind (arith, nat_tests))

  added-step : (k : B) (ks : List B) (g : List A) (groups : List (List A)) (y : A) (b : Bool) → same (key y) k ≡ b
      → added ks groups y ≡ placed groups (position_or_len (same (key y)) ks) y
      → cond b ((g ++ y ∷ []) ∷ groups) (g ∷ added ks groups y) ≡ placed (g ∷ groups) (cond (not b) (1 + position_or_len (same (key y)) ks) 0) y
  added-step k ks g groups y true is others = let first : nat_lt 0 (length (g ∷ groups)) ≡ true = grind (arith, nat_tests) in rw first refl
  added-step k ks g groups y false is others =
      ap (λ t. g ∷ t) others ∙ sym (placed-next g groups (position_or_len (same (key y)) ks) y)

  added-placed : (ks : List B) (groups : List (List A)) (y : A) → length groups ≡ length ks
      → added ks groups y ≡ placed groups (position_or_len (same (key y)) ks) y
  added-placed [] [] y long = refl
  added-placed [] (g ∷ groups) y long = absurd (omega (arith, long))
  added-placed (k ∷ ks) [] y long = absurd (omega (arith, long))
  added-placed (k ∷ ks) (g ∷ groups) y long =
      added-step k ks g groups y (same (key y) k) refl (added-placed ks groups y (omega (arith, long)))

  none-step : (k : B) (x : A) (b : Bool) (ms : List A) → same k (key x) ≡ false → same k (key x) ≡ b → ms ≡ [] → cond b (x ∷ ms) ms ≡ []
  none-step k x true ms differ is none = absurd (let d : ◌≡◌ {A = Bool} false true = sym differ ∙ is in cc)
  none-step k x false ms differ is none = none

  none-members : (k : B) (xs : List A) → list_any (same k) (map key xs) ≡ false → members k xs ≡ []
  none-members k [] none = refl
  none-members k (x ∷ xs) none =
      let parts = or_parts (same k (key x)) (list_any (same k) (map key xs)) none in
      none-step k x (same k (key x)) (members k xs) parts.0 refl (none-members k xs parts.1)

module _ {A B : Type 0} (key : A → B) (same : B → B → Bool) (laws : IsEquivalence same) where
  -- an item of another key leaves groups as they are
  groups-kept : (ks : List B) (xs : List A) (y : A) → list_any (same (key y)) ks ≡ false
      → groups_for key same ks (xs ++ y ∷ []) ≡ groups_for key same ks xs
  groups-kept [] xs y none = refl
  groups-kept (k ∷ ks) xs y none =
      let parts = or_parts (same (key y) k) (list_any (same (key y)) ks) none in
      ap₂ (λ g groups. g ∷ groups) (filter_push-no (λ x. same k (key x)) xs y (laws.symm k (key y) ∙ parts.0)) (groups-kept ks xs y parts.1)

  step-by : (k : B) (ks : List B) (xs : List A) (y : A) (b c : Bool) → same (key y) k ≡ b → list_any (same k) ks ≡ false
      → (b ≡ false → groups_for key same (cond c ks (ks ++ key y ∷ [])) (xs ++ y ∷ []) ≡ added key same ks (groups_for key same ks xs) y)
      → groups_for key same (cond (b || c) (k ∷ ks) (k ∷ (ks ++ key y ∷ []))) (xs ++ y ∷ [])
      ≡ cond b ((members key same k xs ++ y ∷ []) ∷ groups_for key same ks xs) (members key same k xs ∷ added key same ks (groups_for key same ks xs) y)
  step-by k ks xs y true c is apart others =
      ap₂ (λ g groups. g ∷ groups) (filter_push-yes (λ x. same k (key x)) xs y (laws.symm k (key y) ∙ is))
      (groups-kept ks xs y (list_any_congr laws (key y) k ks is ∙ apart))
  step-by k ks xs y false true is apart others =
      ap₂ (λ g groups. g ∷ groups) (filter_push-no (λ x. same k (key x)) xs y (laws.symm k (key y) ∙ is)) (others refl)
  step-by k ks xs y false false is apart others =
      ap₂ (λ g groups. g ∷ groups) (filter_push-no (λ x. same k (key x)) xs y (laws.symm k (key y) ∙ is)) (others refl)

  groups-step : (ks : List B) (xs : List A) (y : A) → IsApart same ks → (list_any (same (key y)) ks ≡ false → members key same (key y) xs ≡ [])
      → groups_for key same (with_once same ks (key y)) (xs ++ y ∷ []) ≡ added key same ks (groups_for key same ks xs) y
  groups-step [] xs y apart new =
      ap (λ g. g ∷ []) (filter_push-yes (λ x. same (key y) (key x)) xs y (laws.refl (key y)) ∙ ap (λ g. g ++ y ∷ []) (new refl))
  groups-step (k ∷ ks) xs y apart new =
      step-by k ks xs y (same (key y) k) (list_any (same (key y)) ks) refl apart.0
      (λ other. groups-step ks xs y apart.1 (λ none. new (or_from (same (key y) k) (list_any (same (key y)) ks) other none)))

  -- One item more behind the others is one more of the group of its key, or has a group behind all.
  pub groups-last : (xs : List A) (y : A)
      → groups_for key same (each_once same (map key (xs ++ y ∷ []))) (xs ++ y ∷ [])
      ≡ placed (groups_for key same (each_once same (map key xs)) xs) (position_or_len (same (key y)) (each_once same (map key xs))) y
  groups-last xs y =
      let ks = each_once same (map key xs) in
      ap (λ keys. groups_for key same (each_once same keys) (xs ++ y ∷ [])) (map-append key xs (y ∷ []))
      ∙ ap (λ keys. groups_for key same keys (xs ++ y ∷ [])) (once-last same laws (map key xs) (key y))
      ∙ groups-step ks xs y (once-apart same (map key xs)) (λ none. none-members key same (key y) xs (sym (any-once same laws (key y) (map key xs)) ∙ none))
      ∙ added-placed key same ks (groups_for key same ks xs) y (length-map ks (λ k. members key same k xs))
