-- Items each once, through functions that give lists: it is enough to take each item once before.
use Rattle.std.proofs.Common.{◌≡◌, Bool, true, false, not, ◌&&◌, ◌||◌, cond, List, [], ◌∷◌, ◌++◌, filter, refl, sym, ap, ap₂, ◌∙◌, append-nil}
use Rattle.std.specs.List.{list_any, flat_map, AllByRecursion}
use Rattle.std.proofs.lemmas.List.Elements.{All-from_recursion, filter-append}
use Rattle.tb_tree.proofs.lists.Alls.{all-append, all-weaker}
use Rattle.tb_tree.proofs.lists.Filters.{filter_none, filter_swap}
use Rattle.tb_query.specs.Lists.{each_once}
use Rattle.tb_query.proofs.AlikeLaws.{each-filter}
use Rattle.tb_query.proofs.OnceLaws.{filter-all, filter-both}

-- not among these
abbrev pub is_new : {A : Type 0} → (A → A → Bool) → List A → A → Bool
is_new same xs y = not (list_any (λ x. same x y) xs)

not-or : (a b : Bool) → not (a || b) ≡ (not b && not a)
not-or true true = refl
not-or true false = refl
not-or false true = refl
not-or false false = refl

-- Items behind others are taken where they are new.
pub once-append : {A : Type 0} (same : A → A → Bool) (xs ys : List A)
    → each_once same (xs ++ ys) ≡ each_once same xs ++ filter (is_new same xs) (each_once same ys)
once-append same [] ys = sym (filter-all (each_once same ys))
once-append same (x ∷ xs) ys =
    ap (λ t. x ∷ t)
    (ap (filter (λ y. not (same x y))) (once-append same xs ys)
    ∙ filter-append (λ y. not (same x y)) (each_once same xs) (filter (is_new same xs) (each_once same ys))
    ∙ ap (λ t. filter (λ y. not (same x y)) (each_once same xs) ++ t)
    (filter-both (λ y. not (same x y)) (is_new same xs) (is_new same (x ∷ xs)) (λ y. not-or (same x y) (list_any (λ z. same z y) xs)) (each_once same ys)))

among-more : {A : Type 0} (same : A → A → Bool) (x y : A) (xs : List A) → list_any (λ z. same z y) xs ≡ true → list_any (λ z. same z y) (x ∷ xs) ≡ true
among-more same x y xs has = by (same x y)
  where
    by : (b : Bool) → (b || list_any (λ z. same z y) xs) ≡ true
    by true = refl
    by false = has

pub all-among : {A : Type 0} (same : A → A → Bool) → ((x : A) → same x x ≡ true) → (xs : List A) → AllByRecursion (λ y. list_any (λ x. same x y) xs ≡ true) xs
all-among same itself [] = tt
all-among same itself (x ∷ xs) = (
  ap (λ b. b || list_any (λ z. same z x) xs) (itself x),
  all-weaker (λ y. list_any (λ z. same z y) xs ≡ true) (λ y. list_any (λ z. same z y) (x ∷ xs) ≡ true) xs (λ y has. among-more same x y xs has) (all-among same itself xs),
)

pub all-once : {A : Type 0} (P : A → Type 0) (same : A → A → Bool) (xs : List A) → AllByRecursion P xs → AllByRecursion P (each_once same xs)
all-once P same [] all = tt
all-once P same (x ∷ xs) all = (all.0, each-filter P (λ y. not (same x y)) (each_once same xs) (all-once P same xs all.1))

-- None of them is new.
pub none-new : {A : Type 0} (same : A → A → Bool) (xs ys : List A) → AllByRecursion (λ y. list_any (λ x. same x y) xs ≡ true) ys → filter (is_new same xs) ys ≡ []
none-new same xs ys among =
    filter_none (is_new same xs) ys (All-from_recursion (λ y. is_new same xs y ≡ false) ys
    (all-weaker (λ y. list_any (λ x. same x y) xs ≡ true) (λ y. is_new same xs y ≡ false) ys (λ y has. ap not has) among))

none-itself : {A : Type 0} (same : A → A → Bool) → ((x : A) → same x x ≡ true) → (xs : List A) → filter (is_new same xs) (each_once same xs) ≡ []
none-itself same itself xs = none-new same xs (each_once same xs) (all-once (λ y. list_any (λ x. same x y) xs ≡ true) same xs (all-among same itself xs))

-- Items that come again and again are taken at their first place.
pub once-again : {A B : Type 0} (same : A → A → Bool) → ((x : A) → same x x ≡ true) → (xs : List A) (times : List B)
    → each_once same (xs ++ flat_map (λ t. xs) times) ≡ each_once same xs
once-again {A} {B} same itself xs times =
    once-append same xs (flat_map (λ t. xs) times)
    ∙ ap (λ t. each_once same xs ++ t) (none-new same xs (each_once same (flat_map (λ t. xs) times)) (all-once (λ y. list_any (λ x. same x y) xs ≡ true) same (flat_map (λ t. xs) times) (often times)))
    ∙ append-nil (each_once same xs)
  where
    often : (ts : List B) → AllByRecursion (λ y. list_any (λ x. same x y) xs ≡ true) (flat_map (λ t. xs) ts)
    often [] = tt
    often (t ∷ ts) = all-append (λ y. list_any (λ x. same x y) xs ≡ true) xs (flat_map (λ t. xs) ts) (all-among same itself xs) (often ts)

module _ {A B : Type 0} (same : A → A → Bool) (alike : B → B → Bool) (itself : (y : B) → alike y y ≡ true) (give : A → List B) where
  -- what an item gives is not new behind what the same item gives
  drop-same : (u w : A) (ws : List A) (b : Bool) → (b ≡ true → give u ≡ give w)
      → filter (is_new alike (give u)) (each_once alike (flat_map give (filter (λ x. not (same u x)) ws))) ≡ filter (is_new alike (give u)) (each_once alike (flat_map give ws))
      → filter (is_new alike (give u)) (each_once alike (flat_map give (cond (not b) (w ∷ filter (λ x. not (same u x)) ws) (filter (λ x. not (same u x)) ws))))
      ≡ filter (is_new alike (give u)) (each_once alike (give w ++ flat_map give ws))
  drop-same u w ws true is others =
      let f = is_new alike (give u) in
      let rest = each_once alike (flat_map give ws) in
      others
      ∙ sym (ap (filter f) (once-append alike (give w) (flat_map give ws))
      ∙ filter-append f (each_once alike (give w)) (filter (is_new alike (give w)) rest)
      ∙ ap (λ g. filter f (each_once alike g) ++ filter f (filter (is_new alike g) rest)) (sym (is refl))
      ∙ ap₂ (λ a b. a ++ b) (none-itself alike itself (give u)) (filter-both f f f (λ y. sym (and-same (f y))) rest))
    where
      and-same : (c : Bool) → (c && c) ≡ c
      and-same true = refl
      and-same false = refl
  drop-same u w ws false is others =
      let f = is_new alike (give u) in
      let g = is_new alike (give w) in
      let some = flat_map give (filter (λ x. not (same u x)) ws) in
      ap (filter f) (once-append alike (give w) some)
      ∙ filter-append f (each_once alike (give w)) (filter g (each_once alike some))
      ∙ ap (λ t. filter f (each_once alike (give w)) ++ t)
      (filter_swap f g (each_once alike some) ∙ ap (filter g) others ∙ filter_swap g f (each_once alike (flat_map give ws)))
      ∙ sym (ap (filter f) (once-append alike (give w) (flat_map give ws))
      ∙ filter-append f (each_once alike (give w)) (filter g (each_once alike (flat_map give ws))))

  drop-all : (u : A) (ws : List A) → AllByRecursion (λ w. same u w ≡ true → give u ≡ give w) ws
      → filter (is_new alike (give u)) (each_once alike (flat_map give (filter (λ x. not (same u x)) ws))) ≡ filter (is_new alike (give u)) (each_once alike (flat_map give ws))
  drop-all u [] tell = refl
  drop-all u (w ∷ ws) tell = drop-same u w ws (same u w) tell.0 (drop-all u ws tell.1)

  -- items that are the same give the same
  abbrev pub Tells : List A → Type 0
  Tells us = AllByRecursion (λ u. AllByRecursion (λ w. same u w ≡ true → give u ≡ give w) us) us

  tells-rest : (u : A) (us vs : List A) → AllByRecursion (λ x. AllByRecursion (λ w. same x w ≡ true → give x ≡ give w) (u ∷ us)) vs
      → AllByRecursion (λ x. AllByRecursion (λ w. same x w ≡ true → give x ≡ give w) us) vs
  tells-rest u us [] tell = tt
  tells-rest u us (v ∷ vs) tell = (tell.0.1, tells-rest u us vs tell.1)

  pub once-through : (us : List A) → Tells us → each_once alike (flat_map give (each_once same us)) ≡ each_once alike (flat_map give us)
  once-through [] tell = refl
  once-through (u ∷ us) tell =
      let some = each_once same us in
      let f = is_new alike (give u) in
      once-append alike (give u) (flat_map give (filter (λ x. not (same u x)) some))
      ∙ ap (λ t. each_once alike (give u) ++ t)
      (drop-all u some (all-once (λ w. same u w ≡ true → give u ≡ give w) same us tell.0.1)
      ∙ ap (filter f) (once-through us (tells-rest u us us tell.1)))
      ∙ sym (once-append alike (give u) (flat_map give us))
