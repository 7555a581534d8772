-- What filters keep of a list, and of what another filter has kept.
use Rattle.std.proofs.Common.{◌≡◌, Bool, true, false, cond, List, [], ◌∷◌, ◌++◌, All, filter, map, flat_map, ◌&&◌, refl, sym, ap, ap₂, ◌∙◌, append-nil}
use Rattle.std.proofs.lemmas.Bool.{cond-true, cond-false, false≢true, false_from_ne_true}
use Rattle.std.proofs.lemmas.List.Elements.{All-nil, All-cons, All-head, All-tail, filter-append}

pub filter-keep : {X : Type 0} (f : X → Bool) (x : X) (xs : List X) → f x ≡ true → filter f (x ∷ xs) ≡ x ∷ filter f xs
filter-keep f x xs e = cond-true (f x) (x ∷ filter f xs) (filter f xs) e

pub filter-skip : {X : Type 0} (f : X → Bool) (x : X) (xs : List X) → f x ≡ false → filter f (x ∷ xs) ≡ filter f xs
filter-skip f x xs e = cond-false (f x) (x ∷ filter f xs) (filter f xs) e

pub filter_all : {X : Type 0} (f : X → Bool) (xs : List X) → All (λ x. f x ≡ true) xs → filter f xs ≡ xs
filter_all f [] h = refl
filter_all f (x ∷ xs) h =
    filter-keep f x xs (All-head (λ y. f y ≡ true) x xs h) ∙ ap (λ r. x ∷ r) (filter_all f xs (All-tail (λ y. f y ≡ true) x xs h))

pub filter_none : {X : Type 0} (f : X → Bool) (xs : List X) → All (λ x. f x ≡ false) xs → filter f xs ≡ []
filter_none f [] h = refl
filter_none f (x ∷ xs) h =
    filter-skip f x xs (All-head (λ y. f y ≡ false) x xs h) ∙ filter_none f xs (All-tail (λ y. f y ≡ false) x xs h)

-- two tests that agree on the list
pub filter_same : {X : Type 0} (f g : X → Bool) (xs : List X) → All (λ x. f x ≡ g x) xs → filter f xs ≡ filter g xs
filter_same f g [] h = refl
filter_same f g (x ∷ xs) h =
    ap₂ (λ b r. cond b (x ∷ r) r) (All-head (λ y. f y ≡ g y) x xs h) (filter_same f g xs (All-tail (λ y. f y ≡ g y) x xs h))

one_filtered : {X : Type 0} (f : X → Bool) (x : X) (kept whole : List X) (passes : Bool) → (f x ≡ true → passes ≡ true) → filter f kept ≡ filter f whole
    → filter f (cond passes (x ∷ kept) kept) ≡ cond (f x) (x ∷ filter f whole) (filter f whole)
one_filtered f x kept whole true h e = ap (λ r. cond (f x) (x ∷ r) r) e
one_filtered f x kept whole false h e =
    e ∙ sym (cond-false (f x) (x ∷ filter f whole) (filter f whole) (false_from_ne_true (f x) (λ t. false≢true (h t))))

-- a weaker filter that came first changes nothing
pub filter_filter : {X : Type 0} (f g : X → Bool) (xs : List X) → All (λ x. f x ≡ true → g x ≡ true) xs → filter f (filter g xs) ≡ filter f xs
filter_filter f g [] h = refl
filter_filter f g (x ∷ xs) h =
    one_filtered f x (filter g xs) xs (g x) (All-head (λ y. f y ≡ true → g y ≡ true) x xs h) (filter_filter f g xs (All-tail (λ y. f y ≡ true → g y ≡ true) x xs h))

pub filter_push-yes : {X : Type 0} (f : X → Bool) (xs : List X) (y : X) → f y ≡ true → filter f (xs ++ y ∷ []) ≡ filter f xs ++ y ∷ []
filter_push-yes f xs y e = filter-append f xs (y ∷ []) ∙ ap (λ r. filter f xs ++ r) (filter-keep f y [] e)

pub filter_push-no : {X : Type 0} (f : X → Bool) (xs : List X) (y : X) → f y ≡ false → filter f (xs ++ y ∷ []) ≡ filter f xs
filter_push-no f xs y e = filter-append f xs (y ∷ []) ∙ ap (λ r. filter f xs ++ r) (filter-skip f y [] e) ∙ append-nil (filter f xs)

-- two filters in either order
pub filter_swap : {X : Type 0} (f g : X → Bool) (xs : List X) → filter f (filter g xs) ≡ filter g (filter f xs)
filter_swap f g [] = refl
filter_swap f g (x ∷ xs) = by (f x) (g x) refl refl (filter_swap f g xs)
  where
    by : (b c : Bool) → f x ≡ b → g x ≡ c → filter f (filter g xs) ≡ filter g (filter f xs)
        → filter f (cond c (x ∷ filter g xs) (filter g xs)) ≡ filter g (cond b (x ∷ filter f xs) (filter f xs))
    by true true e e' same = filter-keep f x (filter g xs) e ∙ ap (λ r. x ∷ r) same ∙ sym (filter-keep g x (filter f xs) e')
    by true false e e' same = same ∙ sym (filter-skip g x (filter f xs) e')
    by false true e e' same = filter-skip f x (filter g xs) e ∙ same
    by false false e e' same = same

-- a filter of what a function gives
pub filter-map : {X Y : Type 0} (f : Y → Bool) (g : X → Y) (xs : List X) → filter f (map g xs) ≡ map g (filter (λ x. f (g x)) xs)
filter-map f g [] = refl
filter-map f g (x ∷ xs) = by (f (g x)) (filter-map f g xs)
  where
    by : (b : Bool) → filter f (map g xs) ≡ map g (filter (λ y. f (g y)) xs)
        → cond b (g x ∷ filter f (map g xs)) (filter f (map g xs)) ≡ map g (cond b (x ∷ filter (λ y. f (g y)) xs) (filter (λ y. f (g y)) xs))
    by true same = ap (λ r. g x ∷ r) same
    by false same = same

pub filter-flat_map : {X Y : Type 0} (f : Y → Bool) (g : X → List Y) (xs : List X) → filter f (flat_map g xs) ≡ flat_map (λ x. filter f (g x)) xs
filter-flat_map f g [] = refl
filter-flat_map f g (x ∷ xs) = filter-append f (g x) (flat_map g xs) ∙ ap (λ ys. filter f (g x) ++ ys) (filter-flat_map f g xs)

-- a test that says the same of all
pub filter-fixed : {X : Type 0} (b : Bool) (xs : List X) → filter (λ x. b) xs ≡ cond b xs []
filter-fixed true [] = refl
filter-fixed true (x ∷ xs) = ap (λ ys. x ∷ ys) (filter-fixed true xs)
filter-fixed false [] = refl
filter-fixed false (x ∷ xs) = filter-fixed false xs

-- two filters as one
pub both_filters : {X : Type 0} (f g w : X → Bool) → ((x : X) → w x ≡ (g x && f x)) → (xs : List X) → filter f (filter g xs) ≡ filter w xs
both_filters f g w both [] = refl
both_filters f g w both (x ∷ xs) = by (g x) (both x) (both_filters f g w both xs)
  where
    by : (b : Bool) → w x ≡ (b && f x) → filter f (filter g xs) ≡ filter w xs → filter f (cond b (x ∷ filter g xs) (filter g xs)) ≡ filter w (x ∷ xs)
    by true is e = rw (is, e) refl
    by false is e = rw is e

-- what holds of all that pass holds of each that passes
pub All-unfilter : {X : Type 0} (f : X → Bool) (P : X → Type 0) (xs : List X) → All P (filter f xs) → All (λ x. f x ≡ true → P x) xs
All-unfilter f P [] h = All-nil (λ x. f x ≡ true → P x)
All-unfilter f P (x ∷ xs) h = at (f x) refl h (All-unfilter f P xs)
  where
    at : (b : Bool) → f x ≡ b → All P (cond b (x ∷ filter f xs) (filter f xs)) → (All P (filter f xs) → All (λ y. f y ≡ true → P y) xs) → All (λ y. f y ≡ true → P y) (x ∷ xs)
    at true e h rest = All-cons (λ y. f y ≡ true → P y) x xs (λ t. All-head P x (filter f xs) h) (rest (All-tail P x (filter f xs) h))
    at false e h rest = All-cons (λ y. f y ≡ true → P y) x xs (λ t. absurd (false≢true (sym e ∙ t))) (rest h)
