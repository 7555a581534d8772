-- Lists of items of which some are the same.
use Rattle.std.specs.Prelude.{Bool, not, if◌then◌else◌, List, [], ◌∷◌, ◌++◌, Option, Some, option_map, option_and_then, filter, map}
use Rattle.std.specs.List.{list_any}
use Rattle.std.specs.Ordering.{is_gt}
use Rattle.std.specs.declared.cmp.Ordering.{Ordering}

-- each item once, at its first place
abbrev pub each_once : {A : Type 0} → (A → A → Bool) → List A → List A
each_once same [] = []
each_once same (x ∷ xs) = x ∷ filter (λ y. not (same x y)) (each_once same xs)

-- the items with one more behind them, unless it is among them
abbrev pub with_once : {A : Type 0} → (A → A → Bool) → List A → A → List A
with_once same xs x = if list_any (same x) xs then xs else xs ++ x ∷ []

-- Items that are the same are a group, in their order. Groups stand in the order of their first
-- items.
abbrev pub grouped : {A : Type 0} → (A → A → Bool) → List A → List (List A)
grouped same xs = map (λ x. filter (same x) xs) (each_once same xs)

-- the items in order with one more, before those that it isn't greater than
abbrev pub with_sorted : {A : Type 0} → (A → A → Ordering) → A → List A → List A
with_sorted cmp x [] = x ∷ []
with_sorted cmp x (y ∷ ys) = if is_gt (cmp x y) then y ∷ with_sorted cmp x ys else x ∷ y ∷ ys

-- the items in order; those that are tied stay in theirs
abbrev pub sorted : {A : Type 0} → (A → A → Ordering) → List A → List A
sorted cmp [] = []
sorted cmp (x ∷ xs) = with_sorted cmp x (sorted cmp xs)

-- lists one after the other
abbrev pub joined : {A : Type 0} → List (List A) → List A
joined [] = []
joined (xs ∷ others) = xs ++ joined others

-- what the items give one after the other, or none where one gives none
abbrev pub all_given : {A B : Type 0} → (A → Option B) → List A → Option (List B)
all_given give [] = Some []
all_given give (x ∷ xs) =
    option_and_then (λ y. option_map (λ ys. y ∷ ys) (all_given give xs)) (give x)
