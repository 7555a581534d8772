-- A stable sort gives the sorted list: lists in order in which the same items are tied in one order are one list.
use Rattle.std.proofs.Common.{◌≡◌, suc, ◌+◌, Bool, true, false, not, ◌&&◌, cond, List, [], ◌∷◌, map, refl, sym, ap, ap₂, ◌∙◌, subst, arith, Less, Equal, Greater, Ordering}
use Rattle.std.specs.Bool.{⊤}
use Rattle.std.specs.Cmp.{IsTotalOrder, upto, tied_itself}
use Rattle.std.specs.List.{AllByRecursion, filter}
use Rattle.std.specs.List.Sorted.{IsSorted, IsStable, ties}
use Rattle.std.specs.Ordering.{is_lt, is_eq, is_gt, ordering_reverse}
use Rattle.std.proofs.lemmas.Bool.{false≢true}
use Rattle.tb_tree.proofs.lists.Alls.{all-weaker}
use Rattle.tb_query.specs.Lists.{with_sorted, sorted}
use mathlib.Core.Path.{fun_ext}

-- what is tied with an item
abbrev tied : {A : Type 0} → (A → A → Ordering) → A → A → Bool
tied cmp x y = is_eq (cmp x y)

-- each item isn't greater than those behind it
abbrev Rises : {A : Type 0} → (A → A → Ordering) → List A → Type 0
Rises cmp [] = ⊤
Rises cmp (x ∷ xs) = AllByRecursion (λ y. is_gt (cmp x y) ≡ false) xs × Rises cmp xs

some-none : {A : Type 0} (x : A) (xs : List A) → ◌≡◌ {A = List A} (x ∷ xs) [] → ⊥
some-none x xs e = cc

firsts-same : {A : Type 0} (x y : A) (xs ys : List A) → x ∷ xs ≡ y ∷ ys → x ≡ y
firsts-same x y xs ys e = cc

rests-same : {A : Type 0} (x y : A) (xs ys : List A) → x ∷ xs ≡ y ∷ ys → xs ≡ ys
rests-same x y xs ys e = cc

-- the first item that is kept is one of the items
first-kept : {A : Type 0} (P : A → Type 0) (test : A → Bool) (xs : List A) (y : A) (ys : List A) → AllByRecursion P xs → filter test xs ≡ y ∷ ys → P y
first-kept P test [] y ys all is = absurd (some-none y ys (sym is))
first-kept P test (x ∷ xs) y ys all is = by (test x) is (λ e. first-kept P test xs y ys all.1 e)
  where
    by : (b : Bool) → cond b (x ∷ filter test xs) (filter test xs) ≡ y ∷ ys → (filter test xs ≡ y ∷ ys → P y) → P y
    by true e others = subst P (firsts-same x y (filter test xs) ys e) all.0
    by false e others = others e

-- what isn't greater on either side is tied
both-ways : (o p : Ordering) → o ≡ ordering_reverse p → is_gt o ≡ false → is_gt p ≡ false → is_eq o ≡ true
both-ways Less Less e g h = absurd (let d : ◌≡◌ {A = Ordering} Less Greater = e in cc)
both-ways Less Equal e g h = absurd (let d : ◌≡◌ {A = Ordering} Less Equal = e in cc)
both-ways Less Greater e g h = absurd (false≢true (sym h))
both-ways Equal p e g h = refl
both-ways Greater p e g h = absurd (false≢true (sym g))

not-greater : (o : Ordering) → is_eq o ≡ true → is_gt o ≡ false
not-greater Less e = refl
not-greater Equal e = refl
not-greater Greater e = absurd (false≢true e)

module _ {A : Type 0} (cmp : A → A → Ordering) (total : IsTotalOrder cmp) where
  self-tied : (x : A) → tied cmp x x ≡ true
  self-tied x = ap is_eq (tied_itself total x)

  ties-by : (o : Ordering) → (not (is_lt o) && not (is_lt (ordering_reverse o))) ≡ is_eq o
  ties-by Less = refl
  ties-by Equal = refl
  ties-by Greater = refl

  ties-tied : (x : A) → ties (λ a b. is_lt (cmp a b)) x ≡ tied cmp x
  ties-tied x = fun_ext (λ y. ap (λ o. not (is_lt (cmp x y)) && not (is_lt o)) (total.antisymm y x) ∙ ties-by (cmp x y))

  -- in order, from neighbours on

  rest-sorted : (x : A) (xs : List A) → IsSorted cmp (x ∷ xs) → IsSorted cmp xs
  rest-sorted x xs sorted k d low lt =
      let next : suc (k + 1) ≡ suc k + 1 = omega arith in
      rw (← next) at (sorted (suc k) d (omega arith) (omega (arith, lt)))

  lt-back : (o p : Ordering) → o ≡ ordering_reverse p → is_lt o ≡ false → is_gt p ≡ false
  lt-back o Less e h = refl
  lt-back o Equal e h = refl
  lt-back o Greater e h = absurd (false≢true (sym h ∙ ap is_lt e))

  chained : (x y : A) (ys : List A) → is_gt (cmp x y) ≡ false → AllByRecursion (λ z. is_gt (cmp y z) ≡ false) ys → AllByRecursion (λ z. is_gt (cmp x z) ≡ false) ys
  chained x y ys le all = all-weaker (λ z. is_gt (cmp y z) ≡ false) (λ z. is_gt (cmp x z) ≡ false) ys (λ z behind. upto total x y z le behind) all

  rises : (xs : List A) → IsSorted cmp xs → Rises cmp xs
  rises [] sorted = tt
  rises (x ∷ []) sorted = (tt, tt)
  rises (x ∷ y ∷ ys) sorted =
      let others = rises (y ∷ ys) (rest-sorted x (y ∷ ys) sorted) in
      let le = lt-back (cmp y x) (cmp x y) (total.antisymm y x) (sorted 0 x (omega arith) (omega arith)) in
      ((le, chained x y ys le others.0), others)

  -- Two lists in order.

  le-by : (y z : A) (zs : List A) (b : Bool) (rest : List A) → tied cmp y z ≡ b → AllByRecursion (λ w. is_gt (cmp z w) ≡ false) zs → cond b (z ∷ filter (tied cmp y) zs) (filter (tied cmp y) zs) ≡ y ∷ rest
      → is_gt (cmp z y) ≡ false
  le-by y z zs true rest is all e = not-greater (cmp z y) (ap is_eq (total.antisymm z y) ∙ turned (cmp y z) is)
    where
      turned : (o : Ordering) → is_eq o ≡ true → is_eq (ordering_reverse o) ≡ true
      turned Less e = absurd (false≢true e)
      turned Equal e = refl
      turned Greater e = absurd (false≢true e)
  le-by y z zs false rest is all e = first-kept (λ w. is_gt (cmp z w) ≡ false) (tied cmp y) zs y rest all e

  kept-self : (y : A) (ys : List A) → filter (tied cmp y) (y ∷ ys) ≡ y ∷ filter (tied cmp y) ys
  kept-self y ys = rw (self-tied y) refl

  least-first : (y z : A) (ys zs : List A) → AllByRecursion (λ w. is_gt (cmp z w) ≡ false) zs → filter (tied cmp y) (y ∷ ys) ≡ filter (tied cmp y) (z ∷ zs) → is_gt (cmp z y) ≡ false
  least-first y z ys zs all same = le-by y z zs (tied cmp y z) (filter (tied cmp y) ys) refl all (sym same ∙ kept-self y ys)

  rest-by : (b : Bool) (y : A) (fs gs : List A) → cond b (y ∷ fs) fs ≡ cond b (y ∷ gs) gs → fs ≡ gs
  rest-by true y fs gs e = rests-same y y fs gs e
  rest-by false y fs gs e = e

  one-order : (ys zs : List A) → Rises cmp ys → Rises cmp zs → ((x : A) → filter (tied cmp x) ys ≡ filter (tied cmp x) zs) → ys ≡ zs
  one-order [] [] up also same = refl
  one-order [] (z ∷ zs) up also same = absurd (some-none z (filter (tied cmp z) zs) (sym (kept-self z zs) ∙ sym (same z)))
  one-order (y ∷ ys) [] up also same = absurd (some-none y (filter (tied cmp y) ys) (sym (kept-self y ys) ∙ same y))
  one-order (y ∷ ys) (z ∷ zs) up also same =
      let z_first = least-first y z ys zs also.0 (same y) in
      let y_first = least-first z y zs ys up.0 (sym (same z)) in
      let tie = both-ways (cmp y z) (cmp z y) (total.antisymm y z) y_first z_first in
      let second : filter (tied cmp y) (z ∷ zs) ≡ z ∷ filter (tied cmp y) zs = rw tie refl in
      let one = firsts-same y z (filter (tied cmp y) ys) (filter (tied cmp y) zs) (sym (kept-self y ys) ∙ same y ∙ second) in
      let others = one-order ys zs up.1 also.1 (λ x. rest-by (tied cmp x y) y (filter (tied cmp x) ys) (filter (tied cmp x) zs) (same x ∙ ap (λ w. filter (tied cmp x) (w ∷ zs)) (sym one))) in
      ap₂ (λ w ws. w ∷ ws) one others

  -- The sorted list is in order, and keeps ties.

  all-with : (P : A → Type 0) (x : A) (ys : List A) → P x → AllByRecursion P ys → AllByRecursion P (with_sorted cmp x ys)
  all-with P x [] own all = (own, tt)
  all-with P x (y ∷ ys) own all = by (is_gt (cmp x y)) (all-with P x ys own all.1)
    where
      by : (b : Bool) → AllByRecursion P (with_sorted cmp x ys) → AllByRecursion P (cond b (y ∷ with_sorted cmp x ys) (x ∷ y ∷ ys))
      by true others = (all.0, others)
      by false others = (own, all)

  greater-back : (o p : Ordering) → o ≡ ordering_reverse p → is_gt p ≡ true → is_gt o ≡ false
  greater-back o Less e h = absurd (false≢true h)
  greater-back o Equal e h = absurd (false≢true h)
  greater-back o Greater e h = ap is_gt e

  rises-with : (x : A) (ys : List A) → Rises cmp ys → Rises cmp (with_sorted cmp x ys)
  rises-with x [] up = (tt, tt)
  rises-with x (y ∷ ys) up = by (is_gt (cmp x y)) refl (rises-with x ys up.1)
    where
      by : (b : Bool) → is_gt (cmp x y) ≡ b → Rises cmp (with_sorted cmp x ys) → Rises cmp (cond b (y ∷ with_sorted cmp x ys) (x ∷ y ∷ ys))
      by true is others = (all-with (λ z. is_gt (cmp y z) ≡ false) x ys (greater-back (cmp y x) (cmp x y) (total.antisymm y x) is) up.0, others)
      by false is others = ((is, chained x y ys is up.0), up)

  rises-sorted : (xs : List A) → Rises cmp (sorted cmp xs)
  rises-sorted [] = tt
  rises-sorted (x ∷ xs) = rises-with x (sorted cmp xs) (rises-sorted xs)

  never-both : (w x y : A) → is_gt (cmp x y) ≡ true → tied cmp w x ≡ true → tied cmp w y ≡ true → ⊥
  never-both w x y greater one other =
      false≢true (sym (not-greater (cmp x y) (ap is_eq (sym (total.congr w x y (equal (cmp w x) one))) ∙ other)) ∙ greater)
    where
      equal : (o : Ordering) → is_eq o ≡ true → o ≡ Equal
      equal Less e = absurd (false≢true e)
      equal Equal e = refl
      equal Greater e = absurd (false≢true e)

  passed-by : (w x y : A) (kept ys : List A) (b c : Bool) → (b ≡ true → c ≡ true → ⊥) → kept ≡ cond b (x ∷ ys) ys → cond c (y ∷ kept) kept ≡ cond b (x ∷ cond c (y ∷ ys) ys) (cond c (y ∷ ys) ys)
  passed-by w x y kept ys true true never is = absurd (never refl refl)
  passed-by w x y kept ys true false never is = is
  passed-by w x y kept ys false true never is = ap (λ l. y ∷ l) is
  passed-by w x y kept ys false false never is = is

  ties-with : (w x : A) (ys : List A) → filter (tied cmp w) (with_sorted cmp x ys) ≡ filter (tied cmp w) (x ∷ ys)
  ties-with w x [] = refl
  ties-with w x (y ∷ ys) = by (is_gt (cmp x y)) refl (ties-with w x ys)
    where
      by : (b : Bool) → is_gt (cmp x y) ≡ b → filter (tied cmp w) (with_sorted cmp x ys) ≡ filter (tied cmp w) (x ∷ ys)
          → filter (tied cmp w) (cond b (y ∷ with_sorted cmp x ys) (x ∷ y ∷ ys)) ≡ filter (tied cmp w) (x ∷ y ∷ ys)
      by true is others =
          passed-by w x y (filter (tied cmp w) (with_sorted cmp x ys)) (filter (tied cmp w) ys) (tied cmp w x) (tied cmp w y) (never-both w x y is) others
      by false is others = refl

  ties-sorted : (w : A) (xs : List A) → filter (tied cmp w) (sorted cmp xs) ≡ filter (tied cmp w) xs
  ties-sorted w [] = refl
  ties-sorted w (x ∷ xs) = ties-with w x (sorted cmp xs) ∙ ap (λ l. cond (tied cmp w x) (x ∷ l) l) (ties-sorted w xs)

  -- What a stable sort gives is the sorted list.
  pub stable-sorted : (xs ys : List A) → IsSorted cmp ys → IsStable cmp xs ys → ys ≡ sorted cmp xs
  stable-sorted xs ys up stable =
      one-order ys (sorted cmp xs) (rises ys up) (rises-sorted xs)
      (λ x. ap (λ t. filter t ys) (sym (ties-tied x)) ∙ stable x ∙ ap (λ t. filter t xs) (ties-tied x) ∙ sym (ties-sorted x xs))

-- what a function gives of items that are sorted by it

with_sorted-map : {A B : Type 0} (f : A → B) (cmp : B → B → Ordering) (x : A) (ys : List A) → map f (with_sorted (λ a b. cmp (f a) (f b)) x ys) ≡ with_sorted cmp (f x) (map f ys)
with_sorted-map f cmp x [] = refl
with_sorted-map f cmp x (y ∷ ys) = by (is_gt (cmp (f x) (f y))) (with_sorted-map f cmp x ys)
  where
    by : (b : Bool) → map f (with_sorted (λ a c. cmp (f a) (f c)) x ys) ≡ with_sorted cmp (f x) (map f ys)
        → map f (cond b (y ∷ with_sorted (λ a c. cmp (f a) (f c)) x ys) (x ∷ y ∷ ys)) ≡ cond b (f y ∷ with_sorted cmp (f x) (map f ys)) (f x ∷ f y ∷ map f ys)
    by true others = ap (λ l. f y ∷ l) others
    by false others = refl

pub sorted-map : {A B : Type 0} (f : A → B) (cmp : B → B → Ordering) (xs : List A) → map f (sorted (λ a b. cmp (f a) (f b)) xs) ≡ sorted cmp (map f xs)
sorted-map f cmp [] = refl
sorted-map f cmp (x ∷ xs) = with_sorted-map f cmp x (sorted (λ a b. cmp (f a) (f b)) xs) ∙ ap (with_sorted cmp (f x)) (sorted-map f cmp xs)
