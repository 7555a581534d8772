-- A condition that two paths have an equal value says the same of their tie, and a tuple that fails it is kept
-- by no conditions: those without a sum are tested first, and none of them is past.
use Rattle.std.proofs.Common.{◌≡◌, inl, inr, subst, Bool, true, false, not, ◌||◌, cond, if◌then◌else◌, List, [], ◌∷◌, ◌++◌, filter, refl, sym, ap, ap₂, ◌∙◌, Option, Some, option_map, option_and_then}
use Rattle.std.specs.List.{list_any, find, AllByRecursion}
use Rattle.std.specs.Ordering.{is_eq}
use Rattle.std.specs.declared.cmp.Ordering.{Ordering}
use Rattle.std.specs.declared.cmp.Ordering.TheVariants.{Less, Equal, Greater}
use Rattle.std.specs.Cmp as compare
use Rattle.std.proofs.lemmas.Bool.{or_parts}
use Rattle.std.proofs.lemmas.Option.{none-some, same_Some}
use Rattle.tb_tree.specs.Documents.{Docs}
use Rattle.tb_tree.specs.Numbers.{Numbered}
use Rattle.tb_tree.proofs.lists.Alls.{all-append, all-weaker}
use Rattle.tb_number.specs.Values.{value_cmp, AreEqual}
use Rattle.tb_number.specs.declared.agg.AggKind.TheVariants.{Count, Sum, Min, Max}
use Rattle.tb_number.specs.declared.op.CmpOp.{CmpOp}
use Rattle.tb_number.specs.declared.op.CmpOp.TheVariants.{Eq, Ne, Lt, Le, Gt, Ge}
use Rattle.tb_number.proofs.ValueLaws.{value_cmp-equal, equal-value_cmp}
use Rattle.tb_query.specs.Comparisons.{some_stand, some_stand_to, right_stands, comparison_holds, takes_sum, right_takes_sum, has_sum, as_tested, all_tested, nodes_at}
use Rattle.tb_query.specs.Operands.{values, operand_values}
use Rattle.tb_query.specs.Tuples.{Tuple, Lets, standing}
use Rattle.tb_query.specs.declared.path.Path.{Path}
use Rattle.tb_query.specs.declared.operand.Operand.{Operand}
use Rattle.tb_query.specs.declared.operand.Operand.TheVariants.{Nodes, Agg}
use Rattle.tb_query.specs.declared.operand.Right.{Right}
use Rattle.tb_query.specs.declared.operand.Right.TheVariants as right
use Rattle.tb_query.specs.declared.operand.Comparison.{Comparison}
use Rattle.tb_tlc.specs.Ties.{Tie, both_ways, is_equality, ties_of, ties_of_sides, ties}
use Rattle.tb_tlc.proofs.JoinPlans.{is_tied}

-- Equal values are equal the other way round.

turned-equal : (a b : List _) → AreEqual a b → AreEqual b a
turned-equal a b (inl one) = inl (one.0, one.2, one.1)
turned-equal a b (inr same) = inr (sym same)

eq-from : (o : Ordering) → is_eq o ≡ true → o ≡ Equal
eq-from Less is = absurd (let e : ◌≡◌ {A = Bool} false true = is in cc)
eq-from Equal is = refl
eq-from Greater is = absurd (let e : ◌≡◌ {A = Bool} false true = is in cc)

turned-value : (a b : List _) → is_eq (value_cmp a b) ≡ is_eq (value_cmp b a)
turned-value a b =
    compare.both_ways (is_eq (value_cmp a b)) (is_eq (value_cmp b a)) (λ is. turn a b is) (λ is. turn b a is)
  where
    turn : (x y : List _) → is_eq (value_cmp x y) ≡ true → is_eq (value_cmp y x) ≡ true
    turn x y is = ap is_eq (equal-value_cmp y x (turned-equal x y (value_cmp-equal x y (eq-from (value_cmp x y) is))))

-- some stand so to no others
any-none : {A : Type 0} (xs : List A) → list_any (λ a. false) xs ≡ false
any-none [] = refl
any-none (x ∷ xs) = any-none xs

or-swap : (a b c d : Bool) → ((a || b) || (c || d)) ≡ ((a || c) || (b || d))
or-swap true b true d = refl
or-swap true b false d = refl
or-swap false true true d = refl
or-swap false true false d = refl
or-swap false false true d = refl
or-swap false false false d = refl

any-or : {A : Type 0} (f g : A → Bool) (xs : List A) → list_any (λ x. f x || g x) xs ≡ (list_any f xs || list_any g xs)
any-or f g [] = refl
any-or f g (x ∷ xs) = ap (λ b. (f x || g x) || b) (any-or f g xs) ∙ or-swap (f x) (g x) (list_any f xs) (list_any g xs)

any-alike : {A : Type 0} (f g : A → Bool) → ((x : A) → f x ≡ g x) → (xs : List A) → list_any f xs ≡ list_any g xs
any-alike f g alike [] = refl
any-alike f g alike (x ∷ xs) = ap₂ (λ a b. a || b) (alike x) (any-alike f g alike xs)

any-swap : {A B : Type 0} (r : A → B → Bool) (xs : List A) (ys : List B) → list_any (λ x. list_any (r x) ys) xs ≡ list_any (λ y. list_any (λ x. r x y) xs) ys
any-swap r [] ys = sym (any-none ys)
any-swap r (x ∷ xs) ys = ap (λ b. list_any (r x) ys || b) (any-swap r xs ys) ∙ sym (any-or (r x) (λ y. list_any (λ z. r z y) xs) ys)

pub turned-values : (xs ys : List (List _)) → some_stand Eq xs ys ≡ some_stand Eq ys xs
turned-values xs ys =
    any-swap (λ a b. is_eq (value_cmp a b)) xs ys
    ∙ any-alike (λ b. list_any (λ a. is_eq (value_cmp a b)) xs) (λ b. list_any (λ a. is_eq (value_cmp b a)) xs)
    (λ b. any-alike (λ a. is_eq (value_cmp a b)) (λ a. is_eq (value_cmp b a)) (λ a. turned-value a b) xs) ys

-- Without a sum nothing is past.

abbrev IsGiven : {V : Type 0} → Option V → Type 0
IsGiven {V} o = (v : V) × (o ≡ Some v)

no-sum : {P : Type 0} → ◌≡◌ {A = Bool} true false → P
no-sum is = absurd (let e : ◌≡◌ {A = Bool} true false = is in cc)

values-given : (nodes : Path → List Numbered) (o : Operand) → takes_sum o ≡ false → IsGiven (operand_values nodes o)
values-given nodes (Nodes path) none = (values (nodes path), refl)
values-given nodes (Agg Count path) none = (_, refl)
values-given nodes (Agg Sum path) none = no-sum none
values-given nodes (Agg Min path) none = (_, refl)
values-given nodes (Agg Max path) none = (_, refl)

right-given : (nodes : Path → List Numbered) (op : CmpOp) (left : List (List _)) (r : Right) → right_takes_sum r ≡ false → IsGiven (right_stands nodes op left r)
right-given nodes op left (right.Operand o) none =
    let given = values-given nodes o none in
    (some_stand op left given.0, ap (option_map (some_stand op left)) given.1)
right-given nodes op left (right.Literal to) none = (some_stand_to op left to, refl)

pub plain-holds : (nodes : Path → List Numbered) (c : Comparison) → has_sum c ≡ false → IsGiven (comparison_holds nodes c)
plain-holds nodes c none =
    let parts = or_parts (takes_sum c.left) (right_takes_sum c.right) none in
    let left = values-given nodes c.left parts.0 in
    let held = right-given nodes c.op left.0 c.right parts.1 in
    (held.0, ap (option_and_then (λ vs. right_stands nodes c.op vs c.right)) left.1 ∙ held.1)

-- the conditions without a sum, and any others behind them
abbrev tested_before : List Comparison → List Comparison → List Comparison
tested_before conds others = filter (λ c. not (has_sum c)) conds ++ others

module _ (docs : Docs) (lets : Lets) (t : Tuple) where
  abbrev nodes : Path → List Numbered
  nodes path = nodes_at docs lets t path

  -- Where the tie fails, so do these conditions.
  abbrev FailsWith : List Comparison → Tie → Type 0
  FailsWith tested tie = is_tied docs tie t ≡ false → all_tested nodes tested ≡ Some false

  first-fails : (c : Comparison) (tested : List Comparison) → comparison_holds nodes c ≡ Some false → all_tested nodes (c ∷ tested) ≡ Some false
  first-fails c tested fails = ap (option_and_then (λ held. if held then all_tested nodes tested else Some false)) fails

  -- behind one more condition
  later-fails : (c : Comparison) (conds others : List Comparison) → all_tested nodes (tested_before conds others) ≡ Some false → all_tested nodes (tested_before (c ∷ conds) others) ≡ Some false
  later-fails c conds others fails = by (has_sum c) refl
    where
      held-first : (b : Bool) → comparison_holds nodes c ≡ Some b → all_tested nodes (c ∷ tested_before conds others) ≡ Some false
      held-first true is = ap (option_and_then (λ held. if held then all_tested nodes (tested_before conds others) else Some false)) is ∙ fails
      held-first false is = first-fails c (tested_before conds others) is

      by : (b : Bool) → has_sum c ≡ b → all_tested nodes (cond (not b) (c ∷ filter (λ k. not (has_sum k)) conds) (filter (λ k. not (has_sum k)) conds) ++ others) ≡ Some false
      by true is = fails
      by false is = let holds = plain-holds nodes c is in held-first holds.0 holds.1

  two-ways : (op : CmpOp) (left r : Path) (tested : List Comparison) → AllByRecursion (FailsWith (record { left = Nodes left; op = op; right = right.Operand (Nodes r) } ∷ tested)) (both_ways (is_equality op) (standing lets left) (standing lets r))
  two-ways Eq left r tested =
      let c : Comparison = record { left = Nodes left; op = Eq; right = right.Operand (Nodes r) } in (
        (λ fails. first-fails c tested (ap Some fails)),
        ((λ fails. first-fails c tested (ap Some (turned-values (values (nodes left)) (values (nodes r)) ∙ fails))), tt),
      )
  two-ways Ne left r tested = tt
  two-ways Lt left r tested = tt
  two-ways Le left r tested = tt
  two-ways Gt left r tested = tt
  two-ways Ge left r tested = tt

  own-fails : (left : Operand) (op : CmpOp) (r : Right) (conds others : List Comparison)
      → AllByRecursion (FailsWith (tested_before (record { left = left; op = op; right = r } ∷ conds) others)) (ties_of_sides lets op left r)
  own-fails (Nodes left) op (right.Operand (Nodes r)) conds others = two-ways op left r (tested_before conds others)
  own-fails (Nodes left) op (right.Operand (Agg kind path)) conds others = tt
  own-fails (Nodes left) op (right.Literal to) conds others = tt
  own-fails (Agg kind path) op r conds others = tt

  all-fail : (conds others : List Comparison) → AllByRecursion (FailsWith (tested_before conds others)) (ties lets conds)
  all-fail [] others = tt
  all-fail (c ∷ conds) others =
      all-append (FailsWith (tested_before (c ∷ conds) others)) (ties_of lets c) (ties lets conds)
      (own-fails c.left c.op c.right conds others)
      (all-weaker (FailsWith (tested_before conds others)) (FailsWith (tested_before (c ∷ conds) others)) (ties lets conds)
      (λ tie fails is. later-fails c conds others (fails is)) (all-fail conds others))

  -- So no tuple is kept in which a tie of the conditions fails.
  pub ties-fail : (conds : List Comparison) → AllByRecursion (FailsWith (as_tested conds)) (ties lets conds)
  ties-fail conds = all-fail conds (filter has_sum conds)

-- what is found is one of them, and passes
pub found-all : {A : Type 0} (P : A → Type 0) (test : A → Bool) (xs : List A) (x : A) → AllByRecursion P xs → find test xs ≡ Some x → (test x ≡ true) × P x
found-all P test [] x all is = absurd (none-some x is)
found-all {A} P test (y ∷ ys) x all is = by (test y) refl is (λ e. found-all P test ys x all.1 e)
  where
    by : (b : Bool) → test y ≡ b → cond b (Some y) (find test ys) ≡ Some x → (find test ys ≡ Some x → (test x ≡ true) × P x) → (test x ≡ true) × P x
    by true was e others = let same : y ≡ x = same_Some y x e in (subst (λ z. test z ≡ true) same was, subst P same all.0)
    by false was e others = others e
