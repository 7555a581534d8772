-- What an expression leaves on the stack.
use Rattle.std.proofs.Common.{◌≡◌, ◌<◌, ℕ, true, false, List, [], ◌∷◌, ◌++◌, length, drop, get_or, Option, Some, None, refl, sym, ap, ◌∙◌, append_assoc, arith, length-append}
use Rattle.std.specs.Prelude.{IsSome, option_to_list}
use Rattle.std.specs.Borrow.{Bor}
use Rattle.tb_token.specs.grammar.Grammar as grammar
use Rattle.tb_token.specs.grammar.Grammar.{has, Rules}
use Rattle.tb_token.proofs.grammar.TerminalLaws.{none-true}
use Rattle.tb_token.specs.reading.View.{expression_of}
use Rattle.tb_token.specs.reading.Machine.{begins_by, Step, taken, passed, stuck, or_else, step}
use Rattle.tb_token.specs.reading.Stack.{expressions_in, HasTaken, is_passed, of_more}
use Rattle.tb_token.specs.declared.reader.expression.Expression.{Expression}
use Rattle.tb_token.specs.declared.reader.expression.Expression.TheVariants as expression
use Rattle.tb_token.specs.declared.reader.take.Took.{Took}
use Rattle.tb_token.specs.declared.reader.take.Took.TheVariants as took
use Rattle.tb_token.proofs.reading.Views.{expression_of-Both, expression_of-Many, expression_of-Opened}
use Rattle.tb_token.proofs.reading.StepLaws.{expressions_in-push}

module _ (rules : Rules) (x : ℕ) (whole : Expression) where
  pub step-both : (p q : Bor Expression) → whole ≡ expression.Both p q
      → step rules (expression_of whole) x ≡ or_else (step rules (expression_of p.now) x) (expression_of q.now) (step rules (expression_of q.now) x)
  step-both p q e = ap (λ w. step rules (expression_of w) x) e ∙ ap (λ w. step rules w x) (expression_of-Both p q)

  pub step-many : (p : Bor Expression) → whole ≡ expression.Many p → begins_by (expression_of p.now) x false ≡ true
      → step rules (expression_of whole) x ≡ or_else (step rules (expression_of p.now) x) (expression_of whole) stuck
  step-many p e begun =
      let same : expression_of whole ≡ grammar.many (expression_of p.now) = ap (λ w. expression_of w) e ∙ expression_of-Many p in
      rw (same, begun) refl

  pub step-opened : (cs : Bor (List ℕ)) (n : ℕ) → whole ≡ expression.Opened cs n → has cs.now x ≡ true → step rules (expression_of whole) x ≡ taken (rules n ∷ [])
  step-opened cs n e here =
      let same : expression_of whole ≡ grammar.opened cs.now n = ap (λ w. expression_of w) e ∙ expression_of-Opened cs n in
      rw (same, here) refl

module _ (before pushed now : List (Bor Expression)) (q : Bor Expression) (push : pushed ≡ before ++ q ∷ []) where
  over : (ps : List grammar.Expression) → expressions_in now ≡ ps ++ expressions_in pushed → expressions_in now ≡ (ps ++ expression_of q.now ∷ []) ++ expressions_in before
  over ps e = e ∙ ap (λ l. ps ++ l) (ap expressions_in push ∙ expressions_in-push before q) ∙ sym (append_assoc ps (expression_of q.now ∷ []) (expressions_in before))

  -- what was pushed stays below what the expression leaves
  pub taken-first : (s t : Step) (k : Took) → HasTaken s pushed now k → is_passed k ≡ false → HasTaken (or_else s (expression_of q.now) t) before now k
  taken-first s t took.Taken (ps, is, left) e = (ps ++ expression_of q.now ∷ [], ap (λ w. or_else w (expression_of q.now) t) is, over ps left)
  taken-first s t took.Passed is e = none-true true e refl
  taken-first s t took.Stuck is e = ap (λ w. or_else w (expression_of q.now) t) is

  pub taken-more : (s : Step) (k : Took) → HasTaken s pushed now k → HasTaken (or_else s (expression_of q.now) stuck) before now (of_more k)
  taken-more s took.Taken (ps, is, left) = (ps ++ expression_of q.now ∷ [], ap (λ w. or_else w (expression_of q.now) stuck) is, over ps left)
  taken-more s took.Passed is = ap (λ w. or_else w (expression_of q.now) stuck) is.0
  taken-more s took.Stuck is = ap (λ w. or_else w (expression_of q.now) stuck) is

pub taken-passed : (s : Step) (before now : List (Bor Expression)) (k : Took) → HasTaken s before now k → is_passed k ≡ true → (s ≡ passed) × (now ≡ before)
taken-passed s before now took.Taken is e = none-true false refl e
taken-passed s before now took.Passed is e = is
taken-passed s before now took.Stuck is e = none-true false refl e

-- What was pushed last is popped first.

some-behind : {A : Type 0} (xs : List A) (x : A) → ◌≡◌ {A = List A} [] (xs ++ x ∷ []) → ⊥
some-behind xs x e =
    let size = ap length e in
    let more = length-append xs (x ∷ []) in
    absurd (omega arith)

append-last : {A : Type 0} (xs ys : List A) (x y : A) → xs ++ x ∷ [] ≡ ys ++ y ∷ [] → ys ≡ xs
append-last [] [] x y e = refl
append-last [] (z ∷ ys) x y e = absurd (some-behind ys y (ap (λ l. drop 1 l) e))
append-last (z ∷ xs) [] x y e = absurd (some-behind xs x (ap (λ l. drop 1 l) (sym e)))
append-last (w ∷ xs) (z ∷ ys) x y e =
    let first : w ≡ z = ap (λ l. get_or l 0 w) e in
    let rest = append-last xs ys x y (ap (λ l. drop 1 l) e) in
    rw (sym first) (ap (λ l. w ∷ l) rest)

module _ (before : List (Bor Expression)) (q : Bor Expression) (old : List (Bor Expression)) (is : old ≡ before ++ q ∷ []) where
  pub some-pushed : (n : ℕ) → n ≡ length old → 0 < n
  some-pushed n e =
      let size = ap length is in
      let more = length-append before (q ∷ []) in
      omega arith

  pub popped-back : (new : List (Bor Expression)) (o : Option (Bor Expression)) → old ≡ new ++ option_to_list o → IsSome o → new ≡ before
  popped-back new None e some = none-true false refl some
  popped-back new (Some r) e some = append-last before new q r (sym is ∙ e)
