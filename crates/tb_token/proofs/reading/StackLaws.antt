-- What the expressions that are still to come do with a terminal, and at the end.
use Rattle.std.proofs.Common.{◌≡◌, ℕ, true, false, cond, ◌&&◌, List, [], ◌∷◌, ◌++◌, Some, None, sym, ap, ◌∙◌}
use Rattle.std.specs.Borrow.{Bor}
use Rattle.tb_token.specs.grammar.Grammar.{Rules}
use Rattle.tb_token.specs.grammar.Reading.{is_never_empty, may_end, after}
use Rattle.tb_token.specs.reading.View.{expression_of}
use Rattle.tb_token.specs.reading.Machine.{step}
use Rattle.tb_token.specs.reading.Stack.{expressions_in, HasTaken}
use Rattle.tb_token.specs.declared.reader.expression.Expression.{Expression}
use Rattle.tb_token.specs.declared.reader.take.Took.TheVariants as took
use Rattle.tb_token.proofs.reading.StepLaws.{expressions_in-push, behind, step-takes}

module _ (rules : Rules) (x : ℕ) (old popped now : List (Bor Expression)) (p : Bor Expression) (pop : old ≡ popped ++ p ∷ []) where
  after-top : after rules (expressions_in old) x ≡ behind (step rules (expression_of p.now) x) (expressions_in popped) (after rules (expressions_in popped) x)
  after-top =
      ap (λ ps. after rules ps x) (ap expressions_in pop ∙ expressions_in-push popped p) ∙ sym (step-takes rules x (expression_of p.now) (expressions_in popped) (after rules (expressions_in popped) x))

  pub gone-taken : HasTaken (step rules (expression_of p.now) x) popped now took.Taken → after rules (expressions_in old) x ≡ Some (expressions_in now)
  gone-taken (ps, is, left) = after-top ∙ ap (λ s. behind s (expressions_in popped) (after rules (expressions_in popped) x)) is ∙ ap (λ l. Some l) (sym left)

  pub gone-passed : HasTaken (step rules (expression_of p.now) x) popped now took.Passed → after rules (expressions_in now) x ≡ after rules (expressions_in old) x
  gone-passed is = ap (λ l. after rules (expressions_in l) x) is.1 ∙ sym (after-top ∙ ap (λ s. behind s (expressions_in popped) (after rules (expressions_in popped) x)) is.0)

  pub gone-stuck : HasTaken (step rules (expression_of p.now) x) popped now took.Stuck → after rules (expressions_in old) x ≡ None
  gone-stuck is = after-top ∙ ap (λ s. behind s (expressions_in popped) (after rules (expressions_in popped) x)) is

module _ (old popped : List (Bor Expression)) (p : Bor Expression) (pop : old ≡ popped ++ p ∷ []) where
  pub may_end-never_empty : is_never_empty (expression_of p.now) ≡ true → may_end (expressions_in old) ≡ false
  may_end-never_empty e = ap may_end (ap expressions_in pop ∙ expressions_in-push popped p) ∙ ap (λ b. cond b false true && may_end (expressions_in popped)) e

  pub may_end-empty : is_never_empty (expression_of p.now) ≡ false → may_end (expressions_in popped) ≡ may_end (expressions_in old)
  may_end-empty e = sym (ap may_end (ap expressions_in pop ∙ expressions_in-push popped p) ∙ ap (λ b. cond b false true && may_end (expressions_in popped)) e)
