-- Expressions that are still to come, kept in a stack whose top is last.
use Rattle.std.specs.Prelude.{◌≡◌, ℕ, Bool, true, false, List, [], ◌∷◌, ◌++◌, Some, None}
use Rattle.std.specs.Borrow.{Bor}
use Rattle.tb_token.specs.grammar.Grammar as grammar
use Rattle.tb_token.specs.grammar.Reading.{after}
use Rattle.tb_token.specs.reading.View.{expression_of}
use Rattle.tb_token.specs.reading.Machine.{Step, taken, passed, stuck}
use Rattle.tb_token.specs.declared.reader.expression.Expression.{Expression}
use Rattle.tb_token.specs.declared.reader.take.Took.{Took}
use Rattle.tb_token.specs.declared.reader.take.Took.TheVariants as took

-- the expressions from the top down
abbrev pub expressions_in : List (Bor Expression) → List grammar.Expression
expressions_in [] = []
expressions_in (p ∷ above) = expressions_in above ++ expression_of p.now ∷ []

-- the stack has what a step leaves of an expression, over what was there; where the expression passes it is as
-- before, and where it is stuck nothing is said of it
abbrev pub HasTaken : Step → List (Bor Expression) → List (Bor Expression) → Took → Type 0
HasTaken s before now took.Taken =
    (ps : List grammar.Expression) × (s ≡ taken ps) × (expressions_in now ≡ ps ++ expressions_in before)
HasTaken s before now took.Passed = (s ≡ passed) × (now ≡ before)
HasTaken s before now took.Stuck = s ≡ stuck

abbrev pub is_passed : Took → Bool
is_passed took.Passed = true
is_passed _ = false

-- what a repetition did, whose expression begins with the terminal
abbrev pub of_more : Took → Took
of_more took.Taken = took.Taken
of_more took.Passed = took.Stuck
of_more took.Stuck = took.Stuck

-- the expressions have taken the terminal, or cannot go on with it
abbrev pub HaveGone : grammar.Rules → ℕ → List (Bor Expression) → List (Bor Expression) → Bool → Type 0
HaveGone rules x before now true = after rules (expressions_in before) x ≡ Some (expressions_in now)
HaveGone rules x before now false = after rules (expressions_in before) x ≡ None
