-- What the call answers.
use Rattle.std.specs.Prelude.{◌≡◌, ℕ, List, [], ◌∷◌, Option, Some, None}
use Rattle.tb_token.specs.grammar.Grammar as grammar
use Rattle.tb_token.specs.grammar.Grammar.{Tok, Rules}
use Rattle.tb_token.specs.grammar.Sentences.{AreSentence, IsWrongAt}
use Rattle.tb_token.specs.grammar.LL1.{AreLL1, AreGood}
use Rattle.tb_token.specs.reading.View.{expression_of, rules_of}
use Rattle.tb_token.specs.declared.reader.expression.Grammar.{Grammar}

-- the tokens are a sentence, or wrong at this number, from 1
abbrev pub FirstWrong : Rules → grammar.Expression → List Tok → Option ℕ → Type 0
FirstWrong rules p s None = AreSentence rules (p ∷ []) s
FirstWrong rules p s (Some k) = IsWrongAt rules (p ∷ []) s k

-- so it is wherever the next terminal decides
abbrev pub IsFirstWrong : Rules → grammar.Expression → List Tok → Option ℕ → Type 0
IsFirstWrong rules p s wrong =
    (follow : ℕ → List ℕ) → AreGood rules follow → AreLL1 follow (p ∷ [])
    → FirstWrong rules p s wrong

-- the value is these rules with this expression to start from
pub record Says (g : Grammar) (rules : Rules) (p : grammar.Expression) : Type 0 where
  pub each_rule : (n : ℕ) → rules_of g n ≡ rules n
  pub start_is : expression_of g.start.now ≡ p

-- of whatever grammar the value is
abbrev pub IsRead : Grammar → List Tok → Option ℕ → Type 0
IsRead g s wrong =
    (rules : Rules) (p : grammar.Expression) → Says g rules p → IsFirstWrong rules p s wrong
