-- What the program builds of a query without fault, from the beginning of its tokens on.
use Rattle.std.specs.Prelude.{◌≡◌, ℕ, Bool, false, List, [], ◌∷◌, Some, None}
use Rattle.tb_token.specs.grammar.Grammar.{Tok, Expression, has}
use Rattle.tb_token.specs.grammar.Sentences.{Tree, leaf, nothing, Derives}
use Rattle.tb_token.specs.grammar.Reading.{read}
use Rattle.tb_token.specs.tokens.Lexemes.{HaveDigits}
use Rattle.tb_token.specs.grammar.Queries.{rules}
use Rattle.tb_pattern.specs.Faults.{past_behind}

-- the next token as a tree
abbrev pub next : List Tok → Tree
next [] = nothing
next (t ∷ s) = leaf t

abbrev pub Next : List Tok → Tree → Type 0
Next s v = v ≡ next s

-- there is a next token, and its terminal is among these
abbrev pub begins : List ℕ → List Tok → Bool
begins cs [] = false
begins cs (t ∷ s) = has cs t.terminal

-- These parts come next and nothing behind them, and no number is past its range, be there a `-`
-- before the first token or not.
pub record Come (minus : Bool) (ps : List Expression) (s : List Tok) : Type 0 where
  pub parts : read rules s (Some ps) ≡ None
  pub digits : HaveDigits s
  pub numbers : past_behind minus s ≡ None

-- the part stands at the beginning, its tree is such a one, and the other parts come next
pub record IsBuilt (p : Expression) (Is : Tree → Type 0) (ps : List Expression) (s left : List Tok)
    : Type 0 where
  pub minus : Bool
  pub behind : Come minus ps left
  pub tree : Tree
  pub is : Is tree
  pub derived : (vs : List Tree) → Derives rules ps vs left → Derives rules (p ∷ ps) (tree ∷ vs) s

-- wherever the part comes next, whatever comes behind it
abbrev pub Builds : Expression → (Tree → Type 0) → List Tok → List Tok → Type 0
Builds p Is s left =
    (ps : List Expression) (minus : Bool) → Come minus (p ∷ ps) s → IsBuilt p Is ps s left

-- likewise where no `-` stands before it
abbrev pub BuildsApart : Expression → (Tree → Type 0) → List Tok → List Tok → Type 0
BuildsApart p Is s left = (ps : List Expression) → Come false (p ∷ ps) s → IsBuilt p Is ps s left
