-- What a reader of one expression promises, at a place of the list of tokens from 0. It speaks of any
-- expressions that may stand behind, so readers of expressions are joined without a word on what follows them.
use Rattle.std.specs.Prelude.{◌≡◌, ℕ, ◌+◌, ◌-◌, ◌≤◌, List, [], ◌∷◌, length, drop, Some}
use Rattle.tb_token.specs.grammar.Grammar.{Tok, Expression, many, Rules}
use Rattle.tb_token.specs.grammar.Sentences.{Tree, pair, Derives}
use Rattle.tb_token.specs.grammar.Reading.{read}

-- the expression stands from one place up to the next, and this is its tree
pub record Stands (rules : Rules) (s : List Tok) (p : Expression) (at next : ℕ) (v : Tree) : Type 0 where
  pub from : at ≤ next
  pub to : next ≤ length s
  pub on : (ps : List Expression)
      → read rules (drop at s) (Some (p ∷ ps)) ≡ read rules (drop next s) (Some ps)
  pub made : (ps : List Expression) (vs : List Tree) → Derives rules ps vs (drop next s)
      → Derives rules (p ∷ ps) (v ∷ vs) (drop at s)

-- the expression does not stand at the place: the reading stops at the token of place `bad`, or the end
pub record Stops (rules : Rules) (s : List Tok) (p : Expression) (at bad : ℕ) : Type 0 where
  pub from : at ≤ bad
  pub to : bad ≤ length s
  pub off : (ps : List Expression) → read rules (drop at s) (Some (p ∷ ps)) ≡ Some (length s - bad)

-- the token of the place
abbrev pub IsAt : List Tok → ℕ → Tok → Type 0
IsAt s at t = drop at s ≡ t ∷ drop (at + 1) s

-- the trees of a repetition, and the tree of its rest behind them
abbrev pub chain : List Tree → Tree → Tree
chain [] w = w
chain (v ∷ vs) w = pair v (chain vs w)

-- the expression stands so often from one place up to the next, and a repetition of it goes on there
pub record Repeats (rules : Rules) (s : List Tok) (p : Expression) (at next : ℕ) (vs : List Tree)
    : Type 0 where
  pub from : at ≤ next
  pub to : next ≤ length s
  pub on : (ps : List Expression)
      → read rules (drop at s) (Some (many p ∷ ps)) ≡ read rules (drop next s) (Some (many p ∷ ps))
  pub made : (ps : List Expression) (ws : List Tree) (w : Tree)
      → Derives rules (many p ∷ ps) (w ∷ ws) (drop next s)
      → Derives rules (many p ∷ ps) (chain vs w ∷ ws) (drop at s)
