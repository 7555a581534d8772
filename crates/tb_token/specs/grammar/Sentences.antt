-- What a grammar says of a list of tokens: its sentences with their trees, their prefixes, and where a
-- list that is no sentence is wrong.
use Rattle.std.specs.Prelude.{ℕ, ◌+◌, ◌<◌, ◌≤◌, IsTrue, List, [], ◌∷◌, ◌++◌, length, take}
use Rattle.tb_token.specs.grammar.Grammar.{Tok, Expression, one, both, either, maybe, many, opened, Rules, has}

-- what a sentence's tokens were read as
pub data Tree : Type 0 where
  leaf : Tok → Tree
  nothing : Tree
  pair : Tree → Tree → Tree
  first : Tree → Tree
  second : Tree → Tree

-- The tokens are these expressions one after the other, and these are the trees of the expressions: the expression
-- that stands first is taken apart until it is a token.
pub data Derives (rules : Rules) : List Expression → List Tree → List Tok → Type 0 where
  at_end : Derives rules [] [] []
  by_one : {c : List ℕ} {t : Tok} {ps : List Expression} {vs : List Tree} {s : List Tok}
      → IsTrue (has c t.terminal) → Derives rules ps vs s
      → Derives rules (one c ∷ ps) (leaf t ∷ vs) (t ∷ s)
  by_both : {p q : Expression} {ps : List Expression} {v w : Tree} {vs : List Tree} {s : List Tok}
      → Derives rules (p ∷ q ∷ ps) (v ∷ w ∷ vs) s
      → Derives rules (both p q ∷ ps) (pair v w ∷ vs) s
  by_first : {p q : Expression} {ps : List Expression} {v : Tree} {vs : List Tree} {s : List Tok}
      → Derives rules (p ∷ ps) (v ∷ vs) s
      → Derives rules (either p q ∷ ps) (first v ∷ vs) s
  by_second : {p q : Expression} {ps : List Expression} {v : Tree} {vs : List Tree} {s : List Tok}
      → Derives rules (q ∷ ps) (v ∷ vs) s
      → Derives rules (either p q ∷ ps) (second v ∷ vs) s
  left_out : {p : Expression} {ps : List Expression} {vs : List Tree} {s : List Tok}
      → Derives rules ps vs s
      → Derives rules (maybe p ∷ ps) (nothing ∷ vs) s
  put_in : {p : Expression} {ps : List Expression} {v : Tree} {vs : List Tree} {s : List Tok}
      → Derives rules (p ∷ ps) (v ∷ vs) s
      → Derives rules (maybe p ∷ ps) (v ∷ vs) s
  no_more : {p : Expression} {ps : List Expression} {vs : List Tree} {s : List Tok}
      → Derives rules ps vs s
      → Derives rules (many p ∷ ps) (nothing ∷ vs) s
  one_more : {p : Expression} {ps : List Expression} {v w : Tree} {vs : List Tree} {s : List Tok}
      → Derives rules (p ∷ many p ∷ ps) (v ∷ w ∷ vs) s
      → Derives rules (many p ∷ ps) (pair v w ∷ vs) s
  by_rule : {c : List ℕ} {n : ℕ} {t : Tok} {ps : List Expression} {v : Tree} {vs : List Tree}
      {s : List Tok}
      → IsTrue (has c t.terminal) → Derives rules (rules n ∷ ps) (v ∷ vs) s
      → Derives rules (opened c n ∷ ps) (pair (leaf t) v ∷ vs) (t ∷ s)

-- the tokens are the expressions
abbrev pub AreSentence : Rules → List Expression → List Tok → Type 0
AreSentence rules ps s = (vs : List Tree) × Derives rules ps vs s

-- the tokens, and perhaps more behind them, are the expressions
abbrev pub Begin : Rules → List Expression → List Tok → Type 0
Begin rules ps s = (more : List Tok) × AreSentence rules ps (s ++ more)

-- The tokens are not the expressions, and k is the least number for which the first k tokens do not begin
-- them; where all tokens begin them, k is one more than there are.
pub record IsWrongAt (rules : Rules) (ps : List Expression) (s : List Tok) (k : ℕ) : Type 0 where
  pub some : 0 < k
  pub within : k ≤ length s + 1
  pub before : (j : ℕ) → j < k → Begin rules ps (take j s)
  pub here : k ≤ length s → ¬ Begin rules ps (take k s)
  pub none : ¬ AreSentence rules ps s
