-- A grammar as data. Terminals are numbers: a grammar sees of a token its terminal alone.
use Rattle.std.specs.Prelude.{ℕ, Bool, false, ◌||◌, ◌==◌, List, [], ◌∷◌}

-- a token as a grammar and its readers see it
pub record Tok : Type 0 where
  pub terminal : ℕ
  -- its bytes, and its number in the text, from 1
  pub bytes : List ℕ
  pub number : ℕ

-- What a rule is made of. A rule is called by its number behind a token that opens it, so each call
-- takes a token; what is no such call is written out.
pub data Expression : Type 0 where
  -- one token whose terminal is among these
  one : List ℕ → Expression
  -- the first, and behind it the second
  both : Expression → Expression → Expression
  -- the first or the second
  either : Expression → Expression → Expression
  -- the expression, or nothing
  maybe : Expression → Expression
  -- the expression any number of times
  many : Expression → Expression
  -- one token whose terminal is among these, and behind it what the rule of this number says
  opened : List ℕ → ℕ → Expression

-- what each rule says
abbrev pub Rules : Type 0
Rules = ℕ → Expression

-- the terminal is among these
abbrev pub has : List ℕ → ℕ → Bool
has [] x = false
has (c ∷ cs) x = c == x || has cs x

-- the expressions one after the other
abbrev pub row : Expression → List Expression → Expression
row p [] = p
row p (q ∷ qs) = both p (row q qs)

-- one of the expressions
abbrev pub one_of : Expression → List Expression → Expression
one_of p [] = p
one_of p (q ∷ qs) = either p (one_of q qs)
