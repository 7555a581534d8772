-- What the first expression that is still to come does with a terminal, as the program finds it.
use Rattle.std.specs.Prelude.{ℕ, Bool, false, ◌||◌, if◌then◌else◌, List, [], ◌∷◌, ◌++◌}
use Rattle.tb_token.specs.grammar.Grammar.{Expression, one, both, either, maybe, many, opened, Rules, has}

-- whether the expression, or what is behind it where it may be empty, begins with the terminal
abbrev pub begins_by : Expression → ℕ → Bool → Bool
begins_by (one c) x behind = has c x
begins_by (both p q) x behind = begins_by p x (begins_by q x behind)
begins_by (either p q) x behind = begins_by p x behind || begins_by q x behind
begins_by (maybe p) x behind = begins_by p x behind || behind
begins_by (many p) x behind = begins_by p x behind || behind
begins_by (opened c n) x behind = has c x

-- it takes the terminal and leaves these expressions of itself, or leaves the terminal to what is behind, or
-- cannot go on
pub data Step : Type 0 where
  taken : List Expression → Step
  passed : Step
  stuck : Step

-- behind an expression that passes, and before this expression
abbrev pub or_else : Step → Expression → Step → Step
or_else (taken ps) q other = taken (ps ++ q ∷ [])
or_else passed q other = other
or_else stuck q other = stuck

abbrev pub step : Rules → Expression → ℕ → Step
step rules (one c) x = if has c x then taken [] else stuck
step rules (both p q) x = or_else (step rules p x) q (step rules q x)
step rules (either p q) x = if begins_by p x false then step rules p x else step rules q x
step rules (maybe p) x = if begins_by p x false then step rules p x else passed
step rules (many p) x =
    if begins_by p x false then or_else (step rules p x) (many p) stuck else passed
step rules (opened c n) x = if has c x then taken (rules n ∷ []) else stuck
