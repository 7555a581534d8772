-- Reading with one token of look-ahead, by the expressions that are still to come. It never goes back.
use Rattle.std.specs.Prelude.{ℕ, ◌+◌, Bool, true, false, ◌&&◌, ◌||◌, if◌then◌else◌, List, [], ◌∷◌, ◌++◌, length, Option, Some, None}
use Rattle.tb_token.specs.grammar.Grammar.{Tok, Expression, one, both, either, maybe, many, opened, Rules, has}

-- the expression has a token in it, whatever sentence of it is taken: it is not nullable
abbrev pub is_never_empty : Expression → Bool
is_never_empty (one c) = true
is_never_empty (both p q) = is_never_empty p || is_never_empty q
is_never_empty (either p q) = is_never_empty p && is_never_empty q
is_never_empty (maybe p) = false
is_never_empty (many p) = false
is_never_empty (opened c n) = true

-- no expression is left that has a token in it
abbrev pub may_end : List Expression → Bool
may_end [] = true
may_end (p ∷ ps) = (if is_never_empty p then false else true) && may_end ps

-- FIRST of the expression before what may begin with these terminals
abbrev pub first_set_before : Expression → List ℕ → List ℕ
first_set_before (one c) behind = c
first_set_before (both p q) behind = first_set_before p (first_set_before q behind)
first_set_before (either p q) behind = first_set_before p behind ++ first_set_before q behind
first_set_before (maybe p) behind = first_set_before p behind ++ behind
first_set_before (many p) behind = first_set_before p behind ++ behind
first_set_before (opened c n) behind = c

-- FIRST of the expression: the terminals that it begins with
abbrev pub first_set : Expression → List ℕ
first_set p = first_set_before p []

-- What is still to come once the expression, with these behind it, has taken the terminal. An expression that
-- takes nothing leaves the terminal to what is behind it, which is the last argument.
abbrev pub takes : Rules → Expression → ℕ → List Expression → Option (List Expression) → Option (List Expression)
takes rules (one c) x ps else_by = if has c x then Some ps else None
takes rules (both p q) x ps else_by = takes rules p x (q ∷ ps) (takes rules q x ps else_by)
takes rules (either p q) x ps else_by =
    if has (first_set p) x then takes rules p x ps else_by else takes rules q x ps else_by
takes rules (maybe p) x ps else_by =
    if has (first_set p) x then takes rules p x ps else_by else else_by
takes rules (many p) x ps else_by =
    if has (first_set p) x then takes rules p x (many p ∷ ps) None else else_by
takes rules (opened c n) x ps else_by = if has c x then Some (rules n ∷ ps) else None

-- what is still to come once these expressions have taken the terminal, or none where they cannot go on
abbrev pub after : Rules → List Expression → ℕ → Option (List Expression)
after rules [] x = None
after rules (p ∷ ps) x = takes rules p x ps (after rules ps x)

-- How many tokens are left where the reading cannot go on, that token among them, so 0 where the
-- text ends too early; or none where the text ends with nothing still to come.
abbrev pub read : Rules → List Tok → Option (List Expression) → Option ℕ
read rules s None = Some (1 + length s)
read rules [] (Some ps) = if may_end ps then None else Some 0
read rules (t ∷ s) (Some ps) = read rules s (after rules ps t.terminal)
