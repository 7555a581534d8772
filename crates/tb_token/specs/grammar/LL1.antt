-- Grammars that one token of look-ahead decides, which are LL(1) (Lewis and Stearns, JACM 1968). It
-- is found by computation.
use Rattle.std.specs.Prelude.{ℕ, Bool, true, false, ◌&&◌, ◌||◌, not, IsTrue, List, [], ◌∷◌, ⊤}
use Rattle.std.specs.List.{list_all}
use Rattle.tb_token.specs.grammar.Grammar.{Expression, one, both, either, maybe, many, opened, Rules, has}
use Rattle.tb_token.specs.grammar.Reading.{is_never_empty, first_set_before, first_set}

-- all of the first terminals are among the second
abbrev pub all_in : List ℕ → List ℕ → Bool
all_in xs ys = list_all (has ys) xs

-- no terminal is in both
abbrev pub are_apart : List ℕ → List ℕ → Bool
are_apart xs ys = list_all (λ x. not (has ys x)) xs

abbrev pub is_some : List ℕ → Bool
is_some [] = false
is_some (c ∷ cs) = true

-- FIRST of the expressions one after the other
abbrev pub first_set_of_all : List Expression → List ℕ
first_set_of_all [] = []
first_set_of_all (p ∷ ps) = first_set_before p (first_set_of_all ps)

-- Whether the next terminal tells how to read the expression, where `behind` may stand behind it and
-- `follow n` behind what rule n says. Each choice is between expressions that begin apart, or between a
-- expression and what is behind it, and an expression that may be left out is never empty by itself.
abbrev pub is_ll1 : (ℕ → List ℕ) → List ℕ → Expression → Bool
is_ll1 follow behind (one c) = is_some c
is_ll1 follow behind (both p q) =
    is_ll1 follow (first_set_before q behind) p && is_ll1 follow behind q
is_ll1 follow behind (either p q) =
    is_never_empty p && is_never_empty q && are_apart (first_set p) (first_set q)
    && is_ll1 follow behind p && is_ll1 follow behind q
is_ll1 follow behind (maybe p) =
    is_never_empty p && are_apart (first_set p) behind && is_ll1 follow behind p
is_ll1 follow behind (many p) =
    is_never_empty p && are_apart (first_set p) behind && is_ll1 follow (first_set_before (many p) behind) p
is_ll1 follow behind (opened c n) = is_some c && all_in behind (follow n)

-- each expression is LL(1) before what is behind it
abbrev pub AreLL1 : (ℕ → List ℕ) → List Expression → Type 0
AreLL1 follow [] = ⊤
AreLL1 follow (p ∷ ps) =
    IsTrue (is_ll1 follow (first_set_of_all ps) p) × AreLL1 follow ps

-- the expression has a sentence in which no rule is called
abbrev pub is_easy : Expression → Bool
is_easy (one c) = true
is_easy (both p q) = is_easy p && is_easy q
is_easy (either p q) = is_easy p || is_easy q
is_easy (maybe p) = true
is_easy (many p) = true
is_easy (opened c n) = false

-- each rule is LL(1) where it is called, and has a sentence in which no rule is called
pub record AreGood (rules : Rules) (follow : ℕ → List ℕ) : Type 0 where
  pub ll1 : (n : ℕ) → IsTrue (is_ll1 follow (follow n) (rules n))
  pub easy : (n : ℕ) → IsTrue (is_easy (rules n))
