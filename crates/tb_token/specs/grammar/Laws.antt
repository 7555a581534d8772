-- What holds of each grammar that one token of look-ahead decides.
use Rattle.std.specs.Prelude.{◌≡◌, ℕ, ◌+◌, ◌-◌, ◌<◌, List, [], ◌∷◌, length, Some, None}
use Rattle.tb_token.specs.grammar.Grammar.{Tok, Expression, Rules}
use Rattle.tb_token.specs.grammar.Sentences.{Tree, Derives, AreSentence, IsWrongAt}
use Rattle.tb_token.specs.grammar.Reading.{read}
use Rattle.tb_token.specs.grammar.Places.{Stands, Stops}
use Rattle.tb_token.specs.grammar.LL1.{AreLL1, AreGood}

-- a list of tokens has one tree at most
abbrev pub HaveOneTree : Type 0
HaveOneTree =
    (rules : Rules) (follow : ℕ → List ℕ) (ps : List Expression) (s : List Tok) (vs ws : List Tree)
    → AreGood rules follow → AreLL1 follow ps
    → Derives rules ps vs s → Derives rules ps ws s → vs ≡ ws

-- the reading comes to the end of a sentence alone, and else stops at the token where the list is wrong
abbrev pub ReadingIsRight : Type 0
ReadingIsRight =
    (rules : Rules) (follow : ℕ → List ℕ) (ps : List Expression) (s : List Tok)
    → AreGood rules follow → AreLL1 follow ps
    → (read rules s (Some ps) ≡ None → AreSentence rules ps s)
    × ((left : ℕ) → read rules s (Some ps) ≡ Some left → IsWrongAt rules ps s (length s - left + 1))

-- whatever the grammar is, a list is wrong at one place
abbrev pub IsWrongOnce : Type 0
IsWrongOnce =
    (rules : Rules) (ps : List Expression) (s : List Tok) (k j : ℕ)
    → IsWrongAt rules ps s k → IsWrongAt rules ps s j → k ≡ j

-- where a reader of a list stops, or has read the expression and tokens are left, the list is wrong
-- there; where it has read all tokens, they are a sentence with its tree
pub record PlacesAreRight (rules : Rules) (p : Expression) (s : List Tok) : Type 0 where
  pub stopped : (bad : ℕ) → Stops rules s p 0 bad → IsWrongAt rules (p ∷ []) s (bad + 1)
  pub left : (next : ℕ) (v : Tree) → Stands rules s p 0 next v → next < length s
      → IsWrongAt rules (p ∷ []) s (next + 1)
  pub whole : (v : Tree) → Stands rules s p 0 (length s) v → Derives rules (p ∷ []) (v ∷ []) s

-- so it is wherever one token of look-ahead decides
abbrev pub ReadersAreRight : Type 0
ReadersAreRight =
    (rules : Rules) (follow : ℕ → List ℕ) (p : Expression) (s : List Tok)
    → AreGood rules follow → AreLL1 follow (p ∷ []) → PlacesAreRight rules p s
