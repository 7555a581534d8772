-- Rows worked out by hand: a list of terminals in parentheses, `( a , a )`, in which such lists may stand.
use Rattle.std.proofs.Common.{◌≡◌, ℕ, false, List, [], ◌∷◌, map, Some, None, refl}
use Rattle.tb_token.specs.grammar.Grammar.{Tok, Expression, one, both, either, many, opened, Rules, row}
use Rattle.tb_token.specs.grammar.Reading.{read}
use Rattle.tb_token.specs.grammar.LL1.{is_ll1, AreLL1, AreGood}

-- the terminals 1 `(`, 2 `)`, 3 `,`, 4 `a`
abbrev nested : Expression
nested = opened (1 ∷ []) 0

abbrev item : Expression
item = either (one (4 ∷ [])) nested

abbrev rules : Rules
rules n = row item (many (both (one (3 ∷ [])) item) ∷ one (2 ∷ []) ∷ [])

abbrev follow : ℕ → List ℕ
follow n = 2 ∷ 3 ∷ []

pub rules-good : AreGood rules follow
rules-good = record { ll1 = λ n. refl; easy = λ n. refl }

pub nested-ll1 : AreLL1 follow (nested ∷ [])
nested-ll1 = (refl, tt)

abbrev toks : List ℕ → List Tok
toks terminals = map (λ x. record { terminal = x; bytes = []; number = 0 }) terminals

-- `( a , ( a ) )`
pub read-sentence : read rules (toks (1 ∷ 4 ∷ 3 ∷ 1 ∷ 4 ∷ 2 ∷ 2 ∷ [])) (Some (nested ∷ [])) ≡ None
read-sentence = refl

-- `( a , )` is wrong at its fourth token, and one is left
pub read-wrong : read rules (toks (1 ∷ 4 ∷ 3 ∷ 2 ∷ [])) (Some (nested ∷ [])) ≡ Some 1
read-wrong = refl

-- `( a ,` ends too early
pub read-early : read rules (toks (1 ∷ 4 ∷ 3 ∷ [])) (Some (nested ∷ [])) ≡ Some 0
read-early = refl

-- a choice of two expressions that begin alike is not LL(1)
pub alike-not_ll1 : is_ll1 follow [] (either (both (one (4 ∷ [])) (one (3 ∷ []))) (one (4 ∷ []))) ≡ false
alike-not_ll1 = refl
