-- Worked rows of the definitions, computed.
use Rattle.std.proofs.Common.{◌≡◌, true, false, [], ◌∷◌, refl}
use Rattle.tb_token.specs.grammar.Grammar.{Expression, one, both, maybe, many, opened, Rules}
use Rattle.tb_token.specs.reading.Machine.{begins_by, taken, passed, stuck, step}

-- the terminals 1 and 2; and rules that all say 2
abbrev a : Expression
a = one (1 ∷ [])

abbrev b : Expression
b = one (2 ∷ [])

abbrev says_b : Rules
says_b n = b

-- `[ a ] b` begins with 2 as well as with 1, and `[ a ]` with what is behind it
pub begins-both : begins_by (both (maybe a) b) 2 false ≡ true
begins-both = refl

pub begins-behind : begins_by (maybe a) 2 true ≡ true
begins-behind = refl

-- `a b` leaves b behind 1; `[ a ] b` takes 2 and leaves nothing; `[ a ]` passes 2, and a is stuck
pub step-leaves : step says_b (both a b) 1 ≡ taken (b ∷ [])
step-leaves = refl

pub step-passes_first : step says_b (both (maybe a) b) 2 ≡ taken []
step-passes_first = refl

pub step-passes : step says_b (maybe a) 2 ≡ passed
step-passes = refl

pub step-stuck : step says_b (both a b) 2 ≡ stuck
step-stuck = refl

-- `{ a b }` leaves b and itself behind 1, and a token that opens a rule leaves what it says
pub step-repeats : step says_b (many (both a b)) 1 ≡ taken (b ∷ many (both a b) ∷ [])
step-repeats = refl

pub step-opens : step says_b (opened (1 ∷ []) 0) 1 ≡ taken (b ∷ [])
step-opens = refl
