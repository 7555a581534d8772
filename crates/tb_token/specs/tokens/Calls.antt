-- What the call answers, and what holds of each cut.
use Rattle.std.specs.Prelude.{◌≡◌, ◌⊎◌, ℕ, ◌<◌, ◌≤◌, List, [], ◌∷◌, Option, Some, None, Result, Ok, Err}
use Rattle.std.proofs.Common.{Vec, Global}
use Rattle.tb_token.specs.tokens.Cuts.{IsCut}
use Rattle.tb_token.specs.declared.lexer.token.Token.{Token}
use Rattle.tb_token.specs.declared.lexer.fault.LexFault.{LexFault}
use Rattle.tb_token.specs.declared.lexer.fault.LexFault.TheVariants.{NoMemory}

-- the tokens of the text, or its first fault; memory may be wanting at any time
abbrev pub Cuts : List ℕ → Result (Vec Token Global) LexFault → Type 0
Cuts text (Ok tokens) = IsCut text tokens.items None
Cuts text (Err f) = (f ≡ NoMemory) ⊎ ((ts : List Token) × IsCut text ts (Some f))

-- a text is cut in one way
abbrev pub HasOneCut : List ℕ → Type 0
HasOneCut text =
    (ts us : List Token) (f g : Option LexFault) → IsCut text ts f → IsCut text us g
    → (ts ≡ us) × (f ≡ g)

-- each token begins at the end of the one before it or behind, has a byte or more, and ends within
abbrev pub Rise : ℕ → ℕ → List Token → Type 0
Rise low high [] = low ≤ high
Rise low high (t ∷ ts) = (low ≤ t.from) × (t.from < t.to) × Rise t.to high ts
