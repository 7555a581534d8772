-- What the program finds at a place of the text.
use Rattle.std.specs.Prelude.{◌≡◌, ℕ, ◌-◌, ◌<◌, if◌then◌else◌, List, [], Some, Result, Ok, Err}
use Rattle.tb_token.specs.tokens.Bytes.{is_quote}
use Rattle.tb_token.specs.tokens.Cuts.{IsLongest, AreCut}
use Rattle.tb_token.specs.declared.lexer.token.Token.{Token}
use Rattle.tb_token.specs.declared.lexer.fault.LexFault.{LexFault}
use Rattle.tb_token.specs.declared.lexer.fault.LexFault.TheVariants.{BadByte, OpenString}

-- the fault at a byte where no token begins
abbrev pub fault_at : ℕ → ℕ → LexFault
fault_at b at = if is_quote b then OpenString at else BadByte at

-- the longest token at the beginning of the bytes from this place on
pub record BeginsWith (at : ℕ) (bytes : List ℕ) (t : Token) : Type 0 where
  pub from : t.from ≡ at
  pub some : t.from < t.to
  pub longest : IsLongest bytes t.kind (t.to - at)

-- what stands at the beginning of the bytes from this place on: a token, or a fault
abbrev pub StandsAt : ℕ → List ℕ → Result Token LexFault → Type 0
StandsAt at bytes (Ok t) = BeginsWith at bytes t
StandsAt at bytes (Err f) = AreCut at bytes [] (Some f)
