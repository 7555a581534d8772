-- A text cut into its longest tokens, up to its end or to the first place at which none begins.
use Rattle.std.specs.Prelude.{◌≡◌, ℕ, ◌+◌, ◌≤◌, true, false, IsTrue, List, [], ◌∷◌, length, take, drop, Option, Some, None}
use Rattle.tb_token.specs.tokens.Bytes.{is_blank, is_quote}
use Rattle.tb_token.specs.tokens.Kinds.{is_token}
use Rattle.tb_token.specs.declared.lexer.token.Kind.{Kind}
use Rattle.tb_token.specs.declared.lexer.token.Token.{Token}
use Rattle.tb_token.specs.declared.lexer.fault.LexFault.{LexFault}
use Rattle.tb_token.specs.declared.lexer.fault.LexFault.TheVariants.{BadByte, OpenString}

-- the first bytes, so many of them, are a token of this kind, and no longer prefix is any token
pub record IsLongest (bytes : List ℕ) (kind : Kind) (size : ℕ) : Type 0 where
  pub within : size ≤ length bytes
  pub is : IsTrue (is_token kind (take size bytes))
  pub most : (k : Kind) (n : ℕ) → n ≤ length bytes → IsTrue (is_token k (take n bytes)) → n ≤ size

-- no prefix of the bytes is a token
abbrev pub BeginsNone : List ℕ → Type 0
BeginsNone bytes = (k : Kind) (n : ℕ) → n ≤ length bytes → ¬ IsTrue (is_token k (take n bytes))

abbrev pub token : Kind → ℕ → ℕ → Token
token kind from to = record { kind = kind; from = from; to = to }

-- The bytes from this place on are cut into these tokens. Blanks between them are dropped. With no
-- fault the tokens go on to the end; else they stop where no token begins, which is `OpenString` at
-- a quote and `BadByte` at any other byte.
pub data AreCut : ℕ → List ℕ → List Token → Option LexFault → Type 0 where
  at_end : {at : ℕ} → AreCut at [] [] None
  behind_blank : {at b : ℕ} {bs : List ℕ} {ts : List Token} {f : Option LexFault}
      → is_blank b ≡ true → AreCut (at + 1) bs ts f
      → AreCut at (b ∷ bs) ts f
  behind_token : {at : ℕ} {bytes : List ℕ} {ts : List Token} {f : Option LexFault} (kind : Kind)
      (size : ℕ) → IsLongest bytes kind size → AreCut (at + size) (drop size bytes) ts f
      → AreCut at bytes (token kind at (at + size) ∷ ts) f
  at_byte : {at b : ℕ} {bs : List ℕ}
      → is_blank b ≡ false → is_quote b ≡ false → BeginsNone (b ∷ bs)
      → AreCut at (b ∷ bs) [] (Some (BadByte at))
  at_quote : {at b : ℕ} {bs : List ℕ} → is_quote b ≡ true → BeginsNone (b ∷ bs)
      → AreCut at (b ∷ bs) [] (Some (OpenString at))

-- a text cut from its first byte on
abbrev pub IsCut : List ℕ → List Token → Option LexFault → Type 0
IsCut text ts f = AreCut 0 text ts f
