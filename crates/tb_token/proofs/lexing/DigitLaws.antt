-- The tokens of a cut that have the terminal of a number are digits.
use Rattle.std.proofs.Common.{◌≡◌, ℕ, ◌+◌, ◌-◌, true, List, take, drop, Option, refl, sym, ap, ◌∙◌, arith, drop-drop}
use Rattle.tb_token.specs.tokens.Kinds.{is_token, is_number}
use Rattle.tb_token.specs.tokens.Cuts.{AreCut, at_end, behind_blank, behind_token, at_byte, at_quote, token, IsCut}
use Rattle.tb_token.specs.tokens.Lexemes.{terminal_of, bytes_of, toks_from, toks_of, HaveDigits}
use Rattle.tb_token.specs.declared.lexer.token.Kind.{Kind}
use Rattle.tb_token.specs.declared.lexer.token.Kind.TheVariants.{Name, Word, Variable, Number, Quoted, TextTest, Sign}
use Rattle.tb_token.specs.declared.lexer.token.Token.{Token}
use Rattle.tb_token.specs.declared.lexer.fault.LexFault.{LexFault}
use Rattle.tb_token.specs.tokens.TerminalNames as terminals

-- no other kind has the terminal of a number
number-digits : (k : Kind) (bytes : List ℕ) → is_token k bytes ≡ true → terminal_of k bytes ≡ terminals.NUMBER → is_number bytes ≡ true
number-digits Name bytes is e = absurd (omega (arith, e))
number-digits Word bytes is e = absurd (omega (arith, e))
number-digits Variable bytes is e = absurd (omega (arith, e))
number-digits Number bytes is e = is
number-digits Quoted bytes is e = absurd (omega (arith, e))
number-digits TextTest bytes is e = absurd (omega (arith, e))
number-digits Sign bytes is e = absurd (omega (arith, e))

module _ (text : List ℕ) where
  digits-cut : {at : ℕ} {bytes : List ℕ} {ts : List Token} {f : Option LexFault} (n : ℕ) → AreCut at bytes ts f → bytes ≡ drop at text → HaveDigits (toks_from n text ts)
  digits-cut n at_end e = tt
  digits-cut n (behind_blank {at = at} {b = b} {bs = bs} blank d) e = digits-cut n d (ap (λ s. drop 1 s) e ∙ drop-drop 1 at text)
  digits-cut n (behind_token {at = at} {bytes = bytes} k size l d) e =
      let few : at + size - at ≡ size = omega arith in
      let same : bytes_of text (token k at (at + size)) ≡ take size bytes = rw (few, e) refl in (
        λ terminal. rw (sym same) at (number-digits k (take size bytes) l.is (rw same at terminal)),
        digits-cut (n + 1) d (ap (λ s. drop size s) e ∙ drop-drop size at text),
      )
  digits-cut n (at_byte _ _ _) e = tt
  digits-cut n (at_quote _ _) e = tt

pub digits-of_cut : (text : List ℕ) (ts : List Token) (f : Option LexFault) → IsCut text ts f → HaveDigits (toks_of text ts)
digits-of_cut text ts f d = digits-cut text 1 d refl
