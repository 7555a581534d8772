-- One step of a cut: a blank, a token, or the end.
use Rattle.std.proofs.Common.{◌≡◌, ℕ, ◌+◌, ◌-◌, ◌<◌, ◌≤◌, Bool, true, false, cond, List, [], ◌∷◌, length, take, drop, get_or, Option, Some, None, refl, sym, subst, arith, length-drop}
use Rattle.std.proofs.lemmas.List.{drop_more, drop-drop, drop_all, take_all}
use Rattle.tb_token.specs.tokens.Bytes.{is_blank, is_quote}
use Rattle.tb_token.specs.tokens.Cuts.{BeginsNone, AreCut, at_end, behind_blank, behind_token, at_byte, at_quote, token}
use Rattle.tb_token.specs.tokens.Places.{fault_at, BeginsWith}
use Rattle.tb_token.specs.declared.lexer.token.Token.{Token}
use Rattle.tb_token.specs.declared.lexer.fault.LexFault.{LexFault}
use Rattle.tb_token.specs.declared.lexer.fault.LexFault.TheVariants.{BadByte, OpenString}

-- all that is behind a place
pub rest-is : (text : List ℕ) (at : ℕ) → take (length text - at) (drop at text) ≡ drop at text
rest-is text at = take_all (length text - at) (drop at text) (omega (arith, length-drop at text))

module _ (text : List ℕ) (at : ℕ) (ts : List Token) (f : Option LexFault) where
  pub blank-cut : at < length text → is_blank (get_or text at 0) ≡ true → AreCut (at + 1) (drop (at + 1) text) ts f → AreCut at (drop at text) ts f
  blank-cut within blank d = rw (drop_more text at 0 within) (behind_blank blank d)

  pub token-within : (t : Token) → BeginsWith at (drop at text) t → t.to ≤ length text
  token-within t begins =
      let some = begins.some in
      let from = begins.from in
      let size = begins.longest.within in
      omega (arith, length-drop at text)

  pub token-cut : (t : Token) → BeginsWith at (drop at text) t → AreCut t.to (drop t.to text) ts f → AreCut at (drop at text) (t ∷ ts) f
  token-cut t begins d =
      let some = begins.some in
      let from = begins.from in
      let to : at + (t.to - at) ≡ t.to = omega arith in
      let same : t ≡ token t.kind at (at + (t.to - at)) = rw (to, ← from) refl in
      let rest : AreCut (at + (t.to - at)) (drop (t.to - at) (drop at text)) ts f = rw (drop-drop (t.to - at) at text, to) d in
      subst (λ x. AreCut at (drop at text) (x ∷ ts) f) (sym same) (behind_token t.kind (t.to - at) begins.longest rest)

fault-by : (b at : ℕ) (bs : List ℕ) (quote : Bool) → is_quote b ≡ quote → is_blank b ≡ false → BeginsNone (b ∷ bs) → AreCut at (b ∷ bs) [] (Some (cond quote (OpenString at) (BadByte at)))
fault-by b at bs true e blank none = at_quote e none
fault-by b at bs false e blank none = at_byte blank e none

pub fault-cut : (text : List ℕ) (at : ℕ) → at < length text → is_blank (get_or text at 0) ≡ false → BeginsNone (drop at text)
    → AreCut at (drop at text) [] (Some (fault_at (get_or text at 0) at))
fault-cut text at within blank none =
    let b = get_or text at 0 in
    let more = drop_more text at 0 within in
    rw more (fault-by b at (drop (at + 1) text) (is_quote b) refl blank (rw more at none))

pub end-cut : (text : List ℕ) (at : ℕ) → length text ≤ at → AreCut at (drop at text) [] None
end-cut text at past = rw (drop_all at text past) at_end
