-- Tokens as the grammar sees them, one after the other.
use Rattle.std.proofs.Common.{◌≡◌, ℕ, suc, ◌+◌, ◌<◌, ◌≤◌, List, [], ◌∷◌, ◌++◌, length, drop, get_or, refl, sym, ap, ◌∙◌, arith, append_assoc, append-nil}
use Rattle.std.proofs.lemmas.List.{drop_more, drop_all}
use Rattle.tb_token.specs.grammar.Grammar.{Tok}
use Rattle.tb_token.specs.tokens.Calls.{Rise}
use Rattle.tb_token.specs.tokens.Lexemes.{tok_of, toks_from, toks_of}
use Rattle.tb_token.specs.declared.lexer.token.Token.{Token}
use Rattle.tb_token.specs.declared.lexer.token.Kind.TheVariants.{Name}

-- tokens that rise take a byte each
pub rise-few : (low high : ℕ) (ts : List Token) → Rise low high ts → low + length ts ≤ high
rise-few low high [] rise = omega arith
rise-few low high (t ∷ ts) rise =
    let from = rise.0 in
    let some = rise.1 in
    let rest = rise-few t.to high ts rise.2 in
    omega arith

pub toks-length : (n : ℕ) (text : List ℕ) (ts : List Token) → length (toks_from n text ts) ≡ length ts
toks-length n text [] = refl
toks-length n text (t ∷ ts) = ap (λ k. suc k) (toks-length (n + 1) text ts)

-- the tokens so far, and those that are left, are all tokens
pub record Lexed (text : List ℕ) (ts : List Token) (at : ℕ) (found : List Tok) : Type 0 where
  pub few : length ts ≤ 65536
  pub low : ℕ
  pub rise : Rise low (length text) (drop at ts)
  pub same : found ++ toks_from (at + 1) text (drop at ts) ≡ toks_of text ts

pub lexed-start : (text : List ℕ) (ts : List Token) → length text ≤ 65536 → Rise 0 (length text) ts → Lexed text ts 0 []
lexed-start text ts short rise = record {
  few = let size = rise-few 0 (length text) ts rise in omega arith;
  low = 0;
  rise = rise;
  same = refl;
}

abbrev pub no_token : Token
no_token = record { kind = Name; from = 0; to = 0 }

module _ (text : List ℕ) (ts : List Token) (at : ℕ) (found : List Tok) (is : Lexed text ts at found) where
  module _ (within : at < length ts) where
    abbrev t : Token
    t = get_or ts at no_token

    here : drop at ts ≡ t ∷ drop (at + 1) ts
    here = drop_more ts at no_token within

    rise-here : Rise is.low (length text) (t ∷ drop (at + 1) ts)
    rise-here = rw here at is.rise

    pub token-from : t.from ≤ t.to
    token-from = let some = rise-here.1 in omega arith

    pub token-to : t.to ≤ length text
    token-to = let size = rise-few t.to (length text) (drop (at + 1) ts) rise-here.2 in omega arith

    pub lexed-next : (x : Tok) → x ≡ tok_of text t (at + 1) → Lexed text ts (at + 1) (found ++ x ∷ [])
    lexed-next x e = record {
      few = is.few;
      low = t.to;
      rise = rise-here.2;
      same = let before : found ++ toks_from (at + 1) text (t ∷ drop (at + 1) ts) ≡ toks_of text ts = rw here at is.same in
          rw (append_assoc, e) before;
    }

  pub lexed-end : length ts ≤ at → found ≡ toks_of text ts
  lexed-end past =
      let same : found ++ [] ≡ toks_of text ts = rw (drop_all at ts past) at is.same in
      sym (append-nil found) ∙ same
