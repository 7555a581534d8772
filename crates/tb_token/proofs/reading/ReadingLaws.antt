-- The reading of the tokens that are left is that of them all, and ends where they are wrong.
use Rattle.std.proofs.Common.{◌≡◌, ℕ, ◌+◌, ◌-◌, ◌<◌, ◌≤◌, true, false, cond, List, [], ◌∷◌, length, drop, get_or, Option, Some, None, sym, ap, ◌∙◌, arith, length-drop}
use Rattle.std.proofs.lemmas.List.{drop_more, drop_all}
use Rattle.tb_token.specs.grammar.Grammar.{Tok, Expression, Rules}
use Rattle.tb_token.specs.grammar.Reading.{read, after, may_end}
use Rattle.tb_token.proofs.grammar.ReadLaws.{read-sentence, read-wrong}
use mathlib.Core.Path.{fun_ext}
use Rattle.tb_token.specs.reading.Calls.{IsFirstWrong, IsRead}
use Rattle.tb_token.specs.reading.View.{expression_of, rules_of}
use Rattle.tb_token.specs.declared.reader.expression.Grammar.{Grammar}

module _ (rules : Rules) (p : Expression) (s : List Tok) where
  -- before the token of a place these expressions are still to come
  abbrev pub Going : ℕ → List Expression → Type 0
  Going at ps = read rules (drop at s) (Some ps) ≡ read rules s (Some (p ∷ []))

  wrong-at : (left k : ℕ) → read rules s (Some (p ∷ [])) ≡ Some left → left ≤ length s → length s + 1 ≡ k + left → IsFirstWrong rules p s (Some k)
  wrong-at left k e few size follow good ll1 =
      let same : length s - left + 1 ≡ k = omega arith in
      rw same at (read-wrong rules follow good s (p ∷ []) left ll1 e)

  module _ (at : ℕ) (ps : List Expression) (going : Going at ps) (within : at < length s) (t : Tok) (is : t ≡ get_or s at t) (x : ℕ) (terminal : x ≡ t.terminal) where
    here : drop at s ≡ t ∷ drop (at + 1) s
    here = drop_more s at t within ∙ ap (λ u. u ∷ drop (at + 1) s) (sym is)

    read-here : read rules (drop (at + 1) s) (after rules ps x) ≡ read rules s (Some (p ∷ []))
    read-here = ap (λ y. read rules (drop (at + 1) s) (after rules ps y)) terminal ∙ ap (λ u. read rules u (Some ps)) (sym here) ∙ going

    pub going-next : (qs : List Expression) → after rules ps x ≡ Some qs → Going (at + 1) qs
    going-next qs e = ap (λ o. read rules (drop (at + 1) s) o) (sym e) ∙ read-here

    pub wrong-here : after rules ps x ≡ None → IsFirstWrong rules p s (Some (at + 1))
    wrong-here e =
        let size = ap length here in
        let found : read rules s (Some (p ∷ [])) ≡ Some (1 + length (drop (at + 1) s)) = sym read-here ∙ ap (λ o. read rules (drop (at + 1) s) o) e in
        wrong-at (1 + length (drop (at + 1) s)) (at + 1) found (omega (arith, length-drop at s)) (omega (arith, length-drop at s))

  module _ (at : ℕ) (ps : List Expression) (going : Going at ps) (past : length s ≤ at) where
    read-end : read rules [] (Some ps) ≡ read rules s (Some (p ∷ []))
    read-end = rw (drop_all at s past) at going

    pub sentence-end : may_end ps ≡ true → IsFirstWrong rules p s None
    sentence-end e follow good ll1 = read-sentence rules follow good s (p ∷ []) (sym read-end ∙ ap (λ b. cond b None (Some 0)) e)

    pub wrong-end : may_end ps ≡ false → IsFirstWrong rules p s (Some (length s + 1))
    wrong-end e = wrong-at 0 (length s + 1) (sym read-end ∙ ap (λ b. cond b None (Some 0)) e) (omega arith) (omega arith)

-- whatever rules and expression the value is
pub as-said : (g : Grammar) (s : List Tok) (wrong : Option ℕ) → IsFirstWrong (rules_of g) (expression_of g.start.now) s wrong → IsRead g s wrong
as-said g s wrong is rules p says = rw (fun_ext says.each_rule, says.start_is) at is
