-- The text of a query has one first fault, or none.
use Rattle.std.proofs.Common.{◌≡◌, ℕ, ◌<◌, ◌⊎◌, inl, inr, Option, Some, None, List, [], ◌∷◌, length, refl, sym, ap, ◌∙◌, subst, arith}
use Rattle.tb_token.specs.grammar.Grammar.{Tok}
use Rattle.tb_token.specs.grammar.Sentences.{IsWrongAt}
use Rattle.tb_token.proofs.grammar.TreeLaws.{wrong-once}
use Rattle.tb_token.specs.tokens.Lexemes.{toks_of}
use Rattle.tb_token.specs.grammar.Queries.{rules, query}
use Rattle.tb_token.specs.declared.lexer.token.Token.{Token}
use Rattle.tb_token.specs.declared.lexer.fault.LexFault.{LexFault}
use Rattle.tb_token.specs.declared.lexer.fault.LexFault.TheVariants as lex
use Rattle.tb_token.proofs.lexing.CutLaws.{one_cut}
use Rattle.tb_flwor.specs.Faults.{first_fault, AreQuery, AreTokens}
use Rattle.tb_flwor.specs.declared.fault.QueryFault.{QueryFault}
use Rattle.tb_flwor.specs.declared.fault.QueryFault.TheVariants.{TooLong, BadByte, OpenString, Syntax, TooNested, TooManyNodes, TooManyVariables, UnknownVariable, RepeatedVariable, LiteralPast, WrongTag, RepeatedAttribute, NoMemory}
use Rattle.tb_flwor.specs.Faults.{IsRefused, IsFaultOf}

-- the fault that lexing comes to
abbrev lexed : LexFault → QueryFault
lexed (lex.BadByte at) = BadByte at
lexed (lex.OpenString at) = OpenString at
lexed lex.NoMemory = NoMemory

-- what tokens come to that end with the text, or at a fault
abbrev Come : List Tok → Option LexFault → Option QueryFault → Type 0
Come s (Some f) r = r ≡ Some (lexed f)
Come s None r = ((k : ℕ) × IsWrongAt rules (query ∷ []) s k × (r ≡ Some (Syntax k))) ⊎ (AreQuery s × (first_fault s ≡ r))

-- what a text comes to: it is too long, or its tokens come to that
abbrev Comes : List ℕ → Option QueryFault → Type 0
Comes text r = ((65536 < length text) × (r ≡ Some TooLong)) ⊎ ((ts : List Token) × (f : Option LexFault) × AreTokens text ts f × Come (toks_of text ts) f r)

comes : (text : List ℕ) (r : Option QueryFault) → IsFaultOf text r → Comes text r
comes text None is = inr (is.0, None, is.1.0, inr is.1.1)
comes text (Some TooLong) is = inl (is.1, refl)
comes text (Some (BadByte at)) is = inr (is.1.0, Some (lex.BadByte at), is.1.1, refl)
comes text (Some (OpenString at)) is = inr (is.1.0, Some (lex.OpenString at), is.1.1, refl)
comes text (Some (Syntax k)) is = inr (is.1.0, None, is.1.1.0, inl (k, is.1.1.1, refl))
comes text (Some TooNested) is = inr (is.1.0, None, is.1.1.0, inr is.1.1.1)
comes text (Some TooManyNodes) is = inr (is.1.0, None, is.1.1.0, inr is.1.1.1)
comes text (Some TooManyVariables) is = inr (is.1.0, None, is.1.1.0, inr is.1.1.1)
comes text (Some (UnknownVariable k)) is = inr (is.1.0, None, is.1.1.0, inr is.1.1.1)
comes text (Some (RepeatedVariable k)) is = inr (is.1.0, None, is.1.1.0, inr is.1.1.1)
comes text (Some (LiteralPast k)) is = inr (is.1.0, None, is.1.1.0, inr is.1.1.1)
comes text (Some (WrongTag k)) is = inr (is.1.0, None, is.1.1.0, inr is.1.1.1)
comes text (Some (RepeatedAttribute k)) is = inr (is.1.0, None, is.1.1.0, inr is.1.1.1)
comes text (Some NoMemory) is = absurd (is.0 refl)

come-once : (s : List Tok) (f : Option LexFault) (r t : Option QueryFault) → Come s f r → Come s f t → r ≡ t
come-once s (Some f) r t a b = a ∙ sym b
come-once s None r t (inl a) (inl b) = a.2 ∙ ap (λ k. Some (Syntax k)) (wrong-once rules (query ∷ []) s a.0 b.0 a.1 b.1) ∙ sym b.2
come-once s None r t (inl a) (inr b) = absurd (a.1.none b.0)
come-once s None r t (inr a) (inl b) = absurd (b.1.none a.0)
come-once s None r t (inr a) (inr b) = sym a.1 ∙ b.1

comes-once : (text : List ℕ) (r t : Option QueryFault) → Comes text r → Comes text t → r ≡ t
comes-once text r t (inl a) (inl b) = a.1 ∙ sym b.1
comes-once text r t (inl a) (inr b) = absurd (omega (arith, a.0, b.2.0))
comes-once text r t (inr a) (inl b) = absurd (omega (arith, b.0, a.2.0))
comes-once text r t (inr a) (inr b) =
    let same = one_cut text a.0 b.0 a.1 b.1 a.2.1 b.2.1 in
    let here = subst (λ ts. Come (toks_of text ts) a.1 r) same.0 a.3 in
    come-once (toks_of text b.0) b.1 r t (subst (λ f. Come (toks_of text b.0) f r) same.1 here) b.3

-- A text is cut in one way, its tokens are wrong at one place or at none, and the faults behind have
-- an order: so it has one fault, or none.
pub fault-once : (text : List ℕ) (r t : Option QueryFault) → IsFaultOf text r → IsFaultOf text t → r ≡ t
fault-once text r t one two = comes-once text r t (comes text r one) (comes text t two)

pub refused-once : (text : List ℕ) (f g : QueryFault) → IsRefused text f → IsRefused text g → f ≡ g
refused-once text f g one two =
    let both = fault-once text (Some f) (Some g) one two in
    cc

-- a text without a fault is not refused
pub never-both : (text : List ℕ) (f : QueryFault) → IsFaultOf text None → IsRefused text f → ⊥
never-both text f none is =
    let both : ◌≡◌ {A = Option QueryFault} None (Some f) = fault-once text None (Some f) none is in
    absurd cc
