-- Which faults the tests over tokens give, and what is so where they give none.
use Rattle.std.proofs.Common.{◌≡◌, ℕ, List, Option, Some, None, refl, sym}
use Rattle.std.specs.Prelude.{⊤, nat_lt, Err}
use Rattle.std.proofs.lemmas.Option.{none-some, same_Some}
use Rattle.tb_tree.proofs.lists.Options.{some-none, cond-none}
use Rattle.tb_token.specs.grammar.Grammar.{Tok}
use Rattle.tb_token.specs.tokens.Lexemes.{toks_of}
use Rattle.tb_token.specs.declared.lexer.token.Token.{Token}
use Rattle.tb_pattern.specs.Faults as pattern
use Rattle.tb_flwor.specs.Variables.{clauses_in, first_unknown, first_repeated}
use Rattle.tb_flwor.specs.Constructors.{first_wrong_tag, first_repeated_attribute}
use Rattle.tb_flwor.specs.Faults.{is_too_nested, variables_in, results_in, or_else, fault_at_token, first_fault, AreQuery, AreTokens, HasFault}
use Rattle.tb_flwor.specs.Calls.{Checks}
use Rattle.tb_flwor.specs.declared.fault.QueryFault.{QueryFault}
use Rattle.tb_flwor.specs.declared.fault.QueryFault.TheVariants.{TooLong, BadByte, OpenString, Syntax, TooNested, TooManyNodes, TooManyVariables, UnknownVariable, RepeatedVariable, LiteralPast, WrongTag, RepeatedAttribute, NoMemory}

-- the fault stands at a token behind syntax
abbrev IsAtToken : QueryFault → Type 0
IsAtToken (UnknownVariable n) = ⊤
IsAtToken (RepeatedVariable n) = ⊤
IsAtToken (LiteralPast n) = ⊤
IsAtToken (WrongTag n) = ⊤
IsAtToken (RepeatedAttribute n) = ⊤
IsAtToken _ = ⊥

else-token : (o : Option ℕ) (fault : ℕ → QueryFault) (rest : Option QueryFault) (f : QueryFault) → ((n : ℕ) → IsAtToken (fault n)) → (rest ≡ Some f → IsAtToken f)
    → or_else o fault rest ≡ Some f → IsAtToken f
else-token (Some n) fault rest f is others e = let same = same_Some (fault n) f e in rw (sym same) (is n)
else-token None fault rest f is others e = others e

at-token : (s : List Tok) (f : QueryFault) → fault_at_token s ≡ Some f → IsAtToken f
at-token s f e =
    else-token (first_unknown (clauses_in s)) UnknownVariable _ f (λ n. tt)
    (else-token (first_repeated (clauses_in s)) RepeatedVariable _ f (λ n. tt)
    (else-token (pattern.first_past s) LiteralPast _ f (λ n. tt)
    (else-token (first_wrong_tag (results_in s)) WrongTag _ f (λ n. tt)
    (else-token (first_repeated_attribute (results_in s)) RepeatedAttribute None f (λ n. tt) (λ g. absurd (none-some f g)))))) e

-- so it is told as it is
pub token-checks : (s : List Tok) (f : QueryFault) → AreQuery s → first_fault s ≡ Some f → fault_at_token s ≡ Some f → Checks s (Err f)
token-checks s f is first e = by f (at-token s f e) first
  where
    by : (f : QueryFault) → IsAtToken f → first_fault s ≡ Some f → Checks s (Err f)
    by (UnknownVariable n) at e = (is, e)
    by (RepeatedVariable n) at e = (is, e)
    by (LiteralPast n) at e = (is, e)
    by (WrongTag n) at e = (is, e)
    by (RepeatedAttribute n) at e = (is, e)
    by TooLong at e = absurd at
    by (BadByte n) at e = absurd at
    by (OpenString n) at e = absurd at
    by (Syntax n) at e = absurd at
    by TooNested at e = absurd at
    by TooManyNodes at e = absurd at
    by TooManyVariables at e = absurd at
    by NoMemory at e = absurd at

-- the first fault of tokens is that of their text
pub text-fault : (text : List ℕ) (ts : List Token) (f : QueryFault) → AreTokens text ts None → Checks (toks_of text ts) (Err f) → HasFault text f
text-fault text ts TooLong are c = absurd c
text-fault text ts (BadByte n) are c = absurd c
text-fault text ts (OpenString n) are c = absurd c
text-fault text ts (Syntax k) are c = (ts, (are, c))
text-fault text ts TooNested are c = (ts, (are, c))
text-fault text ts TooManyNodes are c = (ts, (are, c))
text-fault text ts TooManyVariables are c = (ts, (are, c))
text-fault text ts (UnknownVariable n) are c = (ts, (are, c))
text-fault text ts (RepeatedVariable n) are c = (ts, (are, c))
text-fault text ts (LiteralPast n) are c = (ts, (are, c))
text-fault text ts (WrongTag n) are c = (ts, (are, c))
text-fault text ts (RepeatedAttribute n) are c = (ts, (are, c))
text-fault text ts NoMemory are c = tt

-- Where there is no fault, no token has one.

else-none : (o : Option ℕ) (fault : ℕ → QueryFault) (rest : Option QueryFault) → or_else o fault rest ≡ None → (o ≡ None) × (rest ≡ None)
else-none (Some n) fault rest e = absurd (some-none (fault n) e)
else-none None fault rest e = (refl, e)

pub record HasNone (s : List Tok) : Type 0 where
  pub known : first_unknown (clauses_in s) ≡ None
  pub once : first_repeated (clauses_in s) ≡ None
  pub numbers : pattern.first_past s ≡ None
  pub attributes : first_repeated_attribute (results_in s) ≡ None

pub none-wrong : (s : List Tok) → first_fault s ≡ None → HasNone s
none-wrong s e =
    let few = cond-none (is_too_nested s) TooNested _ e in
    let at = (cond-none (nat_lt 32 (variables_in s)) TooManyVariables _ (cond-none (nat_lt 64 (pattern.tests_of s)) TooManyNodes _ few.1).1).1 in
    let known = else-none (first_unknown (clauses_in s)) UnknownVariable _ at in
    let once = else-none (first_repeated (clauses_in s)) RepeatedVariable _ known.1 in
    let past = else-none (pattern.first_past s) LiteralPast _ once.1 in
    let tags = else-none (first_wrong_tag (results_in s)) WrongTag _ past.1 in
    let attributes = else-none (first_repeated_attribute (results_in s)) RepeatedAttribute None tags.1 in
    record { known = known.0; once = once.0; numbers = past.0; attributes = attributes.0 }
