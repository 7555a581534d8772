-- What the calls answer.
use Rattle.std.specs.Prelude.{◌≡◌, ℕ, List, [], ◌∷◌, Option, Some, None, Result, Ok, Err, ⊤}
use Rattle.std.proofs.Common.{Vec, Global}
use Rattle.tb_token.specs.grammar.Grammar.{Tok}
use Rattle.tb_token.specs.grammar.Sentences.{IsWrongAt}
use Rattle.tb_token.specs.declared.lexer.token.Token.{Token}
use Rattle.tb_token.specs.grammar.Queries.{rules, query}
use Rattle.tb_token.specs.reading.Calls as reading
use Rattle.tb_query.specs.declared.query.Query.{Query}
use Rattle.tb_flwor.specs.Asked.{AskFor}
use Rattle.tb_flwor.specs.Faults.{AreQuery, AreFaultless, AreTokens, fault_at_token, first_fault, Holds, HasFault}
use Rattle.tb_flwor.specs.Value.{BoundNames}
use Rattle.tb_flwor.specs.Variables.{bound, clauses_in}
use Rattle.tb_flwor.specs.declared.fault.QueryFault.{QueryFault}
use Rattle.tb_flwor.specs.declared.fault.QueryFault.TheVariants.{TooLong, BadByte, OpenString, Syntax, NoMemory}

-- none where the tokens are a query; else the least number k for which the first k tokens begin no
-- query, or one more than there are
abbrev pub FirstWrong : List Tok → Option ℕ → Type 0
FirstWrong s wrong = reading.FirstWrong rules query s wrong

-- The names that are bound, where the tokens are a query without fault, or their first fault; memory
-- may be wanting at any time.
abbrev pub Checks : List Tok → Result BoundNames QueryFault → Type 0
Checks s (Ok names) = AreFaultless s × (names ≡ bound (clauses_in s))
Checks s (Err TooLong) = ⊥
Checks s (Err (BadByte at)) = ⊥
Checks s (Err (OpenString at)) = ⊥
Checks s (Err (Syntax k)) = IsWrongAt rules (query ∷ []) s k
Checks s (Err NoMemory) = ⊤
Checks s (Err f) = AreQuery s × (first_fault s ≡ Some f)

-- the same up to the limits, behind which the other faults come
abbrev pub ChecksLimits : List Tok → Result BoundNames QueryFault → Type 0
ChecksLimits s (Ok names) =
    AreQuery s × (first_fault s ≡ fault_at_token s) × (names ≡ bound (clauses_in s))
ChecksLimits s (Err f) = Checks s (Err f)

-- the text's tokens, or the fault to which lexing comes
abbrev pub CutsQuery : List ℕ → Result (Vec Token Global) QueryFault → Type 0
CutsQuery text (Ok tokens) = AreTokens text tokens.items None
CutsQuery text (Err f) = HasFault text f

-- the query that the text asks for, where it has no fault, or the first of its faults
abbrev pub Reads : List ℕ → Result Query QueryFault → Type 0
Reads text (Ok q) = Holds text (λ s. AreFaultless s × AskFor s q)
Reads text (Err f) = HasFault text f
