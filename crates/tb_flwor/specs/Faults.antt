-- The faults of a query's text, in the order in which they are tried. The first that holds is
-- answered, and of one kind the first by the number of its token, or by its byte.
use Rattle.std.specs.Prelude.{◌≡◌, ◌≢◌, ℕ, ◌<◌, ◌≤◌, Bool, if◌then◌else◌, nat_lt, List, [], ◌∷◌, length, Option, Some, None, ⊤}
use Rattle.tb_token.specs.grammar.Grammar.{Tok}
use Rattle.tb_token.specs.grammar.Sentences.{AreSentence, IsWrongAt}
use Rattle.tb_token.specs.tokens.Cuts.{IsCut}
use Rattle.tb_token.specs.tokens.Lexemes.{toks_of}
use Rattle.tb_token.specs.grammar.Queries.{rules, query}
use Rattle.tb_token.specs.declared.lexer.token.Token.{Token}
use Rattle.tb_token.specs.declared.lexer.fault.LexFault.{LexFault}
use Rattle.tb_token.specs.declared.lexer.fault.LexFault.TheVariants as lex
use Rattle.tb_pattern.specs.Faults as pattern
use Rattle.tb_flwor.specs.Variables.{is_match, clauses_in, bound, first_unknown, first_repeated}
use Rattle.tb_flwor.specs.Constructors.{results, is_nested, first_wrong_tag, first_repeated_attribute}
use Rattle.tb_flwor.specs.declared.fault.QueryFault.{QueryFault}
use Rattle.tb_flwor.specs.declared.fault.QueryFault.TheVariants.{TooLong, BadByte, OpenString, Syntax, TooNested, TooManyNodes, TooManyVariables, UnknownVariable, RepeatedVariable, LiteralPast, WrongTag, RepeatedAttribute, NoMemory}

-- more than 32 pattern nodes of a `MATCH` query, or constructors, inside each other
abbrev pub is_too_nested : List Tok → Bool
is_too_nested s = if is_match s then pattern.is_too_nested s else is_nested (results s)

-- how many variables are bound
abbrev pub variables_in : List Tok → ℕ
variables_in s = length (bound (clauses_in s))

-- what the query of clauses returns, none for a `MATCH` query
abbrev pub results_in : List Tok → List Tok
results_in s = results (clauses_in s)

-- the fault at a token, or else those behind it in the list
abbrev pub or_else : Option ℕ → (ℕ → QueryFault) → Option QueryFault → Option QueryFault
or_else (Some number) fault others = Some (fault number)
or_else None fault others = others

-- the first of the faults that a constructor may have
abbrev pub fault_in_results : List Tok → Option QueryFault
fault_in_results s =
    or_else (first_wrong_tag s) WrongTag
    (or_else (first_repeated_attribute s) RepeatedAttribute None)

-- the first of the faults that stand at a token
abbrev pub fault_at_token : List Tok → Option QueryFault
fault_at_token s =
    or_else (first_unknown (clauses_in s)) UnknownVariable
    (or_else (first_repeated (clauses_in s)) RepeatedVariable
    (or_else (pattern.first_past s) LiteralPast (fault_in_results (results_in s))))

-- the first fault of tokens that are a query: three limits, and then the others
abbrev pub first_fault : List Tok → Option QueryFault
first_fault s =
    if is_too_nested s then Some TooNested
    else (if nat_lt 64 (pattern.tests_of s) then Some TooManyNodes
    else (if nat_lt 32 (variables_in s) then Some TooManyVariables else fault_at_token s))

-- the tokens are a query
abbrev pub AreQuery : List Tok → Type 0
AreQuery s = AreSentence rules (query ∷ []) s

-- the tokens are a query, and have none of these faults
abbrev pub AreFaultless : List Tok → Type 0
AreFaultless s = AreQuery s × (first_fault s ≡ None)

-- the text isn't too long, and it is cut into these tokens, to its end or up to this fault
abbrev pub AreTokens : List ℕ → List Token → Option LexFault → Type 0
AreTokens text ts f = (length text ≤ 65536) × IsCut text ts f

-- lexing comes to the fault
abbrev pub IsCutShort : List ℕ → LexFault → Type 0
IsCutShort text f = (ts : List Token) × AreTokens text ts (Some f)

-- the text is cut to its end, and this holds of its tokens
abbrev pub Holds : List ℕ → (List Tok → Type 0) → Type 0
Holds text P = (ts : List Token) × (AreTokens text ts None × P (toks_of text ts))

-- the fault is the first of the text; memory may be wanting at any time
abbrev pub HasFault : List ℕ → QueryFault → Type 0
HasFault text TooLong = 65536 < length text
HasFault text (BadByte at) = IsCutShort text (lex.BadByte at)
HasFault text (OpenString at) = IsCutShort text (lex.OpenString at)
HasFault text (Syntax k) = Holds text (λ s. IsWrongAt rules (query ∷ []) s k)
HasFault text NoMemory = ⊤
HasFault text f = Holds text (λ s. AreQuery s × (first_fault s ≡ Some f))

-- the fault is the first of the text; want of memory is no fault of a text
abbrev pub IsRefused : List ℕ → QueryFault → Type 0
IsRefused text fault = (fault ≢ NoMemory) × HasFault text fault

-- the fault of the text, none where it is a query without one
abbrev pub IsFaultOf : List ℕ → Option QueryFault → Type 0
IsFaultOf text None = Holds text AreFaultless
IsFaultOf text (Some fault) = IsRefused text fault
