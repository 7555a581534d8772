-- The faults of a `MATCH` query, in the order in which they are tried.
use Rattle.std.specs.Prelude.{◌≡◌, ℕ, ◌+◌, ◌<◌, ◌≤◌, Bool, true, false, ◌&&◌, ◌==◌}
use Rattle.std.specs.Prelude.{if◌then◌else◌, List, [], ◌∷◌, codes, ℤ, Option, Some, None, ⊤}
use Rattle.std.specs.Option.{option_and_then}
use Rattle.tb_token.specs.grammar.Grammar.{Tok, has}
use Rattle.tb_token.specs.grammar.Sentences.{IsWrongAt}
use Rattle.tb_number.specs.Range.{within_range}
use Rattle.tb_number.specs.Reading.{integer_of}
use Rattle.tb_token.specs.grammar.Patterns.{match_query}
use Rattle.tb_token.specs.grammar.Queries.{rules}
use Rattle.tb_token.specs.tokens.TerminalNames.{is_sign, terminals_of}
use Rattle.tb_token.specs.tokens.TerminalNames as terminals
use Rattle.tb_token.specs.tokens.Nesting as nesting
use Rattle.tb_pattern.specs.Syntax.{AreMatch}
use Rattle.tb_pattern.specs.declared.fault.PatternFault.{PatternFault}
use Rattle.tb_pattern.specs.declared.fault.PatternFault.TheVariants.{Syntax, TooNested, TooManyNodes, LiteralPast, NoMemory}

-- how many tests are written: each has an axis before it, and in a pattern a mark between
abbrev pub tests_in : List ℕ → ℕ
tests_in [] = 0
tests_in (x ∷ xs) = if has terminals.AXES x then 1 + tests_in xs else tests_in xs

-- digits behind their sign
abbrev pub with_sign : Bool → List ℕ → List ℕ
with_sign minus digits = if minus then 45 ∷ digits else digits

-- the number of a literal, or none where it is outside the signed range of 128 bits
abbrev pub literal_in : Bool → List ℕ → Option ℤ
literal_in minus digits = option_and_then within_range (integer_of (with_sign minus digits))

-- there is none
abbrev pub is_none : Option ℤ → Bool
is_none None = true
is_none (Some n) = false

-- the token is a number outside the range
abbrev pub is_past : Bool → ℕ → List ℕ → Bool
is_past minus x bytes = x == terminals.NUMBER && is_none (literal_in minus bytes)

-- The first number token whose number, with its sign, is outside the range. Numbers stand in
-- literals alone, so a `-` directly before one is its sign.
abbrev pub past_behind : Bool → List Tok → Option ℕ
past_behind minus [] = None
past_behind minus (t ∷ s) =
    if is_past minus t.terminal t.bytes then Some t.number
    else past_behind (is_sign (codes "-") t.terminal) s

-- The same of tokens, by their terminals.

-- Somewhere more than 32 brackets are open. In a query these are pattern nodes inside each other
-- (`nested-levels` of proofs/NestLaws).
abbrev pub is_too_nested : List Tok → Bool
is_too_nested s = nesting.is_too_nested (terminals.OPEN ∷ []) (terminals.CLOSE ∷ []) s

abbrev pub tests_of : List Tok → ℕ
tests_of s = tests_in (terminals_of s)

abbrev pub first_past : List Tok → Option ℕ
first_past s = past_behind false s

-- the first fault of the tokens; memory may be wanting at any time
abbrev pub HasFault : List Tok → PatternFault → Type 0
HasFault s (Syntax k) = IsWrongAt rules (match_query ∷ []) s k
HasFault s TooNested = AreMatch s × (is_too_nested s ≡ true)
HasFault s TooManyNodes = AreMatch s × (is_too_nested s ≡ false) × (64 < tests_of s)
HasFault s (LiteralPast k) =
    AreMatch s × (is_too_nested s ≡ false) × (tests_of s ≤ 64) × (first_past s ≡ Some k)
HasFault s NoMemory = ⊤

-- the tokens are a query and have none of these faults
pub record HasNoFault (s : List Tok) : Type 0 where
  pub is : AreMatch s
  pub nested : is_too_nested s ≡ false
  pub few : tests_of s ≤ 64
  pub numbers : first_past s ≡ None
