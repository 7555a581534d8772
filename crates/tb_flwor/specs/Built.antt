-- Which trees the values that the program builds stand for, part by part.
use Rattle.std.specs.Prelude.{◌≡◌, ℕ, Bool, false, List, [], ◌∷◌, ◌++◌, Option, map, codes}
use Rattle.tb_token.specs.grammar.Grammar.{Tok, Expression, one, both, either, many, row}
use Rattle.tb_token.specs.grammar.Sentences.{Tree, pair, first}
use Rattle.tb_token.specs.tokens.Lexemes.{terminal_of}
use Rattle.tb_token.specs.declared.lexer.token.Kind.TheVariants.{Word}
use Rattle.tb_token.specs.grammar.Terminals.{keyword, sign, name}
use Rattle.tb_token.specs.grammar.Queries.{clause, query}
use Rattle.tb_token.specs.grammar.Results as results
use Rattle.tb_pattern.specs.Value.{is_there, bytes_in}
use Rattle.tb_pattern.specs.Building.{Come, Builds}
use Rattle.tb_query.specs.Parts.{PlainParts, element, plain_parts, before, part_of, cons_of, back_of}
use Rattle.tb_query.specs.declared.back.AttrPart.{AttrPart}
use Rattle.tb_query.specs.declared.back.Back.{Back}
use Rattle.tb_query.specs.declared.back.Cons as cons
use Rattle.tb_query.specs.declared.back.Content.{Content}
use Rattle.tb_query.specs.declared.back.Part as part
use Rattle.tb_query.specs.declared.clause.Clause.{Clause}
use Rattle.tb_query.specs.declared.clause.GroupBy.{GroupBy}
use Rattle.tb_query.specs.declared.clause.Key.{Key}
use Rattle.tb_query.specs.declared.operand.Comparison.{Comparison}
use Rattle.tb_query.specs.declared.operand.Operand.{Operand}
use Rattle.tb_query.specs.declared.operand.Right.{Right}
use Rattle.tb_query.specs.declared.path.Path.{Path}
use Rattle.tb_query.specs.declared.path.Start.{Start}
use Rattle.tb_query.specs.declared.path.Step.{Step}
use Rattle.tb_query.specs.declared.query.Query.{Query}
use Rattle.tb_flwor.specs.Value as value
use Rattle.tb_flwor.specs.Value.{BoundNames}
use Rattle.tb_flwor.specs.Results.{attrs_of, content_of, braced_of, cons_behind, part_from, parts_in, back_in}
use Rattle.tb_flwor.specs.Asked.{AskFor}

-- the tree is that of this value, whatever comes behind it
abbrev pub Gives : {A : Type 0} → (Tree → List A → List A) → A → Tree → Type 0
Gives {A} from is v = (behind : List A) → from v behind ≡ is ∷ behind

-- the tree is that of these values
abbrev pub GivesAll : {A : Type 0} → (Tree → List A → List A) → List A → Tree → Type 0
GivesAll {A} from are v = (behind : List A) → from v behind ≡ are ++ behind

-- Paths.

abbrev pub IsDocument : List ℕ → Tree → Type 0
IsDocument is v = value.document_in v ≡ is

abbrev pub AreSteps : List Step → Tree → Type 0
AreSteps are v = value.steps_of v ≡ are

-- { step }
abbrev pub AreMore : List Step → Tree → Type 0
AreMore are v = value.more_steps v ≡ are

-- whatever steps behind it
abbrev pub IsStart : BoundNames → Start → Tree → Type 0
IsStart names is v =
    (w : Tree) → value.longpath_of names (pair v w) ≡ record { start = is; steps = value.steps_of w }

abbrev pub IsPath : BoundNames → Path → Tree → Type 0
IsPath names is v = value.path_of names v ≡ is

abbrev pub IsLongpath : BoundNames → Path → Tree → Type 0
IsLongpath names is v = value.longpath_of names v ≡ is

-- Operands.

abbrev pub IsOperand : BoundNames → Operand → Tree → Type 0
IsOperand names is v = value.operand_of names v ≡ is

abbrev pub IsBraced : BoundNames → Content → Tree → Type 0
IsBraced names is v = braced_of names v ≡ is

abbrev pub IsContent : BoundNames → Content → Tree → Type 0
IsContent names is v = content_of names v ≡ is

abbrev pub IsRight : BoundNames → Right → Tree → Type 0
IsRight names is v = value.right_of names v ≡ is

-- Clauses, conditions, groups, keys.

-- ALLOWING EMPTY
abbrev pub allowing : Expression
allowing = both (keyword (codes "ALLOWING")) (keyword (codes "EMPTY"))

-- whether it is there
abbrev pub IsAllowed : Bool → Tree → Type 0
IsAllowed is v = is_there v ≡ is

-- bind { "," bind }, whatever the FOR before it
abbrev pub AreBinds : BoundNames → List Clause → Tree → Type 0
AreBinds names are v =
    (w : Tree) → GivesAll (λ x. value.clause_from names (first (pair w x))) are v

-- { clause }, behind these
abbrev pub AreMoreClauses : BoundNames → List Clause → List Clause → Tree → Type 0
AreMoreClauses names before are v = before ++ value.more_clauses names v ≡ are

-- clause { clause }, which are two parts of a query
pub record BuildsClauses (names : BoundNames) (are : List Clause) (s left : List Tok) : Type 0 where
  pub mid : List Tok
  pub first_are : List Clause
  pub one : Builds clause (GivesAll (value.clause_from names) first_are) s mid
  pub others : Builds (many clause) (AreMoreClauses names first_are are) mid left

abbrev pub AreConds : BoundNames → List Comparison → Tree → Type 0
AreConds names are v = value.conds_of names v ≡ are

abbrev pub IsGroup : BoundNames → Option GroupBy → Tree → Type 0
IsGroup names is v = value.group_of names v ≡ is

-- ASCENDING | DESCENDING
abbrev pub direction : Expression
direction = one (map (terminal_of Word) (codes "ASCENDING" ∷ codes "DESCENDING" ∷ []))

-- whether the order is turned round
abbrev pub IsTurned : Bool → Tree → Type 0
IsTurned is v = value.is_keyword (codes "DESCENDING") v ≡ is

abbrev pub AreKeys : BoundNames → List Key → Tree → Type 0
AreKeys names are v = value.keys_of names v ≡ are

-- Constructors.

-- "/>" | ">" { piece } "</" NAME ">"
abbrev pub inside : Expression
inside =
    either (sign (codes "/>"))
    (row (sign (codes ">")) (many results.piece ∷ sign (codes "</") ∷ name ∷ sign (codes ">") ∷ []))

-- whatever the name and the attributes before it
abbrev pub AreInside : BoundNames → List part.Part → Tree → Type 0
AreInside names are v =
    (n a : Tree)
    → element (bytes_in n) (attrs_of names a) (plain_parts (map part_of are))
    ≡ cons_behind names (pair n (pair a v))

abbrev pub IsCons : BoundNames → cons.Cons → Tree → Type 0
IsCons names is v = cons_of is ≡ cons_behind names v

-- whatever parts behind it
abbrev pub IsPart : BoundNames → part.Part → Tree → Type 0
IsPart names is v = (behind : PlainParts) → part_from names v behind ≡ before (part_of is) behind

-- { piece }
abbrev pub AreParts : BoundNames → List part.Part → Tree → Type 0
AreParts names are v = parts_in names v ≡ plain_parts (map part_of are)

-- { attr }
abbrev pub AreAttrs : BoundNames → List AttrPart → Tree → Type 0
AreAttrs names are v = attrs_of names v ≡ are

abbrev pub IsBack : BoundNames → Back → Tree → Type 0
IsBack names is v = back_of is ≡ back_in names v

-- the tokens ask for the query, where they have no fault
abbrev pub Asks : List Tok → Query → Type 0
Asks s q = Come false (query ∷ []) s → AskFor s q
