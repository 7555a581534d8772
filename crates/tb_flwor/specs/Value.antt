-- What the tree of a query of clauses stands for, production by production, where these names are
-- bound in it, in order. A tree of another form is that of no query, and what it stands for here is
-- never asked.
use Rattle.std.specs.Prelude.{ℕ, Bool, ◌==◌, if◌then◌else◌, List, [], ◌∷◌, ◌++◌, codes, Option, Some, None}
use Rattle.tb_token.specs.grammar.Sentences.{Tree, nothing, pair, first, second}
use Rattle.tb_token.specs.tokens.Lexemes.{terminal_of, place_in}
use Rattle.tb_token.specs.declared.lexer.token.Kind.TheVariants as kind
use Rattle.tb_number.specs.declared.agg.AggKind.{AggKind}
use Rattle.tb_number.specs.declared.agg.AggKind.TheVariants as agg
use Rattle.tb_pattern.specs.Value.{terminal_in, bytes_in, is_there, inside, axis_of, test_of, op_of, literal_of}
use Rattle.tb_query.specs.declared.path.Path.{Path}
use Rattle.tb_query.specs.declared.path.Start.TheVariants as start
use Rattle.tb_query.specs.declared.path.Step.{Step}
use Rattle.tb_query.specs.declared.operand.Operand.{Operand}
use Rattle.tb_query.specs.declared.operand.Operand.TheVariants as operand
use Rattle.tb_query.specs.declared.operand.Right.{Right}
use Rattle.tb_query.specs.declared.operand.Right.TheVariants as right
use Rattle.tb_query.specs.declared.operand.Comparison.{Comparison}
use Rattle.tb_query.specs.declared.clause.Clause.{Clause}
use Rattle.tb_query.specs.declared.clause.Clause.TheVariants.{For, Let}
use Rattle.tb_query.specs.declared.clause.GroupBy.{GroupBy}
use Rattle.tb_query.specs.declared.clause.Key.{Key}

-- the names that are bound, in order
abbrev pub BoundNames : Type 0
BoundNames = List (List ℕ)

-- the number of a variable: how many bindings stand before the first of its name
abbrev pub var_in : BoundNames → Tree → ℕ
var_in names v = place_in (bytes_in v) names

-- DOCUMENT "(" STRING ")"
abbrev pub document_in : Tree → List ℕ
document_in (pair keyword (pair opening (pair string closing))) = inside (bytes_in string)
document_in _ = []

-- axis test
abbrev pub step_from : Tree → List Step → List Step
step_from (pair a t) behind = record { axis = axis_of a; test = test_of t } ∷ behind
step_from _ behind = behind

-- { step }
abbrev pub more_steps : Tree → List Step
more_steps (pair v rest) = step_from v (more_steps rest)
more_steps _ = []

-- step { step }
abbrev pub steps_of : Tree → List Step
steps_of (pair v rest) = step_from v (more_steps rest)
steps_of _ = []

abbrev pub from_document : Tree → List Step → Path
from_document d steps = record { start = start.Document (document_in d); steps = steps }

abbrev pub from_variable : BoundNames → Tree → List Step → Path
from_variable names v steps = record { start = start.Var (var_in names v); steps = steps }

-- doc step { step } | VARIABLE { step }
abbrev pub path_of : BoundNames → Tree → Path
path_of names (first (pair d steps)) = from_document d (steps_of steps)
path_of names (second (pair v steps)) = from_variable names v (more_steps steps)
path_of names _ = from_document nothing []

-- ( doc | VARIABLE ) step { step }
abbrev pub longpath_of : BoundNames → Tree → Path
longpath_of names (pair (first d) steps) = from_document d (steps_of steps)
longpath_of names (pair (second v) steps) = from_variable names v (steps_of steps)
longpath_of names _ = from_document nothing []

abbrev pub is_keyword : List ℕ → Tree → Bool
is_keyword text v = terminal_in v == terminal_of kind.Word text

-- COUNT | SUM | MIN | MAX
abbrev pub agg_of : Tree → AggKind
agg_of v =
    if is_keyword (codes "SUM") v then agg.Sum
    else (if is_keyword (codes "MIN") v then agg.Min
    else (if is_keyword (codes "MAX") v then agg.Max else agg.Count))

-- path | agg "(" path ")"
abbrev pub operand_of : BoundNames → Tree → Operand
operand_of names (first p) = operand.Nodes (path_of names p)
operand_of names (second (pair a (pair opening (pair p closing)))) =
    operand.Agg (agg_of a) (path_of names p)
operand_of names _ = operand.Nodes (from_document nothing [])

-- VARIABLE [ ALLOWING EMPTY ] IN longpath
abbrev pub bind_from : BoundNames → Tree → List Clause → List Clause
bind_from names (pair v (pair e (pair keyword p))) behind =
    For (var_in names v) (is_there e) (longpath_of names p) ∷ behind
bind_from names _ behind = behind

-- { "," bind }
abbrev pub more_binds : BoundNames → Tree → List Clause
more_binds names (pair (pair comma b) rest) = bind_from names b (more_binds names rest)
more_binds names _ = []

-- FOR bind { "," bind } | LET VARIABLE ":=" longpath
abbrev pub clause_from : BoundNames → Tree → List Clause → List Clause
clause_from names (first (pair keyword (pair b rest))) behind =
    bind_from names b (more_binds names rest) ++ behind
clause_from names (second (pair keyword (pair v (pair sign p)))) behind =
    Let (var_in names v) (longpath_of names p) ∷ behind
clause_from names _ behind = behind

-- { clause }
abbrev pub more_clauses : BoundNames → Tree → List Clause
more_clauses names (pair c rest) = clause_from names c (more_clauses names rest)
more_clauses names _ = []

-- operand | literal
abbrev pub right_of : BoundNames → Tree → Right
right_of names (first o) = right.Operand (operand_of names o)
right_of names (second l) = right.Literal (literal_of l)
right_of names _ = right.Operand (operand.Nodes (from_document nothing []))

-- operand cmp ( operand | literal )
abbrev pub cond_from : BoundNames → Tree → List Comparison → List Comparison
cond_from names (pair l (pair c r)) behind =
    record { left = operand_of names l; op = op_of c; right = right_of names r } ∷ behind
cond_from names _ behind = behind

-- { AND cond }
abbrev pub more_conds : BoundNames → Tree → List Comparison
more_conds names (pair (pair keyword c) rest) = cond_from names c (more_conds names rest)
more_conds names _ = []

-- [ WHERE cond { AND cond } ]
abbrev pub conds_of : BoundNames → Tree → List Comparison
conds_of names (pair keyword (pair c rest)) = cond_from names c (more_conds names rest)
conds_of names _ = []

-- [ GROUP BY VARIABLE ":=" path ]
abbrev pub group_of : BoundNames → Tree → Option GroupBy
group_of names (pair keyword (pair by (pair v (pair sign p)))) =
    Some (record { var = var_in names v; path = path_of names p })
group_of names _ = None

-- operand [ ASCENDING | DESCENDING ]
abbrev pub key_from : BoundNames → Tree → List Key → List Key
key_from names (pair o d) behind =
    record { operand = operand_of names o; descending = is_keyword (codes "DESCENDING") d } ∷ behind
key_from names _ behind = behind

-- { "," key }
abbrev pub more_keys : BoundNames → Tree → List Key
more_keys names (pair (pair comma k) rest) = key_from names k (more_keys names rest)
more_keys names _ = []

-- [ ORDER BY key { "," key } ]
abbrev pub keys_of : BoundNames → Tree → List Key
keys_of names (pair keyword (pair by (pair k rest))) = key_from names k (more_keys names rest)
keys_of names _ = []
