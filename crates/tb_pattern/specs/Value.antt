-- The pattern that the tree of a query stands for, production by production. A tree of another
-- form is that of no query, and what it stands for here is never asked.
use Rattle.std.specs.Prelude.{◌≡◌, ℕ, ◌-◌, Bool, true, false, if◌then◌else◌, List, [], ◌∷◌, length, take, drop, codes}
use Rattle.tb_token.specs.grammar.Grammar.{Tok}
use Rattle.tb_token.specs.grammar.Sentences.{Tree, leaf, nothing, pair, first, second, Derives}
use Rattle.tb_number.specs.IntText.{signed, number_of}
use Rattle.tb_number.specs.declared.op.CmpOp.{CmpOp}
use Rattle.tb_number.specs.declared.op.CmpOp.TheVariants as op
use Rattle.tb_span.specs.declared.item.Axis.{Axis}
use Rattle.tb_span.specs.declared.item.Axis.TheVariants.{Child, Descendant}
use Rattle.tb_tree.specs.declared.node_test.Test.{Test}
use Rattle.tb_tree.specs.declared.node_test.Test.TheVariants as test
use Rattle.tb_token.specs.grammar.Patterns.{match_query}
use Rattle.tb_token.specs.grammar.Queries.{rules}
use Rattle.tb_token.specs.tokens.TerminalNames.{is_sign}
use Rattle.tb_pattern.specs.Plain.{matching, PlainEdges, no_edges, edge}
use Rattle.tb_pattern.specs.declared.cond.Cond.{Cond}
use Rattle.tb_pattern.specs.declared.cond.Literal.{Literal}
use Rattle.tb_pattern.specs.declared.cond.Literal.TheVariants as literal
use Rattle.tb_pattern.specs.declared.pattern.Mark.{Mark}
use Rattle.tb_pattern.specs.declared.pattern.Mark.TheVariants as mark

-- the terminal and the bytes of one token
abbrev pub terminal_in : Tree → ℕ
terminal_in (leaf t) = t.terminal
terminal_in _ = 0

abbrev pub bytes_in : Tree → List ℕ
bytes_in (leaf t) = t.bytes
bytes_in _ = []

-- whether a part that may be left out is there
abbrev pub is_there : Tree → Bool
is_there nothing = false
is_there _ = true

-- the bytes between two quotes
abbrev pub inside : List ℕ → List ℕ
inside bytes = take (length bytes - 2) (drop 1 bytes)

-- "/" | "//"
abbrev pub axis_of : Tree → Axis
axis_of v = if is_sign (codes "//") (terminal_in v) then Descendant else Child

-- "-" | "?" | "+" | "*"
abbrev pub mark_of : Tree → Mark
mark_of v =
    if is_sign (codes "?") (terminal_in v) then mark.Optional
    else (if is_sign (codes "+") (terminal_in v) then mark.Some
    else (if is_sign (codes "*") (terminal_in v) then mark.Any else mark.One))

-- NAME | "*" | "@" ( NAME | "*" ) | TEXT
abbrev pub test_of : Tree → Test
test_of (first v) = test.Name (bytes_in v)
test_of (second (first v)) = test.AnyElement
test_of (second (second (first (pair a (first v))))) = test.AttrName (bytes_in v)
test_of (second (second (first (pair a (second v))))) = test.AnyAttr
test_of _ = test.AnyText

-- "=" | "!=" | "<" | "<=" | ">" | ">="
abbrev pub op_of : Tree → CmpOp
op_of v =
    if is_sign (codes "!=") (terminal_in v) then op.Ne
    else (if is_sign (codes "<") (terminal_in v) then op.Lt
    else (if is_sign (codes "<=") (terminal_in v) then op.Le
    else (if is_sign (codes ">") (terminal_in v) then op.Gt
    else (if is_sign (codes ">=") (terminal_in v) then op.Ge else op.Eq))))

-- STRING | [ "-" ] NUMBER
abbrev pub literal_of : Tree → Literal
literal_of (second (pair sign digits)) =
    literal.Number (signed (is_there sign) (number_of (bytes_in digits)))
literal_of (first v) = literal.Text (inside (bytes_in v))
literal_of _ = literal.Text []

-- cmp literal
abbrev pub conds_from : Tree → List Cond → List Cond
conds_from (pair c v) behind = record { op = op_of c; with = literal_of v } ∷ behind
conds_from _ behind = behind

-- { AND cmp literal }
abbrev pub more_conds_of : Tree → List Cond
more_conds_of (pair (pair keyword v) rest) = conds_from v (more_conds_of rest)
more_conds_of _ = []

-- [ "[" cmp literal { AND cmp literal } "]" ]
abbrev pub conds_of : Tree → List Cond
conds_of (pair opening (pair (pair v rest) closing)) = conds_from v (more_conds_of rest)
conds_of _ = []

abbrev mutual
  -- [ "(" edge { "," edge } ")" ]
  pub edges_in : Tree → PlainEdges
  edges_in (pair opening behind) = edges_behind behind
  edges_in _ = no_edges

  -- edge { "," edge } ")"
  pub edges_behind : Tree → PlainEdges
  edges_behind (pair (pair v rest) closing) = edges_from v (more_edges_in rest)
  edges_behind _ = no_edges

  -- { "," edge }
  pub more_edges_in : Tree → PlainEdges
  more_edges_in (pair (pair comma v) rest) = edges_from v (more_edges_in rest)
  more_edges_in _ = no_edges

  -- axis mark test [ conds ] [ "!" ] [ edges ]
  pub edges_from : Tree → PlainEdges → PlainEdges
  edges_from (pair a (pair m (pair t (pair c (pair w below))))) behind =
      edge (axis_of a) (mark_of m)
      (matching (test_of t) (conds_of c) (is_there w) (edges_in below)) behind
  edges_from _ behind = behind

-- MATCH DOCUMENT "(" STRING ")" edges
abbrev pub document_of : Tree → List ℕ
document_of (pair keyword (pair (pair doc (pair opening (pair string closing))) below)) =
    inside (bytes_in string)
document_of _ = []

abbrev pub pattern_of : Tree → PlainEdges
pattern_of (pair keyword (pair doc below)) = edges_in below
pattern_of _ = no_edges

-- the tokens are a `MATCH` query that asks this of the document of this name
pub record AskFor (s : List Tok) (document : List ℕ) (edges : PlainEdges) : Type 0 where
  pub tree : Tree
  pub derived : Derives rules (match_query ∷ []) (tree ∷ []) s
  pub document_is : document ≡ document_of tree
  pub edges_are : edges ≡ pattern_of tree
