-- Which trees the values that the program builds stand for, part by part.
use Rattle.std.specs.Prelude.{◌≡◌, ℕ, Bool, false, List, [], ◌∷◌, codes, pos}
use Rattle.std.specs.Option.{unwrap_or}
use Rattle.tb_token.specs.grammar.Grammar.{Tok, Expression, both, either}
use Rattle.tb_token.specs.grammar.Sentences.{Tree, pair, first, second}
use Rattle.tb_token.specs.grammar.Patterns.{cmp, literal, match_query}
use Rattle.tb_token.specs.grammar.Terminals.{sign, name}
use Rattle.tb_tree.specs.declared.node_test.Test.{Test}
use Rattle.tb_pattern.specs.Faults.{literal_in}
use Rattle.tb_pattern.specs.Plain.{PlainEdge, PlainEdges, edge}
use Rattle.tb_pattern.specs.View.{edge_of, edges_of}
use Rattle.tb_pattern.specs.Value.{is_there, test_of, literal_of, conds_from, conds_of}
use Rattle.tb_pattern.specs.Value.{edges_from, edges_behind, edges_in, AskFor}
use Rattle.tb_pattern.specs.Building.{Come}
use Rattle.tb_pattern.specs.declared.cond.Cond.{Cond}
use Rattle.tb_pattern.specs.declared.cond.Literal.{Literal}
use Rattle.tb_pattern.specs.declared.cond.Literal.TheVariants as a
use Rattle.tb_pattern.specs.declared.pattern.Edge.{Edge}
use Rattle.tb_pattern.specs.declared.pattern.Pattern.{Pattern}

-- NAME | "*", behind `@`
abbrev pub attribute : Expression
attribute = either name (sign (codes "*"))

-- whatever the `@` before it
abbrev pub IsAttribute : Test → Tree → Type 0
IsAttribute is v = (a : Tree) → test_of (second (second (first (pair a v)))) ≡ is

abbrev pub IsTest : Test → Tree → Type 0
IsTest is v = test_of v ≡ is

-- a number behind its sign, or 0 where it is past its range
abbrev pub number_or_zero : Bool → List ℕ → Literal
number_or_zero minus digits = a.Number (unwrap_or (literal_in minus digits) (pos 0))

-- cmp literal
abbrev pub one_cond : Expression
one_cond = both cmp literal

abbrev pub IsLiteral : Literal → Tree → Type 0
IsLiteral is v = literal_of v ≡ is

-- whatever conditions behind it
abbrev pub IsCond : Cond → Tree → Type 0
IsCond is v = (behind : List Cond) → conds_from v behind ≡ is ∷ behind

abbrev pub AreConds : List Cond → Tree → Type 0
AreConds are v = conds_of v ≡ are

-- "!"
abbrev pub bang : Expression
bang = sign (codes "!")

abbrev pub IsWhole : Bool → Tree → Type 0
IsWhole is v = is_there v ≡ is

-- the edge, and others behind it
abbrev pub put : PlainEdge → PlainEdges → PlainEdges
put e behind = edge e.axis e.mark e.to behind

-- whatever edges behind it
abbrev pub IsEdge : Edge → Tree → Type 0
IsEdge is v = (behind : PlainEdges) → edges_from v behind ≡ put (edge_of is) behind

-- the edges one after the other, and others behind them
abbrev pub edges_before : List Edge → PlainEdges → PlainEdges
edges_before [] behind = behind
edges_before (e ∷ es) behind = put (edge_of e) (edges_before es behind)

-- edge { "," edge } ")"
abbrev pub AreEdges : List Edge → Tree → Type 0
AreEdges are v = edges_of are ≡ edges_behind v

-- [ "(" edge { "," edge } ")" ]
abbrev pub AreBelow : List Edge → Tree → Type 0
AreBelow are v = edges_of are ≡ edges_in v

-- the query asks for the pattern, where it has no fault
abbrev pub Asks : List Tok → Pattern → Type 0
Asks s p = Come false (match_query ∷ []) s → AskFor s p.document (edges_of p.edges)
