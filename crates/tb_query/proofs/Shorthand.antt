-- Short words for the documents and queries of worked rows.
use Rattle.std.specs.Prelude.{ℕ, List, Option}
use Rattle.tb_tree.specs.Plain.{Plain, elem, text, no_kids, kid, plains}
use Rattle.tb_tree.specs.declared.node_test.Test.TheVariants.{Name, AnyElement, AttrName, AnyText}
use Rattle.tb_span.specs.declared.item.Axis.TheVariants.{Child, Descendant}
use Rattle.tb_number.specs.declared.op.CmpOp.{CmpOp}
use Rattle.tb_number.specs.declared.agg.AggKind.{AggKind}
use Rattle.tb_pattern.specs.declared.cond.Literal as literal
use Rattle.tb_query.specs.declared.path.Path.{Path}
use Rattle.tb_query.specs.declared.path.Start.TheVariants.{Document, Var}
use Rattle.tb_query.specs.declared.path.Step.{Step}
use Rattle.tb_query.specs.declared.operand.Operand.{Operand}
use Rattle.tb_query.specs.declared.operand.Operand.TheVariants as operands
use Rattle.tb_query.specs.declared.operand.Comparison.{Comparison}
use Rattle.tb_query.specs.declared.operand.Right.TheVariants as rights
use Rattle.tb_query.specs.declared.clause.Clause.{Clause}
use Rattle.tb_query.specs.declared.clause.GroupBy.{GroupBy}
use Rattle.tb_query.specs.declared.clause.Key.{Key}
use Rattle.tb_query.specs.declared.back.AttrPart.{AttrPart}
use Rattle.tb_query.specs.declared.back.Content.TheVariants as contents
use Rattle.tb_query.specs.declared.back.Cons.{Cons, roll-Cons}
use Rattle.tb_query.specs.declared.back.Part.{Part, roll-Part}
use Rattle.tb_query.specs.declared.back.Part.TheOpen.{Part-F}
use Rattle.tb_query.specs.declared.back.Back.{Back}
use Rattle.tb_query.specs.declared.query.Flwor.{Flwor}
use Rattle.tb_tree.specs.Documents.{Docs}
use Rattle.tb_query.specs.Answer.{answer}
use Rattle.tb_query.specs.declared.query.Query.TheVariants as queries

-- an element with kids given as a list, and one with a text alone
abbrev pub el : List ℕ → List Plain → Plain
el name kids = elem name (plains kids)

abbrev pub leaf : List ℕ → List ℕ → Plain
leaf name value = elem name (kid (text value) no_kids)

-- `/name`, `/*`, `//name`, `/@name`, `/text()`
abbrev pub child : List ℕ → Step
child name = record { axis = Child; test = Name name }

abbrev pub any_child : Step
any_child = record { axis = Child; test = AnyElement }

abbrev pub below : List ℕ → Step
below name = record { axis = Descendant; test = Name name }

abbrev pub attribute : List ℕ → Step
attribute name = record { axis = Child; test = AttrName name }

abbrev pub texts : Step
texts = record { axis = Child; test = AnyText }

-- `//@name`
abbrev pub attribute_below : List ℕ → Step
attribute_below name = record { axis = Descendant; test = AttrName name }

-- `document("name")` and `$var`, each with steps
abbrev pub in_document : List ℕ → List Step → Path
in_document name steps = record { start = Document name; steps = steps }

abbrev pub at_var : ℕ → List Step → Path
at_var var steps = record { start = Var var; steps = steps }

abbrev pub nodes : Path → Operand
nodes path = operands.Nodes path

abbrev pub agg : AggKind → Path → Operand
agg kind path = operands.Agg kind path

abbrev pub compared : Operand → CmpOp → Operand → Comparison
compared left op right = record { left = left; op = op; right = rights.Operand right }

abbrev pub compared_to : Operand → CmpOp → literal.Literal → Comparison
compared_to left op to = record { left = left; op = op; right = rights.Literal to }

-- `<name attrs>parts</name>`, and its parts
abbrev pub constructor : List ℕ → List AttrPart → List Part → Cons
constructor name attrs parts = roll-Cons (record { name = name; attrs = attrs; parts = parts })

abbrev pub inside : Cons → Part
inside c = roll-Part (Part-F.Cons c)

abbrev pub string : List ℕ → Part
string bytes = roll-Part (Part-F.Content (contents.Text bytes))

abbrev pub braced : Operand → Part
braced o = roll-Part (Part-F.Content (contents.Operand o))

abbrev pub named_by : List ℕ → Operand → AttrPart
named_by name o = record { name = name; from = contents.Operand o }

-- a query of clauses and RETURN, with conditions, groups and keys
abbrev pub query : List Clause → List Comparison → Option GroupBy → List Key → Back → Flwor
query clauses conds group keys back =
    record { clauses = clauses; conds = conds; group = group; keys = keys; back = back }

abbrev pub answered : Docs → Flwor → Option (ℕ × List ℕ)
answered docs q = answer docs (queries.Flwor q)
