-- Plans of queries, computed.
use Rattle.std.proofs.Common.{◌≡◌, true, false, [], ◌∷◌, refl, codes, Some, None}
use Rattle.std.specs.Prelude.{pos}
use Rattle.tb_tree.specs.declared.against.Against.TheVariants as against
use Rattle.tb_tree.specs.declared.node_test.Test.TheVariants as test
use Rattle.tb_tree.specs.declared.shape.Shape.TheVariants as shape
use Rattle.tb_tree.specs.declared.shape.ShapeElem.{roll-ShapeElem}
use Rattle.tb_tree.specs.declared.shape.ShapePart.{roll-ShapePart}
use Rattle.tb_tree.specs.declared.shape.ShapePart.TheOpen.{ShapePart-F}
use Rattle.tb_tree.specs.declared.shape.ShapeContent.TheVariants as content
use Rattle.tb_span.specs.declared.item.Axis.TheVariants.{Child, Descendant}
use Rattle.tb_number.specs.declared.op.CmpOp.TheVariants as cmp
use Rattle.tb_number.specs.declared.agg.AggKind.TheVariants.{Count, Sum}
use Rattle.tb_pattern.specs.declared.cond.Literal.TheVariants as literal
use Rattle.tb_pattern.specs.declared.pattern.Mark.TheVariants.{One, Optional, Any}
use Rattle.tb_query.specs.Parts.{element, no_parts, cons_back}
use Rattle.tb_query.specs.Parts as parts
use Rattle.tb_query.specs.declared.back.Content.TheVariants.{Operand}
use Rattle.tb_query.specs.declared.back.Back.{Back}
use Rattle.tb_query.specs.declared.back.Back.TheVariants as back
use Rattle.tb_query.specs.declared.clause.Clause.TheVariants.{For, Let}
use Rattle.tb_query.specs.declared.path.Step.{Step}
use Rattle.tb_query.specs.declared.query.Query.TheVariants.{Flwor}
use Rattle.tb_query.proofs.Shorthand.{query, in_document, at_var, nodes, agg, compared_to, named_by}
use Rattle.tb_tlc.specs.declared.plan.ColumnStart.TheVariants.{Document, Column}
use Rattle.tb_tlc.specs.declared.plan.Op.TheVariants.{Select, Filter, Group, Aggregate, Order, Construct}
use Rattle.tb_tlc.specs.Returned.{planned, draft_of}
use Rattle.tb_tlc.specs.Translated.{translated}

abbrev books : Step
books = record { axis = Descendant; test = test.Name (codes "book") }

abbrev authors : Step
authors = record { axis = Child; test = test.Name (codes "author") }

abbrev prices : Step
prices = record { axis = Child; test = test.Name (codes "price") }

-- `FOR $b IN document("b")//book, $a IN $b/author GROUP BY $k := $a ORDER BY count($b) DESCENDING, $k
-- RETURN <by name={$k}>{sum($b/price)}</by>`: the variables have columns 0 and 1, the key has column 2 and its
-- variable column 3; behind the group each operand has columns of its own.
pub plan-of_groups : (any : Back) → planned (draft_of (query
    (For 0 false (in_document (codes "b") (books ∷ [])) ∷ For 1 false (at_var 0 (authors ∷ [])) ∷ [])
    []
    (Some (record { var = 2; path = at_var 1 [] }))
    (record { operand = agg Count (at_var 0 []); descending = true } ∷ record { operand = nodes (at_var 2 []); descending = false } ∷ [])
    any))
    (cons_back (element (codes "by") (named_by (codes "name") (nodes (at_var 2 [])) ∷ []) (parts.content (Operand (agg Sum (at_var 0 (prices ∷ [])))) no_parts)))
    ≡ Select (Document (codes "b")) (books ∷ []) One
    ∷ Select (Column 0) (authors ∷ []) One
    ∷ Select (Column 1) [] Any
    ∷ Group 2
    ∷ Select (Column 0) [] Any
    ∷ Aggregate 4 Count
    ∷ Select (Column 3) [] Any
    ∷ Order (record { column = 5; descending = true } ∷ record { column = 6; descending = false } ∷ [])
    ∷ Select (Column 3) [] Any
    ∷ Select (Column 0) (prices ∷ []) Any
    ∷ Aggregate 8 Sum
    ∷ Construct (shape.Elem (roll-ShapeElem (record {
      name = codes "by";
      attrs = record { name = codes "name"; from = content.Column 7 } ∷ [];
      parts = roll-ShapePart (ShapePart-F.Content (content.Column 9)) ∷ [];
    })))
    ∷ []
plan-of_groups any = refl

-- `FOR $b ALLOWING EMPTY IN document("b")//book LET $p := $b/price WHERE sum($p) > 8 AND $p = 7 RETURN $p`:
-- a variable of LET has no column, and the condition without a sum is tested first
pub plan-of_let : translated (Flwor (query
    (For 0 true (in_document (codes "b") (books ∷ [])) ∷ Let 1 (at_var 0 (prices ∷ [])) ∷ [])
    (compared_to (agg Sum (at_var 1 [])) cmp.Gt (literal.Number (pos 8)) ∷ compared_to (nodes (at_var 1 [])) cmp.Eq (literal.Number (pos 7)) ∷ [])
    None []
    (back.Nodes (at_var 1 []))))
    ≡ Select (Document (codes "b")) (books ∷ []) Optional
    ∷ Select (Column 0) (prices ∷ []) Any
    ∷ Filter 1 cmp.Eq (against.Number (pos 7))
    ∷ Select (Column 0) (prices ∷ []) Any
    ∷ Aggregate 2 Sum
    ∷ Filter 3 cmp.Gt (against.Number (pos 8))
    ∷ Select (Column 0) (prices ∷ []) Any
    ∷ Construct (shape.Nodes 4)
    ∷ []
plan-of_let = refl
