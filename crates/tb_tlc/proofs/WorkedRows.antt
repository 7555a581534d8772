-- Plans over a small document, computed.
use Rattle.std.proofs.Common.{◌≡◌, [], ◌∷◌, refl, codes, Some}
use Rattle.std.specs.Prelude.{pos}
use Rattle.tb_tree.specs.Plain.{elem, text, no_kids, kid}
use Rattle.tb_tree.specs.Documents.{Docs}
use Rattle.tb_tree.specs.declared.against.Against.TheVariants.{Number}
use Rattle.tb_tree.specs.declared.node_test.Test.TheVariants as test
use Rattle.tb_tree.specs.declared.shape.Shape.TheVariants as shape
use Rattle.tb_span.specs.declared.item.Axis.TheVariants.{Child, Descendant}
use Rattle.tb_number.specs.declared.op.CmpOp.TheVariants.{Gt}
use Rattle.tb_number.specs.Reading.{integer_of}
use Rattle.tb_pattern.specs.declared.pattern.Mark.TheVariants.{One, Any}
use Rattle.tb_query.specs.declared.path.Step.{Step}
use Rattle.tb_tlc.specs.declared.plan.ColumnStart.TheVariants.{Document, Column}
use Rattle.tb_tlc.specs.declared.plan.Op.TheVariants.{Select, Filter, Construct}
use Rattle.tb_tlc.specs.Meaning.{plan_trees}

-- two items with a number each
abbrev documents : Docs
documents = (codes "d", elem (codes "r") (kid (elem (codes "x") (kid (text (codes "7")) no_kids)) (kid (elem (codes "x") (kid (text (codes "9")) no_kids)) no_kids))) ∷ []

abbrev items : Step
items = record { axis = Descendant; test = test.Name (codes "x") }

abbrev texts : Step
texts = record { axis = Child; test = test.AnyText }

-- `FOR $x IN document("d")//x WHERE $x/text() > 8 RETURN $x`
pub trees-of_plan : plan_trees documents
    (Select (Document (codes "d")) (items ∷ []) One ∷ Select (Column 0) (texts ∷ []) Any ∷ Filter 1 Gt (Number (pos 8)) ∷ Construct (shape.Nodes 0) ∷ [])
    ≡ Some (elem (codes "x") (kid (text (codes "9")) no_kids) ∷ [])
unfolding integer_of
trees-of_plan = refl

-- a document that isn't there has no node
pub trees-of_absent : plan_trees documents (Select (Document (codes "e")) (items ∷ []) One ∷ Construct (shape.Nodes 0) ∷ []) ≡ Some []
trees-of_absent = refl
