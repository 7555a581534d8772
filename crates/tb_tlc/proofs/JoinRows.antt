-- Plans that join documents by value, computed.
use Rattle.std.proofs.Common.{◌≡◌, false, [], ◌∷◌, refl, codes, None}
use Rattle.tb_tree.specs.declared.against.Against.TheVariants as against
use Rattle.tb_tree.specs.declared.node_test.Test.TheVariants as test
use Rattle.tb_tree.specs.declared.shape.Shape.TheVariants as shape
use Rattle.tb_span.specs.declared.item.Axis.TheVariants.{Child, Descendant}
use Rattle.tb_number.specs.declared.op.CmpOp.TheVariants.{Eq}
use Rattle.tb_pattern.specs.declared.pattern.Mark.TheVariants.{One, Any}
use Rattle.tb_query.specs.declared.back.Back.TheVariants.{Nodes}
use Rattle.tb_query.specs.declared.clause.Clause.TheVariants.{For, Let}
use Rattle.tb_query.specs.declared.path.Step.{Step}
use Rattle.tb_query.specs.declared.query.Query.TheVariants.{Flwor}
use Rattle.tb_query.proofs.Shorthand.{query, in_document, at_var, nodes, compared}
use Rattle.tb_tlc.specs.declared.plan.ColumnStart.TheVariants.{Document, Column}
use Rattle.tb_tlc.specs.declared.plan.Op.TheVariants.{Select, Filter, ValueJoin, Construct}
use Rattle.tb_tlc.specs.Translated.{translated}

abbrev items : Step
items = record { axis = Descendant; test = test.Name (codes "i") }

abbrev keys : Step
keys = record { axis = Child; test = test.Name (codes "k") }

-- `FOR $x IN document("p")//i, $y IN document("q")//i WHERE $x/k = $y/k RETURN $y`: the nodes of `$x/k` have
-- column 1, `$y` has column 2, and the rows are joined before anything else is selected. The condition is
-- tested again in its turn.
pub join-of_two : translated (Flwor (query
    (For 0 false (in_document (codes "p") (items ∷ [])) ∷ For 1 false (in_document (codes "q") (items ∷ [])) ∷ [])
    (compared (nodes (at_var 0 (keys ∷ []))) Eq (nodes (at_var 1 (keys ∷ []))) ∷ [])
    None [] (Nodes (at_var 1 []))))
    ≡ Select (Document (codes "p")) (items ∷ []) One
    ∷ Select (Column 0) (keys ∷ []) Any
    ∷ Select (Document (codes "q")) (items ∷ []) One
    ∷ Select (Column 2) (keys ∷ []) Any
    ∷ ValueJoin 1 3
    ∷ Select (Column 0) (keys ∷ []) Any
    ∷ Select (Column 2) (keys ∷ []) Any
    ∷ Filter 4 Eq (against.Column 5)
    ∷ Select (Column 2) [] Any
    ∷ Construct (shape.Nodes 6)
    ∷ []
join-of_two = refl

-- The same where the later side is written first, and by a variable of LET.
pub join-turned : translated (Flwor (query
    (For 0 false (in_document (codes "p") (items ∷ [])) ∷ For 1 false (in_document (codes "q") (items ∷ [])) ∷ Let 2 (at_var 1 (keys ∷ [])) ∷ [])
    (compared (nodes (at_var 2 [])) Eq (nodes (at_var 0 (keys ∷ []))) ∷ [])
    None [] (Nodes (at_var 1 []))))
    ≡ Select (Document (codes "p")) (items ∷ []) One
    ∷ Select (Column 0) (keys ∷ []) Any
    ∷ Select (Document (codes "q")) (items ∷ []) One
    ∷ Select (Column 2) (keys ∷ []) Any
    ∷ ValueJoin 1 3
    ∷ Select (Column 2) (keys ∷ []) Any
    ∷ Select (Column 0) (keys ∷ []) Any
    ∷ Filter 4 Eq (against.Column 5)
    ∷ Select (Column 2) [] Any
    ∷ Construct (shape.Nodes 6)
    ∷ []
join-turned = refl

-- A chain of three documents is joined twice.
pub join-of_three : translated (Flwor (query
    (For 0 false (in_document (codes "p") (items ∷ [])) ∷ For 1 false (in_document (codes "q") (items ∷ [])) ∷ For 2 false (in_document (codes "r") (items ∷ [])) ∷ [])
    (compared (nodes (at_var 2 [])) Eq (nodes (at_var 1 [])) ∷ compared (nodes (at_var 0 (keys ∷ []))) Eq (nodes (at_var 1 (keys ∷ []))) ∷ [])
    None [] (Nodes (at_var 0 []))))
    ≡ Select (Document (codes "p")) (items ∷ []) One
    ∷ Select (Column 0) (keys ∷ []) Any
    ∷ Select (Document (codes "q")) (items ∷ []) One
    ∷ Select (Column 2) (keys ∷ []) Any
    ∷ ValueJoin 1 3
    ∷ Select (Column 2) [] Any
    ∷ Select (Document (codes "r")) (items ∷ []) One
    ∷ Select (Column 5) [] Any
    ∷ ValueJoin 4 6
    ∷ Select (Column 5) [] Any
    ∷ Select (Column 2) [] Any
    ∷ Filter 7 Eq (against.Column 8)
    ∷ Select (Column 0) (keys ∷ []) Any
    ∷ Select (Column 2) (keys ∷ []) Any
    ∷ Filter 9 Eq (against.Column 10)
    ∷ Select (Column 0) [] Any
    ∷ Construct (shape.Nodes 11)
    ∷ []
join-of_three = refl

-- A variable that starts at an earlier one isn't joined.
pub no_join-below : translated (Flwor (query
    (For 0 false (in_document (codes "p") (items ∷ [])) ∷ For 1 false (at_var 0 (items ∷ [])) ∷ [])
    (compared (nodes (at_var 0 (keys ∷ []))) Eq (nodes (at_var 1 (keys ∷ []))) ∷ [])
    None [] (Nodes (at_var 1 []))))
    ≡ Select (Document (codes "p")) (items ∷ []) One
    ∷ Select (Column 0) (items ∷ []) One
    ∷ Select (Column 0) (keys ∷ []) Any
    ∷ Select (Column 1) (keys ∷ []) Any
    ∷ Filter 2 Eq (against.Column 3)
    ∷ Select (Column 1) [] Any
    ∷ Construct (shape.Nodes 4)
    ∷ []
no_join-below = refl
