-- What paths give, computed.
use Rattle.std.proofs.Common.{◌≡◌, ℕ, false, List, [], ◌∷◌, refl, rules, codes, Option, Some, None}
use Rattle.tb_tree.specs.Plain.{attr}
use Rattle.tb_tree.specs.declared.node_test.Test.TheVariants.{Name}
use Rattle.tb_span.specs.declared.item.Axis.TheVariants.{Descendant}
use Rattle.tb_pattern.specs.Plain.{PlainEdges, no_edges, edge, matching}
use Rattle.tb_pattern.specs.declared.pattern.Edge.{Edge, roll-Edge, the_lemmas}
use Rattle.tb_pattern.specs.declared.pattern.PNode.{roll-PNode}
use Rattle.tb_pattern.specs.declared.pattern.Pattern.{Pattern}
use Rattle.tb_pattern.specs.declared.pattern.Mark.TheVariants.{Any}
use Rattle.tb_query.specs.Answer.{answer}
use Rattle.tb_tree.specs.Documents.{Docs}
use Rattle.tb_query.specs.declared.path.Path.{Path}
use Rattle.tb_query.specs.declared.back.Back.TheVariants.{Nodes}
use Rattle.tb_query.specs.declared.clause.Clause.{Clause}
use Rattle.tb_query.specs.declared.clause.Clause.TheVariants.{For, Let}
use Rattle.tb_query.specs.declared.query.Query.TheVariants.{Match}
use Rattle.tb_query.proofs.Shorthand.{el, leaf, child, below, attribute_below, in_document, at_var, query, answered}
use Rattle.tb_query.proofs.Asked.{answer-edges}

-- one `y` below two `x`
abbrev nested : Docs
nested = (codes "d", el (codes "x") (el (codes "x") (el (codes "y") [] ∷ []) ∷ [])) ∷ []

abbrev returned : List Clause → Path → Option (ℕ × List ℕ)
returned clauses path = answered nested (query clauses [] None [] (Nodes path))

-- `FOR $y IN document("d")//x//y RETURN $y`: a path gives each node once
pub path-once : returned (For 0 false (in_document (codes "d") (below (codes "x") ∷ below (codes "y") ∷ [])) ∷ []) (at_var 0 [])
    ≡ Some (1, codes "(y\n)y\n")
path-once = refl

-- `FOR $x IN document("d")//x, $y IN $x//y RETURN $y`: results over tuples are not made distinct
pub tuples-not_distinct : returned
    (For 0 false (in_document (codes "d") (below (codes "x") ∷ []))
    ∷ For 1 false (at_var 0 (below (codes "y") ∷ [])) ∷ []) (at_var 1 [])
    ≡ Some (2, codes "(y\n)y\n(y\n)y\n")
tuples-not_distinct = refl

-- `LET $x := document("d")//x FOR $y IN $x//y RETURN $y`: the variable stands for its path, so the
-- node is there once
pub let-stands_for_path : returned
    (Let 0 (in_document (codes "d") (below (codes "x") ∷ []))
    ∷ For 1 false (at_var 0 (below (codes "y") ∷ [])) ∷ []) (at_var 1 [])
    ≡ Some (1, codes "(y\n)y\n")
let-stands_for_path = refl

-- `FOR $x IN document("d")/x LET $i := $x/x LET $y := $i/y RETURN $y`: through two of them, and
-- from a variable of `FOR`
pub let-through_let : returned
    (For 0 false (in_document (codes "d") (child (codes "x") ∷ []))
    ∷ Let 1 (at_var 0 (child (codes "x") ∷ []))
    ∷ Let 2 (at_var 1 (child (codes "y") ∷ [])) ∷ []) (at_var 2 [])
    ≡ Some (1, codes "(y\n)y\n")
let-through_let = refl

-- `FOR $r IN document("d")/r RETURN $r//@id`: attributes are kids, so the node's own is there too
pub attribute-own : answered
    ((codes "d", el (codes "r") (attr (codes "id") (codes "1") ∷ el (codes "s") (attr (codes "id") (codes "2") ∷ []) ∷ [])) ∷ [])
    (query (For 0 false (in_document (codes "d") (child (codes "r") ∷ [])) ∷ []) [] None []
    (Nodes (at_var 0 (attribute_below (codes "id") ∷ []))))
    ≡ Some (2, codes "(@id\n-1\n)@id\n(@id\n-2\n)@id\n")
attribute-own = refl

-- `FOR $y IN document("d")//x/y RETURN $y`, where the inner `x` has the first `y`: nodes stand in
-- the order of the document, and not of the witnesses, in which the outer `x` comes first
pub path-document_order : answered
    ((codes "d", el (codes "x") (el (codes "x") (leaf (codes "y") (codes "1") ∷ []) ∷ leaf (codes "y") (codes "2") ∷ [])) ∷ [])
    (query (For 0 false (in_document (codes "d") (below (codes "x") ∷ child (codes "y") ∷ [])) ∷ []) [] None [] (Nodes (at_var 0 [])))
    ≡ Some (2, codes "(y\n-1\n)y\n(y\n-2\n)y\n")
path-document_order = refl

-- `FOR $x IN document("none")//x RETURN $x`
pub absent-nothing : returned (For 0 false (in_document (codes "none") (below (codes "x") ∷ [])) ∷ []) (at_var 0 [])
    ≡ Some (0, [])
absent-nothing = refl

-- `MATCH document("name") (//* z, /* q)`
abbrev leads_to : List ℕ → Edge
leads_to name = roll-Edge
    (record { axis = Descendant; mark = Any; to = roll-PNode (record { test = Name name; conds = []; whole = false; edges = [] }) })

abbrev all_optional : List ℕ → Pattern
all_optional name = record { document = name; edges = leads_to (codes "z") ∷ leads_to (codes "q") ∷ [] }

abbrev optional_edges : PlainEdges
optional_edges =
    edge Descendant Any (matching (Name (codes "z")) [] false no_edges)
    (edge Descendant Any (matching (Name (codes "q")) [] false no_edges) no_edges)

-- a pattern whose edges are all `*` has one witness over a document that is there
pub optional-present : answer nested (Match (all_optional (codes "d"))) ≡ Some (1, codes "(witness\n)witness\n")
optional-present =
    answer-edges nested (all_optional (codes "d")) optional_edges _ (search (rules, the_lemmas)) refl

-- and none over one that isn't
pub optional-absent : answer nested (Match (all_optional (codes "none"))) ≡ Some (0, [])
optional-absent =
    answer-edges nested (all_optional (codes "none")) optional_edges _ (search (rules, the_lemmas)) refl
