-- The operator that makes trees of rows.
use Rattle.std.specs.Prelude.{ℕ, List, [], ◌∷◌, map, flat_map, filter}
use Rattle.std.specs.List.{join_with_byte}
use Rattle.std.specs.Option.{option_to_list}
use Rattle.tb_tree.specs.Plain.{Plain, attr, text, plains}
use Rattle.tb_tree.specs.declared.shape.Shape.{Shape}
use Rattle.tb_tree.specs.declared.shape.Shape.TheVariants.{Nodes, Elem}
use Rattle.tb_tree.specs.declared.shape.ShapeElem.{ShapeElem, fold-ShapeElem}
use Rattle.tb_tree.specs.declared.shape.ShapePart.TheOpen.{ShapeElem-F, ShapePart-F}
use Rattle.tb_tree.specs.declared.shape.ShapeContent.{ShapeContent}
use Rattle.tb_tree.specs.declared.shape.ShapeContent.TheVariants.{Text, Column}
use Rattle.tb_query.specs.Results.{given_tree, is_result, made}
use Rattle.tb_tree.specs.Rows.{NodeIn, Cell, nodes, value, Row, cell_at, nodes_of, values_of}

-- the trees of the nodes of a cell, in order; an empty text gives none
abbrev pub cell_trees : List NodeIn → List Plain
cell_trees us = filter is_result (map (λ u. given_tree u.at.node) us)

-- the value of an attribute: a text, or the values of a column joined by one space
abbrev pub shape_value : Row → ShapeContent → List ℕ
shape_value row (Text bytes) = bytes
shape_value row (Column n) = join_with_byte 32 (values_of (cell_at n row))

-- inside: a text, or the nodes of a column, whole, or its value as text, or nothing
abbrev pub cell_given : Cell → List Plain
cell_given (nodes us) = cell_trees us
cell_given (value v) = map text (option_to_list v)

-- of a text or a column
abbrev pub shape_given : Row → ShapeContent → List Plain
shape_given row (Text bytes) = text bytes ∷ []
shape_given row (Column n) = cell_given (cell_at n row)

-- an element whose parts are given already, and a part whose element is
abbrev pub elem_step : Row → ShapeElem-F (List Plain) Plain → Plain
elem_step row e =
    made e.name (map (λ a. attr a.name (shape_value row a.from)) e.attrs)
    (plains (flat_map (λ ts. ts) e.parts))

abbrev pub part_step : Row → ShapePart-F (List Plain) Plain → List Plain
part_step row (ShapePart-F.Elem tree) = tree ∷ []
part_step row (ShapePart-F.Content c) = shape_given row c

-- the element of a row
abbrev pub shape_tree : Row → ShapeElem → Plain
shape_tree row = fold-ShapeElem (List Plain) Plain (part_step row) (elem_step row)

-- the trees of a row: one for each node of a column, or one element
abbrev pub row_trees : Shape → Row → List Plain
row_trees (Nodes n) row = cell_trees (nodes_of (cell_at n row))
row_trees (Elem e) row = shape_tree row e ∷ []

-- the trees of rows, one row after the other
abbrev pub constructed : Shape → List Row → List Plain
constructed shape rows = flat_map (row_trees shape) rows
