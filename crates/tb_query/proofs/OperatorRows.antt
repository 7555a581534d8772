-- Plans over rows, computed.
use Rattle.std.proofs.Common.{◌≡◌, ℕ, List, [], ◌∷◌, map, length, refl, ap, ◌∙◌, rules, codes, Option, Some, None, option_map}
use Rattle.std.specs.List.{flat_map}
use mathlib.Core.Path.{fun_ext}
use Rattle.tb_tree.specs.Plain.{Plain, attr, text, no_kids}
use Rattle.tb_tree.specs.Printed.{printed_node}
use Rattle.tb_tree.specs.declared.against.Against.TheVariants as against
use Rattle.tb_tree.specs.declared.shape.Shape.TheVariants.{Nodes, Elem}
use Rattle.tb_tree.specs.declared.shape.ShapeElem.{ShapeElem, roll-ShapeElem}
use Rattle.tb_tree.specs.declared.shape.ShapePart.{roll-ShapePart, the_lemmas}
use Rattle.tb_tree.specs.declared.shape.ShapePart.TheOpen.{ShapePart-F}
use Rattle.tb_tree.specs.declared.shape.ShapeContent.TheVariants.{Text, Column}
use Rattle.tb_number.specs.Reading.{integer_of}
use Rattle.tb_number.specs.Canonical.{canonical_text}
use Rattle.tb_number.specs.declared.op.CmpOp.TheVariants.{Ne}
use Rattle.tb_number.specs.declared.agg.AggKind.TheVariants.{Count}
use Rattle.tb_pattern.specs.declared.pattern.Mark.TheVariants as marks
use Rattle.tb_tree.specs.Documents.{Docs}
use Rattle.tb_query.specs.Results.{made}
use Rattle.tb_tree.specs.Rows.{NodeIn, Cell, nodes, value, Row, first_rows, values_of}
use Rattle.tb_query.specs.Selected.{of_document, of_column, selected}
use Rattle.tb_query.specs.Operators.{filtered, value_joined, grouped_rows, aggregated, projected, distinct}
use Rattle.tb_query.specs.Shapes.{shape_value, shape_tree, constructed}
use Rattle.tb_query.proofs.Shorthand.{el, leaf, child, below, attribute}
use Rattle.tb_query.proofs.GroupRows.{bibliography}

-- The plan of the books of each year: books, their authors, the year as key, groups, and a count.
abbrev years : Option (List Row)
years = aggregated 1 Count (grouped_rows 2
    (selected bibliography (of_column 0) (attribute (codes "YEAR") ∷ []) marks.Any
    (selected bibliography (of_column 0) (child (codes "AUTHOR") ∷ []) marks.One
    (selected bibliography (of_document (codes "bib")) (below (codes "BOOK") ∷ []) marks.One first_rows))))

-- `<y v={column 3} n={column 4}/>`
abbrev year : ShapeElem
year = roll-ShapeElem (record {
  name = codes "y";
  attrs = record { name = codes "v"; from = Column 3 } ∷ record { name = codes "n"; from = Column 4 } ∷ [];
  parts = [];
})

abbrev year_tree : Row → Plain
year_tree row = made (codes "y")
    (attr (codes "v") (shape_value row (Column 3)) ∷ attr (codes "n") (shape_value row (Column 4)) ∷ []) no_kids

year-is : (row : Row) → shape_tree row year ≡ year_tree row
year-is row = search (rules, the_lemmas)

-- the lines are those of the query's answer
pub plan-years : option_map (λ rows. flat_map printed_node (constructed (Elem year) rows)) years
    ≡ Some (codes "Av CDATA 1994\nAn CDATA 1\n(y\n)y\nAv CDATA 2000\nAn CDATA 3\n(y\n)y\n")
unfolding integer_of canonical_text
plan-years =
    ap (λ tree. option_map (λ rows. flat_map printed_node (flat_map (λ row. tree row ∷ []) rows)) years) (fun_ext year-is) ∙ refl

-- `b` with two `c`, and `b` with none: how many rows each mark gives
abbrev two : Docs
two = (codes "m", el (codes "b") (leaf (codes "c") (codes "1") ∷ leaf (codes "c") (codes "01") ∷ [])) ∷ []

abbrev rows_by_mark : List ℕ → List ℕ
rows_by_mark name = map
    (λ mark. length (selected two (of_document (codes "m")) (child (codes "b") ∷ child name ∷ []) mark first_rows))
    (marks.One ∷ marks.Optional ∷ marks.Some ∷ marks.Any ∷ [])

pub marks-of_two : rows_by_mark (codes "c") ≡ 2 ∷ 2 ∷ 1 ∷ 1 ∷ []
marks-of_two = refl

pub marks-of_none : rows_by_mark (codes "d") ≡ 0 ∷ 1 ∷ 0 ∷ 1 ∷ []
marks-of_none = refl

-- each `c` with each `c`
abbrev pairs : List Row
pairs = selected two (of_document (codes "m")) (below (codes "c") ∷ []) marks.One
    (selected two (of_document (codes "m")) (below (codes "c") ∷ []) marks.One first_rows)

abbrev shown : List Row → List (List (List (List ℕ)))
shown rows = map (map values_of) rows

-- all four are equal as values, and none is unequal
pub joined-pairs : length (value_joined 0 1 pairs) ≡ 4
unfolding integer_of
joined-pairs = refl

pub unequal-pairs : filtered 0 Ne (against.Column 1) pairs ≡ []
unfolding integer_of
unequal-pairs = refl

-- the second column alone, each node once
pub distinct-column : shown (distinct (projected (1 ∷ []) pairs))
    ≡ (((codes "1") ∷ []) ∷ []) ∷ (((codes "01") ∷ []) ∷ []) ∷ []
unfolding integer_of
distinct-column = refl

-- a node of the first document with its number, and a cell with nodes
abbrev numbered : ℕ → Plain → NodeIn
numbered number node = record { document = 0; at = record { number = number; node = node } }

-- `r` with a `c` and an `s`, which has a `c` of its own: r is 1, the first c is 2, s is 4, and its c is 5
abbrev inner_s : Plain
inner_s = el (codes "s") (leaf (codes "c") (codes "y") ∷ [])

abbrev outer_r : Plain
outer_r = el (codes "r") (leaf (codes "c") (codes "x") ∷ inner_s ∷ [])

abbrev first_c : NodeIn
first_c = numbered 2 (leaf (codes "c") (codes "x"))

abbrev second_c : NodeIn
second_c = numbered 5 (leaf (codes "c") (codes "y"))

-- From a cell with s and r, one below the other, the c of s is reached twice. It is there once, at
-- its first place.
pub selected-once : selected [] (of_column 0) (below (codes "c") ∷ []) marks.Some
    ((nodes (numbered 4 inner_s ∷ numbered 1 outer_r ∷ []) ∷ []) ∷ [])
    ≡ (nodes (numbered 4 inner_s ∷ numbered 1 outer_r ∷ []) ∷ nodes (second_c ∷ first_c ∷ []) ∷ []) ∷ []
selected-once = refl

-- A column from a document has the nodes of the document of that name, with its number.
pub selected-second_document : selected
    ((codes "m", outer_r) ∷ (codes "n", inner_s) ∷ []) (of_document (codes "n")) (below (codes "c") ∷ []) marks.One
    ((value None ∷ []) ∷ [])
    ≡ (value None ∷ nodes (record { document = 1; at = record { number = 2; node = leaf (codes "c") (codes "y") } } ∷ []) ∷ []) ∷ []
selected-second_document = refl

-- The rows that each mark makes of one row: with the two matches `c`, and with the match `d`, which
-- is none.
abbrev start : Cell
start = nodes (numbered 1 outer_r ∷ [])

abbrev rows_of_marks : List ℕ → List (List Row)
rows_of_marks name = map
    (λ mark. selected [] (of_column 0) (below name ∷ []) mark ((start ∷ []) ∷ []))
    (marks.One ∷ marks.Optional ∷ marks.Some ∷ marks.Any ∷ [])

pub marked-two : rows_of_marks (codes "c")
    ≡ ((start ∷ nodes (first_c ∷ []) ∷ []) ∷ (start ∷ nodes (second_c ∷ []) ∷ []) ∷ [])
    ∷ ((start ∷ nodes (first_c ∷ []) ∷ []) ∷ (start ∷ nodes (second_c ∷ []) ∷ []) ∷ [])
    ∷ ((start ∷ nodes (first_c ∷ second_c ∷ []) ∷ []) ∷ [])
    ∷ ((start ∷ nodes (first_c ∷ second_c ∷ []) ∷ []) ∷ []) ∷ []
marked-two = refl

pub marked-none : rows_of_marks (codes "d")
    ≡ [] ∷ ((start ∷ nodes [] ∷ []) ∷ []) ∷ [] ∷ ((start ∷ nodes [] ∷ []) ∷ []) ∷ []
marked-none = refl

-- two nodes, an attribute and an element, and a value
abbrev given : Row
given = nodes (numbered 3 (attr (codes "k") (codes "1")) ∷ second_c ∷ []) ∷ value (Some (codes "9")) ∷ []

-- `<y v={column 0}>t<i w="u"/>{column 0}{column 1}</y>`
abbrev inner_shape : ShapeElem
inner_shape = roll-ShapeElem (record {
  name = codes "i";
  attrs = record { name = codes "w"; from = Text (codes "u") } ∷ [];
  parts = [];
})

abbrev whole : ShapeElem
whole = roll-ShapeElem (record {
  name = codes "y";
  attrs = record { name = codes "v"; from = Column 0 } ∷ [];
  parts =
      roll-ShapePart (ShapePart-F.Content (Text (codes "t"))) ∷ roll-ShapePart (ShapePart-F.Elem inner_shape)
      ∷ roll-ShapePart (ShapePart-F.Content (Column 0)) ∷ roll-ShapePart (ShapePart-F.Content (Column 1)) ∷ [];
})

-- The tree has the values of the column joined by a space, and its nodes whole, an attribute as an
-- element; the value is text.
abbrev whole_tree : Plain
whole_tree = el (codes "y")
    (attr (codes "v") (codes "1 y") ∷ text (codes "t") ∷ el (codes "i") (attr (codes "w") (codes "u") ∷ [])
    ∷ leaf (codes "@k") (codes "1") ∷ leaf (codes "c") (codes "y") ∷ text (codes "9") ∷ [])

whole-is : shape_tree given whole ≡ whole_tree
whole-is = search (rules, the_lemmas)

pub constructed-whole : constructed (Elem whole) (given ∷ []) ≡ whole_tree ∷ []
constructed-whole = ap (λ tree. tree ∷ []) whole-is

-- `Nodes` gives a tree for each node, one row after the other, and a value gives none.
pub constructed-nodes : constructed (Nodes 0) (given ∷ (value (Some (codes "9")) ∷ []) ∷ (nodes (first_c ∷ []) ∷ []) ∷ [])
    ≡ leaf (codes "@k") (codes "1") ∷ leaf (codes "c") (codes "y") ∷ leaf (codes "c") (codes "x") ∷ []
constructed-nodes = refl
