-- The operators of what is returned, and the trees that its shape makes of a row.
use Rattle.std.proofs.Common.{◌≡◌, ℕ, ◌+◌, List, [], ◌∷◌, ◌++◌, map, refl, sym, ap, ◌∙◌, Option, Some, None, option_map, append-nil, rules}
use Rattle.std.specs.List.{flat_map, filter, join_with_byte}
use Rattle.std.specs.Option.{option_to_list}
use Rattle.std.proofs.lemmas.Simd.{map-map}
use Rattle.tb_tree.specs.Documents.{Docs}
use Rattle.tb_tree.specs.Numbers.{Numbered}
use Rattle.tb_tree.specs.Plain.{Plain, Plains, attr, text, plains, kid, joined_kids}
use Rattle.tb_tree.specs.Rows.{Cell, value, Row, cell_at, nodes_of}
use Rattle.tb_tree.specs.declared.shape.Shape.TheVariants as shapes
use Rattle.tb_tree.specs.declared.shape.ShapeElem.{ShapeElem, roll-ShapeElem, the_lemmas}
use Rattle.tb_tree.specs.declared.shape.ShapePart.{ShapePart, roll-ShapePart, fold-ShapePart}
use Rattle.tb_tree.specs.declared.shape.ShapePart.TheOpen.{ShapePart-F}
use Rattle.tb_tree.specs.declared.shape.ShapeAttr.{ShapeAttr}
use Rattle.tb_tree.proofs.JoinedLaws.{plains-append}
use Rattle.tb_query.specs.Lists.{all_given}
use Rattle.tb_query.specs.Operands.{values, aggregate, operand_values}
use Rattle.tb_query.specs.Operators.{values_at}
use Rattle.tb_query.specs.Parts.{PlainCons, element, PlainParts, no_parts, inner, content, PlainBack, nodes_back, cons_back}
use Rattle.tb_query.specs.Results.{given_tree, is_result, given_trees, made, attribute_value, attribute_given, operand_given, content_given, element_given, parts_given, group_trees}
use Rattle.tb_query.specs.Shapes.{cell_trees, cell_given, shape_value, shape_given, part_step, elem_step, shape_tree, constructed}
use Rattle.tb_query.specs.declared.operand.Operand.{Operand}
use Rattle.tb_query.specs.declared.operand.Operand.TheVariants as operand
use Rattle.tb_query.specs.declared.back.AttrPart.{AttrPart}
use Rattle.tb_query.specs.declared.back.Content as contents
use Rattle.tb_query.specs.declared.back.Content.TheVariants as of_content
use Rattle.tb_query.specs.declared.path.Path.{Path}
use Rattle.tb_tlc.specs.Planned.{Scope, operand_ops, operand_width, operand_column}
use Rattle.tb_tlc.specs.Returned.{content_ops, content_width, content_shape, attrs_ops, attrs_width, attrs_shape, cons_ops, cons_width, cons_shape, parts_ops, parts_width, parts_shape, back_ops, back_shape}
use Rattle.tb_tlc.proofs.RowLaws.{rows_after}
use Rattle.tb_tlc.proofs.CellLaws.{in_doc}
use Rattle.tb_tlc.proofs.TakesLaws.{Takes, takes-none, takes-map, takes-is, takes-read, takes-both}
use Rattle.tb_tlc.proofs.ServedLaws.{Serves, serves-more, path_cell, operand_cells, operand_cell, takes-path, takes-operand, takes-values}

trees-in : (document : ℕ) (us : List Numbered) → cell_trees (map (in_doc document) us) ≡ given_trees us
trees-in document us = ap (filter is_result) (map-map (λ u. given_tree u.at.node) (in_doc document) us)

-- the trees of a part in a row
abbrev part_trees : Row → ShapePart → List Plain
part_trees row = fold-ShapePart (List Plain) Plain (part_step row) (elem_step row)

elem-is : (row : Row) (name : List ℕ) (attrs : List ShapeAttr) (parts : List ShapePart)
    → shape_tree row (roll-ShapeElem (record { name = name; attrs = attrs; parts = parts }))
    ≡ made name (map (λ a. attr a.name (shape_value row a.from)) attrs) (plains (flat_map (λ ts. ts) (map (part_trees row) parts)))
elem-is row name attrs parts = search (rules, the_lemmas)

part-is : (row : Row) (e : ShapeElem) → part_trees row (roll-ShapePart (ShapePart-F.Elem e)) ≡ shape_tree row e ∷ []
part-is row e = search (rules, the_lemmas)

content-is : (row : Row) (c : _) → part_trees row (roll-ShapePart (ShapePart-F.Content c)) ≡ shape_given row c
content-is row c = search (rules, the_lemmas)

module _ (docs : Docs) (s : Scope) (at : Path → ℕ) (given : Path → List Numbered) where
  abbrev pub content_cells : contents.Content → List Cell
  content_cells (of_content.Text bytes) = []
  content_cells (of_content.Operand o) = operand_cells docs s at given o

  -- the value of an attribute is read in its column
  takes-value : (n : ℕ) (row : Row) (c : contents.Content) → Serves docs s n at given row
      → Takes docs row (content_ops s n c) (content_width c) (content_cells c) (attribute_value given c) (λ r. shape_value r (content_shape n c))
  takes-value n row (of_content.Text bytes) serves = takes-none docs row bytes
  takes-value n row (of_content.Operand o) serves =
      takes-map docs (join_with_byte 32) row (operand_ops s n o) (operand_width o) (operand_cells docs s at given o) (operand_values given o) (values_at (operand_column n o)) (takes-values docs s at given n row o serves)

  given-taken : (o : Operand) → option_map cell_given (operand_cell docs s at given o) ≡ operand_given given o
  given-taken (operand.Nodes path) = ap Some (trees-in (at path) (given path))
  given-taken (operand.Agg kind path) = by (aggregate kind (values (given path)))
    where
      by : (a : Option (Option (List ℕ))) → option_map cell_given (option_map value a) ≡ option_map (λ v. map text (option_to_list v)) a
      by None = refl
      by (Some v) = refl

  -- and what stands inside a constructor
  takes-content : (n : ℕ) (row : Row) (c : contents.Content) → Serves docs s n at given row
      → Takes docs row (content_ops s n c) (content_width c) (content_cells c) (content_given given c) (λ r. shape_given r (content_shape n c))
  takes-content n row (of_content.Text bytes) serves = takes-none docs row (text bytes ∷ [])
  takes-content n row (of_content.Operand o) serves =
      takes-is docs row (operand_ops s n o) (operand_width o) (operand_cells docs s at given o) (option_map cell_given (operand_cell docs s at given o)) (operand_given given o) (λ r. cell_given (cell_at (operand_column n o) r))
      (given-taken o)
      (takes-map docs cell_given row (operand_ops s n o) (operand_width o) (operand_cells docs s at given o) (operand_cell docs s at given o) (cell_at (operand_column n o)) (takes-operand docs s at given n row o serves))

  abbrev pub attrs_cells : List AttrPart → List Cell
  attrs_cells [] = []
  attrs_cells (a ∷ attrs) = content_cells a.from ++ attrs_cells attrs

  takes-attrs : (n : ℕ) (row : Row) (attrs : List AttrPart) → Serves docs s n at given row
      → Takes docs row (attrs_ops s n attrs) (attrs_width attrs) (attrs_cells attrs) (all_given (attribute_given given) attrs) (λ r. map (λ a. attr a.name (shape_value r a.from)) (attrs_shape n attrs))
  takes-attrs n row [] serves = takes-none docs row []
  takes-attrs n row (a ∷ attrs) serves =
      let w = content_width a.from in
      let cells = content_cells a.from in
      let one = takes-value n row a.from serves in
      takes-both docs (λ t ts. t ∷ ts) row (content_ops s n a.from) (attrs_ops s (n + w) attrs) w (attrs_width attrs) cells (attrs_cells attrs)
      (attribute_given given a) (all_given (attribute_given given) attrs) (λ r. attr a.name (shape_value r (content_shape n a.from))) (λ r. map (λ b. attr b.name (shape_value r b.from)) (attrs_shape (n + w) attrs))
      (takes-map docs (attr a.name) row (content_ops s n a.from) w cells (attribute_value given a.from) (λ r. shape_value r (content_shape n a.from)) one)
      (takes-attrs (n + w) (row ++ cells) attrs (serves-more docs s n w at given row cells serves one.wide))

  abbrev mutual
    pub cons_cells : PlainCons → List Cell
    cons_cells (element name attrs parts) = attrs_cells attrs ++ parts_cells parts

    pub parts_cells : PlainParts → List Cell
    parts_cells no_parts = []
    parts_cells (inner c rest) = cons_cells c ++ parts_cells rest
    parts_cells (content c rest) = content_cells c ++ parts_cells rest

  abbrev kids_of_shape : Row → List ShapePart → Plains
  kids_of_shape r parts = plains (flat_map (λ ts. ts) (map (part_trees r) parts))

  -- a constructor, by its attributes and its parts
  takes-made : (n : ℕ) (row : Row) (name : List ℕ) (attrs : List AttrPart) (parts : PlainParts) → Serves docs s n at given row
      → ((m : ℕ) (r : Row) → Serves docs s m at given r → Takes docs r (parts_ops s m parts) (parts_width parts) (parts_cells parts) (parts_given given parts) (λ x. kids_of_shape x (parts_shape m parts)))
      → Takes docs row (cons_ops s n (element name attrs parts)) (cons_width (element name attrs parts)) (cons_cells (element name attrs parts)) (element_given given (element name attrs parts))
      (λ r. shape_tree r (cons_shape n (element name attrs parts)))
  takes-made n row name attrs parts serves inside =
      let w = attrs_width attrs in
      let cells = attrs_cells attrs in
      let one = takes-attrs n row attrs serves in
      let c = element name attrs parts in
      takes-read docs row (cons_ops s n c) (cons_width c) (cons_cells c) (element_given given c)
      (λ r. made name (map (λ a. attr a.name (shape_value r a.from)) (attrs_shape n attrs)) (kids_of_shape r (parts_shape (n + w) parts)))
      (λ r. shape_tree r (cons_shape n c))
      (λ r. elem-is r name (attrs_shape n attrs) (parts_shape (n + w) parts))
      (takes-both docs (made name) row (attrs_ops s n attrs) (parts_ops s (n + w) parts) w (parts_width parts) cells (parts_cells parts)
      (all_given (attribute_given given) attrs) (parts_given given parts) (λ r. map (λ a. attr a.name (shape_value r a.from)) (attrs_shape n attrs)) (λ r. kids_of_shape r (parts_shape (n + w) parts))
      one (inside (n + w) (row ++ cells) (serves-more docs s n w at given row cells serves one.wide)))

  takes-parts : (parts : PlainParts) (n : ℕ) (row : Row) → Serves docs s n at given row
      → Takes docs row (parts_ops s n parts) (parts_width parts) (parts_cells parts) (parts_given given parts) (λ r. kids_of_shape r (parts_shape n parts))
  takes-parts no_parts n row serves = takes-none docs row (plains [])
  takes-parts (inner (element name attrs parts) rest) n row serves =
      let c = element name attrs parts in
      let w = cons_width c in
      let one = takes-made n row name attrs parts serves (λ m r served. takes-parts parts m r served) in
      takes-read docs row (parts_ops s n (inner c rest)) (parts_width (inner c rest)) (parts_cells (inner c rest)) (parts_given given (inner c rest))
      (λ r. kid (shape_tree r (cons_shape n c)) (kids_of_shape r (parts_shape (n + w) rest)))
      (λ r. kids_of_shape r (parts_shape n (inner c rest)))
      (λ r. ap (λ ts. plains (ts ++ flat_map (λ ts. ts) (map (part_trees r) (parts_shape (n + w) rest)))) (part-is r (cons_shape n c)))
      (takes-both docs kid row (cons_ops s n c) (parts_ops s (n + w) rest) w (parts_width rest) (cons_cells c) (parts_cells rest)
      (element_given given c) (parts_given given rest) (λ r. shape_tree r (cons_shape n c)) (λ r. kids_of_shape r (parts_shape (n + w) rest))
      one (takes-parts rest (n + w) (row ++ cons_cells c) (serves-more docs s n w at given row (cons_cells c) serves one.wide)))
  takes-parts (content c rest) n row serves =
      let w = content_width c in
      let one = takes-content n row c serves in
      takes-read docs row (parts_ops s n (content c rest)) (parts_width (content c rest)) (parts_cells (content c rest)) (parts_given given (content c rest))
      (λ r. joined_kids (plains (shape_given r (content_shape n c))) (kids_of_shape r (parts_shape (n + w) rest)))
      (λ r. kids_of_shape r (parts_shape n (content c rest)))
      (λ r. ap (λ ts. plains (ts ++ flat_map (λ ts. ts) (map (part_trees r) (parts_shape (n + w) rest)))) (content-is r (content_shape n c))
      ∙ plains-append (shape_given r (content_shape n c)) (flat_map (λ ts. ts) (map (part_trees r) (parts_shape (n + w) rest))))
      (takes-both docs (λ ts ks. joined_kids (plains ts) ks) row (content_ops s n c) (parts_ops s (n + w) rest) w (parts_width rest) (content_cells c) (parts_cells rest)
      (content_given given c) (parts_given given rest) (λ r. shape_given r (content_shape n c)) (λ r. kids_of_shape r (parts_shape (n + w) rest))
      one (takes-parts rest (n + w) (row ++ content_cells c) (serves-more docs s n w at given row (content_cells c) serves one.wide)))

  made-one : (row : Row) (cells : List Cell) (shape : ShapeElem) (o : Option Plain) → ((tree : Plain) → o ≡ Some tree → shape_tree (row ++ cells) shape ≡ tree)
      → option_map (constructed (shapes.Elem shape)) (option_map (λ x. (row ++ cells) ∷ []) o) ≡ option_map (λ tree. tree ∷ []) o
  made-one row cells shape None says = refl
  made-one row cells shape (Some tree) says = ap (λ t. Some (t ∷ [])) (says tree refl)

  -- The trees of a row that serves are those that its paths give.
  pub back-one : (n : ℕ) (row : Row) (back : PlainBack) → Serves docs s n at given row
      → option_map (constructed (back_shape n back)) (rows_after docs (back_ops s n back) (row ∷ [])) ≡ group_trees back given
  back-one n row (nodes_back path) serves =
      let t = takes-path docs s at given n row path serves in
      ap (option_map (constructed (shapes.Nodes n))) t.run
      ∙ ap (λ c. Some (cell_trees (nodes_of c) ++ [])) (t.shows (path_cell docs s at given path) refl [])
      ∙ ap Some (append-nil (cell_trees (map (in_doc (at path)) (given path))) ∙ trees-in (at path) (given path))
  back-one n row (cons_back (element name attrs parts)) serves =
      let c = element name attrs parts in
      let t = takes-made n row name attrs parts serves (λ m r served. takes-parts parts m r served) in
      ap (option_map (constructed (shapes.Elem (cons_shape n c)))) t.run
      ∙ made-one row (cons_cells c) (cons_shape n c) (element_given given c)
      (λ tree is. ap (λ l. shape_tree (row ++ l) (cons_shape n c)) (sym (append-nil (cons_cells c))) ∙ t.shows tree is [])
