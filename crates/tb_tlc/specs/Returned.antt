-- The plan of what a query returns: the operators that it needs, and the shape of its trees.
use Rattle.std.specs.Prelude.{ℕ, ◌+◌, List, [], ◌∷◌, ◌++◌}
use Rattle.tb_tree.specs.declared.shape.Shape.{Shape}
use Rattle.tb_tree.specs.declared.shape.Shape.TheVariants as shape
use Rattle.tb_tree.specs.declared.shape.ShapeElem.{ShapeElem, roll-ShapeElem}
use Rattle.tb_tree.specs.declared.shape.ShapePart.{ShapePart, roll-ShapePart}
use Rattle.tb_tree.specs.declared.shape.ShapePart.TheOpen.{ShapePart-F}
use Rattle.tb_tree.specs.declared.shape.ShapeAttr.{ShapeAttr}
use Rattle.tb_tree.specs.declared.shape.ShapeContent.{ShapeContent}
use Rattle.tb_tree.specs.declared.shape.ShapeContent.TheVariants as made
use Rattle.tb_pattern.specs.declared.pattern.Mark.TheVariants as mark
use Rattle.tb_query.specs.Parts.{PlainCons, element, PlainParts, no_parts, inner, content, PlainPart, constructor, given, PlainBack, nodes_back, cons_back, back_of}
use Rattle.tb_query.specs.declared.back.AttrPart.{AttrPart}
use Rattle.tb_query.specs.declared.back.Content.{Content}
use Rattle.tb_query.specs.declared.back.Content.TheVariants.{Text, Operand}
use Rattle.tb_query.specs.declared.query.Flwor.{Flwor}
use Rattle.tb_tlc.specs.declared.plan.Op.{Op}
use Rattle.tb_tlc.specs.declared.plan.Op.TheVariants.{Construct}
use Rattle.tb_tlc.specs.Ties.{ties, lets_after}
use Rattle.tb_tlc.specs.Planned.{Scope, Draft, path_op, operand_ops, operand_width, operand_column, first_draft, with_clauses, with_conds, with_group, with_keys}

-- a string, or an operand with its column
abbrev pub content_ops : Scope → ℕ → Content → List Op
content_ops s next (Text bytes) = []
content_ops s next (Operand o) = operand_ops s next o

abbrev pub content_width : Content → ℕ
content_width (Text bytes) = 0
content_width (Operand o) = operand_width o

abbrev pub content_shape : ℕ → Content → ShapeContent
content_shape next (Text bytes) = made.Text bytes
content_shape next (Operand o) = made.Column (operand_column next o)

-- attributes, one after the other
abbrev pub attrs_ops : Scope → ℕ → List AttrPart → List Op
attrs_ops s next [] = []
attrs_ops s next (a ∷ attrs) = content_ops s next a.from ++ attrs_ops s (next + content_width a.from) attrs

abbrev pub attrs_width : List AttrPart → ℕ
attrs_width [] = 0
attrs_width (a ∷ attrs) = content_width a.from + attrs_width attrs

abbrev pub attrs_shape : ℕ → List AttrPart → List ShapeAttr
attrs_shape next [] = []
attrs_shape next (a ∷ attrs) =
    record { name = a.name; from = content_shape next a.from } ∷ attrs_shape (next + content_width a.from) attrs

-- a constructor's attributes stand before its parts
abbrev mutual
  pub cons_width : PlainCons → ℕ
  cons_width (element name attrs parts) = attrs_width attrs + parts_width parts

  pub parts_width : PlainParts → ℕ
  parts_width no_parts = 0
  parts_width (inner c rest) = cons_width c + parts_width rest
  parts_width (content c rest) = content_width c + parts_width rest

abbrev mutual
  pub cons_ops : Scope → ℕ → PlainCons → List Op
  cons_ops s next (element name attrs parts) = attrs_ops s next attrs ++ parts_ops s (next + attrs_width attrs) parts

  pub parts_ops : Scope → ℕ → PlainParts → List Op
  parts_ops s next no_parts = []
  parts_ops s next (inner c rest) = cons_ops s next c ++ parts_ops s (next + cons_width c) rest
  parts_ops s next (content c rest) = content_ops s next c ++ parts_ops s (next + content_width c) rest

abbrev mutual
  pub cons_shape : ℕ → PlainCons → ShapeElem
  cons_shape next (element name attrs parts) =
      roll-ShapeElem (record { name = name; attrs = attrs_shape next attrs; parts = parts_shape (next + attrs_width attrs) parts })

  pub parts_shape : ℕ → PlainParts → List ShapePart
  parts_shape next no_parts = []
  parts_shape next (inner c rest) = roll-ShapePart (ShapePart-F.Elem (cons_shape next c)) ∷ parts_shape (next + cons_width c) rest
  parts_shape next (content c rest) =
      roll-ShapePart (ShapePart-F.Content (content_shape next c)) ∷ parts_shape (next + content_width c) rest

-- one part alone
abbrev pub part_width : PlainPart → ℕ
part_width (constructor c) = cons_width c
part_width (given c) = content_width c

abbrev pub part_ops : Scope → ℕ → PlainPart → List Op
part_ops s next (constructor c) = cons_ops s next c
part_ops s next (given c) = content_ops s next c

abbrev pub part_shape : ℕ → PlainPart → ShapePart
part_shape next (constructor c) = roll-ShapePart (ShapePart-F.Elem (cons_shape next c))
part_shape next (given c) = roll-ShapePart (ShapePart-F.Content (content_shape next c))

-- the nodes of a path, in a column, or an element
abbrev pub back_ops : Scope → ℕ → PlainBack → List Op
back_ops s next (nodes_back path) = path_op s next mark.Any path ∷ []
back_ops s next (cons_back c) = cons_ops s next c

abbrev pub back_width : PlainBack → ℕ
back_width (nodes_back path) = 1
back_width (cons_back c) = cons_width c

abbrev pub back_shape : ℕ → PlainBack → Shape
back_shape next (nodes_back path) = shape.Nodes next
back_shape next (cons_back c) = shape.Elem (cons_shape next c)

-- the operators of a draft, those of what is returned, and the trees
abbrev pub planned : Draft → PlainBack → List Op
planned d back = d.ops ++ (back_ops d.scope d.next back ++ Construct (back_shape d.next back) ∷ [])

-- clauses, conditions, group, order, results
abbrev pub draft_of : Flwor → Draft
draft_of q =
    with_keys (with_group (with_conds (with_clauses (ties (lets_after [] q.clauses) q.conds) first_draft q.clauses) q.conds) q.group) q.keys

abbrev pub planned_flwor : Flwor → List Op
planned_flwor q = planned (draft_of q) (back_of q.back)
