-- The trees that a group gives.
use Rattle.std.specs.Prelude.{ℕ, Bool, true, false, List, [], ◌∷◌, Option, Some, option_map, option_and_then, filter, map}
use Rattle.std.specs.List.{join_with_byte}
use Rattle.std.specs.Option.{option_to_list}
use Rattle.tb_tree.specs.Plain.{Plain, elem, attr, text, Plains, no_kids, kid, plains, joined_kids}
use Rattle.tb_tree.specs.Numbers.{Numbered}
use Rattle.tb_pattern.specs.WitnessTree.{texts_joined}
use Rattle.tb_query.specs.Operands.{values, aggregate, operand_values}
use Rattle.tb_query.specs.Parts.{PlainCons, element, PlainParts, no_parts, inner, content, PlainBack, nodes_back, cons_back}
use Rattle.tb_query.specs.Lists.{all_given}
use Rattle.tb_query.specs.declared.path.Path.{Path}
use Rattle.tb_query.specs.declared.operand.Operand as operand
use Rattle.tb_query.specs.declared.operand.Operand.TheVariants as operands
use Rattle.tb_query.specs.declared.back.AttrPart.{AttrPart}
use Rattle.tb_query.specs.declared.back.Content as contents
use Rattle.tb_query.specs.declared.back.Content.TheVariants.{Text, Operand}

-- The tree that a node gives: an element and a text itself, and an attribute an element named `@`
-- and its name, with its value as text.
abbrev pub given_tree : Plain → Plain
given_tree (elem name kids) = elem name kids
given_tree (attr name value) = elem (64 ∷ name) (texts_joined (kid (text value) no_kids))
given_tree (text value) = text value

-- an element, or a text that isn't empty
abbrev pub is_result : Plain → Bool
is_result (elem name kids) = true
is_result (attr name value) = false
is_result (text []) = false
is_result (text (b ∷ bs)) = true

-- the trees of nodes, one each; an empty text gives none
abbrev pub given_trees : List Numbered → List Plain
given_trees nodes = filter is_result (map (λ u. given_tree u.node) nodes)

-- the value of an attribute: a string, or the values of an operand joined by one space
abbrev pub attribute_value : (Path → List Numbered) → contents.Content → Option (List ℕ)
attribute_value nodes (Text bytes) = Some bytes
attribute_value nodes (Operand o) = option_map (join_with_byte 32) (operand_values nodes o)

-- an attribute with its value
abbrev pub attribute_given : (Path → List Numbered) → AttrPart → Option Plain
attribute_given nodes a = option_map (attr a.name) (attribute_value nodes a.from)

-- the nodes of a path, whole, or the value of an aggregate as text, or nothing
abbrev pub operand_given : (Path → List Numbered) → operand.Operand → Option (List Plain)
operand_given nodes (operands.Nodes path) = Some (given_trees (nodes path))
operand_given nodes (operands.Agg kind path) =
    option_map (λ v. map text (option_to_list v)) (aggregate kind (values (nodes path)))

-- what stands inside a constructor for a string, which gives text, or for an operand
abbrev pub content_given : (Path → List Numbered) → contents.Content → Option (List Plain)
content_given nodes (Text bytes) = Some (text bytes ∷ [])
content_given nodes (Operand o) = operand_given nodes o

-- An element of the name: the attributes come first, then what its parts give, where texts side by
-- side join and an empty text vanishes.
abbrev pub made : List ℕ → List Plain → Plains → Plain
made name attributes kids = elem name (joined_kids (plains attributes) (texts_joined kids))

abbrev mutual
  -- the element that a constructor gives, where each path has these nodes
  pub element_given : (Path → List Numbered) → PlainCons → Option Plain
  element_given nodes (element name attrs parts) =
      option_and_then (λ attributes. option_map (made name attributes) (parts_given nodes parts))
      (all_given (attribute_given nodes) attrs)

  -- what the parts give, one after the other
  pub parts_given : (Path → List Numbered) → PlainParts → Option Plains
  parts_given nodes no_parts = Some no_kids
  parts_given nodes (inner c rest) =
      option_and_then (λ tree. option_map (kid tree) (parts_given nodes rest))
      (element_given nodes c)
  parts_given nodes (content c rest) =
      option_and_then (λ trees. option_map (joined_kids (plains trees)) (parts_given nodes rest))
      (content_given nodes c)

-- the trees of a group: one for each node of the path, or the element of the constructor
abbrev pub group_trees : PlainBack → (Path → List Numbered) → Option (List Plain)
group_trees (nodes_back path) nodes = Some (given_trees (nodes path))
group_trees (cons_back c) nodes = option_map (λ tree. tree ∷ []) (element_given nodes c)
