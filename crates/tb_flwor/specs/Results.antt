-- What the tree behind RETURN stands for, production by production.
use Rattle.std.specs.Prelude.{List, [], ◌∷◌}
use Rattle.tb_token.specs.grammar.Sentences.{Tree, pair, first, second}
use Rattle.tb_pattern.specs.Value.{bytes_in, inside}
use Rattle.tb_query.specs.Parts.{PlainCons, element, PlainParts, no_parts, inner, content, PlainBack, nodes_back, cons_back}
use Rattle.tb_query.specs.declared.back.AttrPart.{AttrPart}
use Rattle.tb_query.specs.declared.back.Content.{Content}
use Rattle.tb_query.specs.declared.back.Content.TheVariants.{Text, Operand}
use Rattle.tb_flwor.specs.Value.{BoundNames, path_of, operand_of}

-- "{" operand "}"
abbrev pub braced_of : BoundNames → Tree → Content
braced_of names (pair opening (pair o closing)) = Operand (operand_of names o)
braced_of names _ = Text []

-- STRING | "{" operand "}"
abbrev pub content_of : BoundNames → Tree → Content
content_of names (first string) = Text (inside (bytes_in string))
content_of names (second b) = braced_of names b
content_of names _ = Text []

-- NAME "=" ( STRING | "{" operand "}" )
abbrev pub attr_from : BoundNames → Tree → List AttrPart → List AttrPart
attr_from names (pair n (pair sign c)) behind =
    record { name = bytes_in n; from = content_of names c } ∷ behind
attr_from names _ behind = behind

-- { attr }
abbrev pub attrs_of : BoundNames → Tree → List AttrPart
attrs_of names (pair a rest) = attr_from names a (attrs_of names rest)
attrs_of names _ = []

abbrev mutual
  -- "<" and the rest of the constructor
  pub cons_in : BoundNames → Tree → PlainCons
  cons_in names (pair opening rest) = cons_behind names rest
  cons_in names _ = element [] [] no_parts

  -- NAME { attr } ( "/>" | ">" { piece } "</" NAME ">" )
  pub cons_behind : BoundNames → Tree → PlainCons
  cons_behind names (pair n (pair attrs (first closing))) =
      element (bytes_in n) (attrs_of names attrs) no_parts
  cons_behind names (pair n (pair attrs (second (pair opening (pair pieces closing))))) =
      element (bytes_in n) (attrs_of names attrs) (parts_in names pieces)
  cons_behind names _ = element [] [] no_parts

  -- { piece }
  pub parts_in : BoundNames → Tree → PlainParts
  parts_in names (pair p rest) = part_from names p (parts_in names rest)
  parts_in names _ = no_parts

  -- cons | STRING | "{" operand "}"
  pub part_from : BoundNames → Tree → PlainParts → PlainParts
  part_from names (first c) behind = inner (cons_in names c) behind
  part_from names (second c) behind = content (content_of names c) behind
  part_from names _ behind = behind

-- path | cons
abbrev pub back_in : BoundNames → Tree → PlainBack
back_in names (first p) = nodes_back (path_of names p)
back_in names (second c) = cons_back (cons_in names c)
back_in names _ = cons_back (element [] [] no_parts)
