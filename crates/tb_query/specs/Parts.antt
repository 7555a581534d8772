-- What stands behind RETURN, as plain data.
use Rattle.std.specs.Prelude.{ℕ, List, [], ◌∷◌}
use Rattle.tb_query.specs.declared.back.AttrPart.{AttrPart}
use Rattle.tb_query.specs.declared.back.Content.{Content}
use Rattle.tb_query.specs.declared.back.Cons as cons
use Rattle.tb_query.specs.declared.back.Part as part
use Rattle.tb_query.specs.declared.back.Part.TheOpen.{Cons-F, Part-F}
use Rattle.tb_query.specs.declared.back.Back.{Back}
use Rattle.tb_query.specs.declared.back.Back.TheVariants.{Nodes, Cons}
use Rattle.tb_query.specs.declared.path.Path.{Path}

mutual
  -- a name, attributes and parts
  pub data PlainCons : Type 0 where
    element : List ℕ → List AttrPart → PlainParts → PlainCons

  -- parts in written order: constructors inside, strings, and operands
  pub data PlainParts : Type 0 where
    no_parts : PlainParts
    inner : PlainCons → PlainParts → PlainParts
    content : Content → PlainParts → PlainParts

-- one part
pub data PlainPart : Type 0 where
  constructor : PlainCons → PlainPart
  given : Content → PlainPart

-- a part, and those behind it
abbrev pub before : PlainPart → PlainParts → PlainParts
before (constructor c) rest = inner c rest
before (given c) rest = content c rest

-- parts given as a list
abbrev pub plain_parts : List PlainPart → PlainParts
plain_parts [] = no_parts
plain_parts (p ∷ ps) = before p (plain_parts ps)

-- one constructor whose parts are seen already, and one part whose constructor is
abbrev pub cons_step : Cons-F PlainPart PlainCons → PlainCons
cons_step c = element c.name c.attrs (plain_parts c.parts)

-- one part whose constructor is seen already
abbrev pub part_step : Part-F PlainPart PlainCons → PlainPart
part_step (Part-F.Cons c) = constructor c
part_step (Part-F.Content c) = given c

-- the plain constructor, and the plain part, that one of the program is
abbrev pub cons_of : cons.Cons → PlainCons
cons_of = cons.fold-Cons PlainPart PlainCons part_step cons_step

-- the plain part
abbrev pub part_of : part.Part → PlainPart
part_of = part.fold-Part PlainPart PlainCons part_step cons_step

-- the nodes of a path, or a constructor
pub data PlainBack : Type 0 where
  nodes_back : Path → PlainBack
  cons_back : PlainCons → PlainBack

-- the plain form of what stands behind RETURN
abbrev pub back_of : Back → PlainBack
back_of (Nodes path) = nodes_back path
back_of (Cons c) = cons_back (cons_of c)
