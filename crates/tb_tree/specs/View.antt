-- The plain tree that a node of the program is.
use Rattle.std.specs.Prelude.{List, map}
use Rattle.tb_tree.specs.Plain.{Plain, elem, attr, text, Plains, plains}
use Rattle.tb_tree.specs.declared.node.Node.{Node, fold-Node}
use Rattle.tb_tree.specs.declared.node.Node.TheOpen.{Node-F}

-- one node, whose kids are seen already
abbrev pub plain_step : Node-F Plain → Plain
plain_step (Node-F.Elem name kids) = elem name (plains kids)
plain_step (Node-F.Attr name value) = attr name value
plain_step (Node-F.Text value) = text value

abbrev pub plain_of : Node → Plain
plain_of = fold-Node Plain plain_step

abbrev pub plains_of : List Node → Plains
plains_of nodes = plains (map plain_of nodes)
