-- The value of a node.
use Rattle.std.specs.Prelude.{ℕ, List, [], ◌++◌}
use Rattle.tb_tree.specs.Plain.{Plain, elem, attr, text, Plains, no_kids, kid}

-- all texts below, joined in document order
abbrev pub texts_below : Plains → List ℕ
texts_below no_kids = []
texts_below (kid (elem name kids) rest) = texts_below kids ++ texts_below rest
texts_below (kid (attr name value) rest) = texts_below rest
texts_below (kid (text value) rest) = value ++ texts_below rest

-- an attribute and a text have their own
abbrev pub value_of : Plain → List ℕ
value_of (elem name kids) = texts_below kids
value_of (attr name value) = value
value_of (text value) = value
