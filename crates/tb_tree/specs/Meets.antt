-- Which nodes a test is met by.
use Rattle.std.specs.Prelude.{Bool, true, false}
use Rattle.std.specs.Str.{bytes_eq}
use Rattle.tb_tree.specs.Plain.{Plain, elem, attr, text}
use Rattle.tb_tree.specs.declared.node_test.Test.{Test}
use Rattle.tb_tree.specs.declared.node_test.Test.TheVariants.{Name, AnyElement, AttrName, AnyAttr, AnyText}

-- elements of the name, all elements, attributes of the name, all attributes, all texts
abbrev pub meets : Test → Plain → Bool
meets (Name n) (elem name kids) = bytes_eq n name
meets AnyElement (elem name kids) = true
meets (AttrName n) (attr name value) = bytes_eq n name
meets AnyAttr (attr name value) = true
meets AnyText (text value) = true
meets _ _ = false
