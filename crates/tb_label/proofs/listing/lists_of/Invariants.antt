use Rattle.std.proofs.Common.{◌≡◌, ◌+◌, ◌++◌, drop, length, map}
use Rattle.tb_tree.specs.Extents.{named}
use Rattle.tb_tree.specs.declared.node_test.Test.{Test}
use Rattle.tb_label.specs.Lists.{in_lists}
use Rattle.tb_label.specs.Picked.{picked}
use Rattle.tb_label.proofs.listing.lists_of.Given as goal

-- what is listed, with what is left, makes the whole
abbrev pub invariant-extents : goal.invariant-extents
invariant-extents l = record {
  numbered : l.number ≡ 1 + l.extent-index;
  elements : l.lists.elements.names ≡ l.elements;
  attributes : l.lists.attributes.names ≡ l.attributes;
  element_lists : length l.lists.elements.lists.items ≡ length l.elements;
  attribute_lists : length l.lists.attributes.lists.items ≡ length l.attributes;
  listed :
      (t : Test)
      → in_lists l.lists t ++ picked t l.number (map (named l.elements l.attributes) (drop l.extent-index l.extents))
      ≡ picked t 1 (map (named l.elements l.attributes) l.extents);
}
