use Rattle.std.proofs.Common.{◌≡◌, ◌++◌, drop}
use Rattle.tb_tree.specs.View.{plains_of}
use Rattle.tb_tree.specs.Printed.{attribute_lines}
use Rattle.tb_tree.specs.Written.{IsGrown}
use Rattle.tb_tree.proofs.printer.push_attributes.Given as goal

-- what is written, with what is left, makes the whole
abbrev pub invariant-kids : goal.invariant-kids
invariant-kids l = record {
  whole : l.out.items ++ attribute_lines (plains_of (drop l.kid-index l.kids)) ≡ l.initial.out.items ++ attribute_lines (plains_of l.kids);
  prefix : IsGrown l.initial.out.items l.out.items;
}
