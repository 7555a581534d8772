use Rattle.std.proofs.Common.{◌≡◌, ◌++◌, drop}
use Rattle.tb_tree.specs.View.{plains_of}
use Rattle.tb_tree.specs.Printed.{content_lines}
use Rattle.tb_tree.specs.Written.{IsGrown}
use Rattle.tb_tree.proofs.printer.+printing.Given as goal

-- what is written, with what is left, makes the whole
abbrev pub invariant-push_content-kids : goal.invariant-push_content-kids
invariant-push_content-kids l = record {
  whole : l.out.items ++ content_lines (plains_of (drop l.kid-index l.kids)) ≡ l.initial.out.items ++ content_lines (plains_of l.kids);
  prefix : IsGrown l.initial.out.items l.out.items;
}
