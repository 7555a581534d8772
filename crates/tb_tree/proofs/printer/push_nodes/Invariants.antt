use Rattle.std.proofs.Common.{◌≡◌, ◌++◌, drop}
use Rattle.tb_tree.specs.View.{plains_of}
use Rattle.tb_tree.specs.Printed.{printed}
use Rattle.tb_tree.specs.Written.{IsGrown}
use Rattle.tb_tree.proofs.printer.push_nodes.Given as goal

-- what is written, with what is left, makes the whole
abbrev pub invariant-nodes : goal.invariant-nodes
invariant-nodes l = record {
  whole : l.out.items ++ printed (plains_of (drop l.node-index l.nodes)) ≡ l.initial.out.items ++ printed (plains_of l.nodes);
  prefix : IsGrown l.initial.out.items l.out.items;
}
