use Rattle.std.proofs.Common.{ℕ, List, ◌≤◌, drop, length}
use Rattle.tb_tree.specs.Rows.{values_of}
use Rattle.tb_table.specs.declared.cell.Cell.TheVariants.{Nodes}
use Rattle.tb_table.specs.Documents.{docs_of}
use Rattle.tb_table.specs.Seen.{cell_seen}
use Rattle.tb_group.specs.Extremes.{Keeps}
use Rattle.tb_group.proofs.extreme.keep_nodes.Given as goal

-- what the nodes that are left keep, all nodes keep from the start on
abbrev pub invariant-nodes : goal.invariant-nodes
invariant-nodes l = record {
  kept : (new : List ℕ) → Keeps l.op l.first (values_of (cell_seen (docs_of l.docs) (Nodes (drop l.node-index l.nodes)))) l.bytes.items new
      → Keeps l.op l.first (values_of (cell_seen (docs_of l.docs) (Nodes l.nodes))) l.initial.bytes.items new;
  within : l.first ≤ length l.bytes.items;
}
