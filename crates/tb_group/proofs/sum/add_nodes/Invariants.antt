use Rattle.std.proofs.Common.{◌≡◌, drop}
use Rattle.tb_tree.specs.Rows.{values_of}
use Rattle.tb_number.specs.Range.{sum_from}
use Rattle.tb_query.specs.Operands.{numbers_of}
use Rattle.tb_table.specs.declared.cell.Cell.TheVariants.{Nodes}
use Rattle.tb_table.specs.Documents.{docs_of}
use Rattle.tb_table.specs.Seen.{cell_seen}
use Rattle.tb_group.proofs.sum.add_nodes.Given as goal

-- the sum so far with the numbers that are left is that of all
abbrev pub invariant-nodes : goal.invariant-nodes
invariant-nodes l = record {
  left : sum_from l.sum (numbers_of (values_of (cell_seen (docs_of l.docs) (Nodes (drop l.node-index l.nodes)))))
      ≡ sum_from l.initial.sum (numbers_of (values_of (cell_seen (docs_of l.docs) (Nodes l.nodes))));
}
