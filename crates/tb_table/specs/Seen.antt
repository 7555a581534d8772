-- The rows of a table as the meaning of plans has them, where each node is looked up by its number.
use Rattle.std.specs.Prelude.{ℕ, ◌≤◌, ◌<◌, List, [], ◌∷◌, Option, Some, None, map, length, get_or, All}
use Rattle.tb_tree.specs.Plain.{Plain, text}
use Rattle.tb_tree.specs.Numbers.{count}
use Rattle.tb_tree.specs.Nodes.{node_at}
use Rattle.tb_tree.specs.Documents.{Docs}
use Rattle.tb_tree.specs.Value.{value_of}
use Rattle.tb_tree.specs.Rows as plain
use Rattle.tb_table.specs.declared.node_ref.NodeRef.{NodeRef}
use Rattle.tb_table.specs.declared.cell.Cell.{Cell}
use Rattle.tb_table.specs.declared.cell.Cell.TheVariants.{Nodes, Value}

-- the root of the document of a number
abbrev pub root_at : Docs → ℕ → Plain
root_at docs document = get_or (map (λ d. d.1) docs) document (text [])

abbrev pub node_seen : Docs → NodeRef → plain.NodeIn
node_seen docs u = record {
  document = u.document;
  at = record { number = u.node; node = node_at (root_at docs u.document) u.node };
}

abbrev pub cell_seen : Docs → Cell → plain.Cell
cell_seen docs (Nodes us) = plain.nodes (map (node_seen docs) us)
cell_seen docs (Value v) = plain.value v

abbrev pub row_seen : Docs → List Cell → plain.Row
row_seen docs row = map (cell_seen docs) row

abbrev pub rows_seen : Docs → List (List Cell) → List plain.Row
rows_seen docs rows = map (row_seen docs) rows

-- a node of one of these documents
pub record IsNode (docs : Docs) (u : NodeRef) : Type 0 where
  pub document : u.document < length docs
  pub some : 1 ≤ u.node
  pub within : u.node ≤ count (root_at docs u.document)

-- a cell has nodes of these documents alone
abbrev pub IsOver : Docs → Cell → Type 0
IsOver docs (Nodes us) = All (IsNode docs) us
IsOver docs (Value v) = Unit {0}

abbrev pub AreOver : Docs → List (List Cell) → Type 0
AreOver docs rows = All (All (IsOver docs)) rows

-- the value of a cell that counts as its key: that of its first node, or its value, or none
abbrev pub first_value : plain.Cell → Option (List ℕ)
first_value (plain.nodes []) = None
first_value (plain.nodes (u ∷ us)) = Some (value_of u.at.node)
first_value (plain.value v) = v
