-- The operator that adds a column of nodes.
use Rattle.std.specs.Prelude.{ℕ, ◌+◌, if◌then◌else◌, List, [], ◌∷◌, ◌++◌, map, flat_map}
use Rattle.std.specs.Str.{bytes_eq}
use Rattle.tb_pattern.specs.declared.pattern.Mark.{Mark}
use Rattle.tb_pattern.specs.declared.pattern.Mark.TheVariants.{One, Optional, Some, Any}
use Rattle.tb_query.specs.Lists.{each_once}
use Rattle.tb_query.specs.Nodes.{From, document_node, node_at, nodes_from}
use Rattle.tb_tree.specs.Documents.{Docs}
use Rattle.tb_tree.specs.Rows.{NodeIn, Cell, nodes, Row, cell_at, nodes_of, is_same}
use Rattle.tb_query.specs.declared.path.Step.{Step}

-- a column starts at the document of a name, or at the nodes of another column
pub data ColumnFrom : Type 0 where
  of_document : List ℕ → ColumnFrom
  of_column : ℕ → ColumnFrom

-- the nodes that the steps lead to from a start in the document of this number
abbrev pub stepped : List Step → ℕ → From → List NodeIn
stepped steps document from =
    map (λ u. record { document = document; at = u }) (nodes_from steps from)

-- those from the document node of the name; documents are counted from n
abbrev pub from_document : List Step → List ℕ → ℕ → Docs → List NodeIn
from_document steps name n [] = []
from_document steps name n (d ∷ docs) =
    if bytes_eq name d.0 then stepped steps n (document_node d.1)
    else from_document steps name (n + 1) docs

-- those from each node of a cell, one after the other, each once at its first place
abbrev pub from_cell : List Step → Cell → List NodeIn
from_cell steps cell =
    each_once is_same
    (flat_map (λ u. stepped steps u.document (node_at u.at)) (nodes_of cell))

-- the nodes of a new column for a row
abbrev pub column_nodes : Docs → ColumnFrom → List Step → Row → List NodeIn
column_nodes docs (of_document name) steps row = from_document steps name 0 docs
column_nodes docs (of_column n) steps row = from_cell steps (cell_at n row)

-- the lists of nodes that a mark makes of nodes: a row gets one cell more for each of them
abbrev pub each_node : List NodeIn → List (List NodeIn)
each_node us = map (λ u. u ∷ []) us

-- `-` each alone; `?` each alone, or none; `+` all together, where there is one; `*` all together
abbrev pub marked : Mark → List NodeIn → List (List NodeIn)
marked One us = each_node us
marked Optional [] = [] ∷ []
marked Optional (u ∷ us) = each_node (u ∷ us)
marked Some [] = []
marked Some (u ∷ us) = (u ∷ us) ∷ []
marked Any us = us ∷ []

-- each row with one cell more, for each of the lists
abbrev pub selected : Docs → ColumnFrom → List Step → Mark → List Row → List Row
selected docs from steps mark rows =
    flat_map
    (λ row. map (λ us. row ++ nodes us ∷ []) (marked mark (column_nodes docs from steps row))) rows
