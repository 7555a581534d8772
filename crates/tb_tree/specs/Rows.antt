-- Rows of a table: what a plan makes step by step.
use Rattle.std.specs.Prelude.{ℕ, zero, suc, ◌==◌, Bool, true, false, ◌&&◌, List, [], ◌∷◌, Option, map}
use Rattle.std.specs.Option.{option_to_list}
use Rattle.tb_tree.specs.Numbers.{Numbered}
use Rattle.tb_tree.specs.Value.{value_of}

-- a node and the number of its document, from 0 in the order of the list of documents
pub record NodeIn : Type 0 where
  pub document : ℕ
  pub at : Numbered

-- a cell has nodes, or a value or none
pub data Cell : Type 0 where
  nodes : List NodeIn → Cell
  value : Option (List ℕ) → Cell

-- a cell a column
abbrev pub Row : Type 0
Row = List Cell

-- a table starts with one row and no column
abbrev pub first_rows : List Row
first_rows = [] ∷ []

-- the cell in a column, counted from 0
abbrev pub cell_at : ℕ → Row → Cell
cell_at n [] = nodes []
cell_at zero (c ∷ row) = c
cell_at (suc n) (c ∷ row) = cell_at n row

-- A cell with a value has no node.
abbrev pub nodes_of : Cell → List NodeIn
nodes_of (nodes us) = us
nodes_of (value v) = []

-- the values of the nodes, or the one value where there is one
abbrev pub values_of : Cell → List (List ℕ)
values_of (nodes us) = map (λ u. value_of u.at.node) us
values_of (value v) = option_to_list v

-- one node of one document
abbrev pub is_same : NodeIn → NodeIn → Bool
is_same u v = u.document == v.document && u.at.number == v.at.number

-- the same nodes one by one
abbrev pub are_same : List NodeIn → List NodeIn → Bool
are_same [] [] = true
are_same (u ∷ us) (v ∷ vs) = is_same u v && are_same us vs
are_same _ _ = false
