-- When two rows of a table are the same.
use Rattle.std.specs.Prelude.{Bool, true, false, ◌&&◌, [], ◌∷◌}
use Rattle.tb_tree.specs.Rows.{Cell, nodes, value, Row, are_same}
use Rattle.tb_number.specs.Keys.{is_same_key}

-- the same nodes in one order, or equal values, or both no value
abbrev pub is_same_cell : Cell → Cell → Bool
is_same_cell (nodes us) (nodes vs) = are_same us vs
is_same_cell (value a) (value b) = is_same_key a b
is_same_cell _ _ = false

-- rows of as many cells, which are the same one by one
abbrev pub is_same_row : Row → Row → Bool
is_same_row [] [] = true
is_same_row (c ∷ row) (d ∷ other) = is_same_cell c d && is_same_row row other
is_same_row _ _ = false
