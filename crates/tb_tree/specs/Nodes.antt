-- The nodes of a document in document order.
use Rattle.std.specs.Prelude.{ℕ, ◌+◌, ◌-◌, List, [], ◌∷◌, ◌++◌, slice_index_or}
use Rattle.tb_tree.specs.Plain.{Plain, elem, attr, text, Plains, no_kids, kid, one}

-- the nodes and all that is below them, in document order
abbrev pub nodes_of : Plains → List Plain
nodes_of no_kids = []
nodes_of (kid (elem name kids) rest) = elem name kids ∷ (nodes_of kids ++ nodes_of rest)
nodes_of (kid (attr name value) rest) = attr name value ∷ nodes_of rest
nodes_of (kid (text value) rest) = text value ∷ nodes_of rest

-- the level of each of them, where those that stand beside the first have its level
abbrev pub depths : ℕ → Plains → List ℕ
depths level no_kids = []
depths level (kid (elem name kids) rest) = level ∷ (depths (level + 1) kids ++ depths level rest)
depths level (kid (attr name value) rest) = level ∷ depths level rest
depths level (kid (text value) rest) = level ∷ depths level rest

-- the level of the n-th node: the root has 1
abbrev pub level_at : Plain → ℕ → ℕ
level_at root n = slice_index_or (depths 1 (one root)) (n - 1) 0

-- the n-th node of a document, from 1
abbrev pub node_at : Plain → ℕ → Plain
node_at root n = slice_index_or (nodes_of (one root)) (n - 1) root
