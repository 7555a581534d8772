-- The number of a node: the document node has 0, and the others count on in document order.
use Rattle.std.specs.Prelude.{ℕ, ◌+◌, List, [], ◌∷◌, ◌++◌}
use Rattle.tb_tree.specs.Plain.{Plain, elem, attr, text, Plains, no_kids, kid}

-- how many nodes these are, with all that is below them
abbrev pub counts : Plains → ℕ
counts no_kids = 0
counts (kid (elem name kids) rest) = 1 + counts kids + counts rest
counts (kid (attr name value) rest) = 1 + counts rest
counts (kid (text value) rest) = 1 + counts rest

-- a node, and what is below it
abbrev pub count : Plain → ℕ
count node = counts (kid node no_kids)

-- a node with its number
pub record Numbered : Type 0 where
  pub number : ℕ
  pub node : Plain

-- the nodes alone, the first of which has the number n
abbrev pub kids_numbered : ℕ → Plains → List Numbered
kids_numbered n no_kids = []
kids_numbered n (kid node rest) = record { number = n; node = node } ∷ kids_numbered (n + count node) rest

-- the nodes and all that is below them, in document order
abbrev pub all_numbered : ℕ → Plains → List Numbered
all_numbered n no_kids = []
all_numbered n (kid (elem name kids) rest) =
    record { number = n; node = elem name kids }
    ∷ (all_numbered (n + 1) kids ++ all_numbered (n + 1 + counts kids) rest)
all_numbered n (kid (attr name value) rest) =
    record { number = n; node = attr name value } ∷ all_numbered (n + 1) rest
all_numbered n (kid (text value) rest) =
    record { number = n; node = text value } ∷ all_numbered (n + 1) rest
