-- A document's nodes as plain data: what a node is, apart from where it lies in memory.
use Rattle.std.specs.Prelude.{ℕ, Bool, true, false, List, [], ◌∷◌}

mutual
  -- an element with its name and kids, an attribute with its name and value, or a text
  pub data Plain : Type 0 where
    elem : List ℕ → Plains → Plain
    attr : List ℕ → List ℕ → Plain
    text : List ℕ → Plain

  -- nodes next to each other, in document order
  pub data Plains : Type 0 where
    no_kids : Plains
    kid : Plain → Plains → Plains

-- nodes given as a list
abbrev pub plains : List Plain → Plains
plains [] = no_kids
plains (k ∷ ks) = kid k (plains ks)

-- one node alone
abbrev pub one : Plain → Plains
one node = kid node no_kids

-- the nodes as a list
abbrev pub kids_listed : Plains → List Plain
kids_listed no_kids = []
kids_listed (kid k rest) = k ∷ kids_listed rest

-- the first nodes, and behind them the others
abbrev pub joined_kids : Plains → Plains → Plains
joined_kids no_kids others = others
joined_kids (kid k rest) others = kid k (joined_kids rest others)

-- what stands directly in a node
abbrev pub kids_of : Plain → Plains
kids_of (elem name kids) = kids
kids_of (attr name value) = no_kids
kids_of (text value) = no_kids

-- an element, no attribute and no text
abbrev pub is_element : Plain → Bool
is_element (elem name kids) = true
is_element (attr name value) = false
is_element (text value) = false
