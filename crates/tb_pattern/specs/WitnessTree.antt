-- The tree that a witness prints as.
use Rattle.std.specs.Prelude.{ℕ, Bool, true, false, List, [], ◌∷◌, ◌++◌, codes}
use Rattle.tb_tree.specs.Plain.{Plain, elem, attr, text, Plains, no_kids, kid, joined_kids}
use Rattle.tb_pattern.specs.Plain.{PlainPattern, matching, PlainEdges, no_edges, edge}
use Rattle.tb_pattern.specs.Witness.{Witness, witness, Offers, no_offers, offer, Witnesses, no_witnesses, then_witness}

-- the kids behind a text, which joins with a text that they begin with, and vanishes where it is
-- empty
abbrev pub behind_text : List ℕ → Plains → Plains
behind_text value (kid (text more) rest) = kid (text (value ++ more)) rest
behind_text [] rest = rest
behind_text (b ∷ bs) rest = kid (text (b ∷ bs)) rest

-- Texts side by side join, and an empty text vanishes.
abbrev pub texts_joined : Plains → Plains
texts_joined no_kids = no_kids
texts_joined (kid (text value) rest) = behind_text value (texts_joined rest)
texts_joined (kid (elem name kids) rest) = kid (elem name kids) (texts_joined rest)
texts_joined (kid (attr name value) rest) = kid (attr name value) (texts_joined rest)

-- What a node brings by itself: its attributes and kids, whole, where it is marked `!`.
abbrev pub own : Bool → Plain → Plains
own false node = no_kids
own true (elem name kids) = kids
own true (attr name value) = kid (text value) no_kids
own true (text value) = no_kids

-- The tree of a matched node, with the trees of its offers inside. An element keeps its name, and
-- an attribute becomes an element named `@` and its name. A text stays a text.
abbrev pub shown : Bool → Plain → Plains → Plain
shown whole (elem name kids) inside =
    elem name (texts_joined (joined_kids (own whole (elem name kids)) inside))
shown whole (attr name value) inside =
    elem (64 ∷ name) (texts_joined (joined_kids (own whole (attr name value)) inside))
shown whole (text value) inside = text value

abbrev mutual
  pub tree_of : PlainPattern → Witness → Plain
  tree_of (matching test conds whole edges) (witness number node given) =
      shown whole node (trees_of edges given)

  -- edge after edge, the trees of the offered witnesses
  pub trees_of : PlainEdges → Offers → Plains
  trees_of (edge axis mark below edges) (offer ws others) =
      joined_kids (trees_of_all below ws) (trees_of edges others)
  trees_of (edge axis mark below edges) no_offers = no_kids
  trees_of no_edges _ = no_kids

  pub trees_of_all : PlainPattern → Witnesses → Plains
  trees_of_all below no_witnesses = no_kids
  trees_of_all below (then_witness w ws) = kid (tree_of below w) (trees_of_all below ws)

-- The document node prints as an element `witness`.
abbrev pub witness_tree : PlainEdges → Offers → Plain
witness_tree edges offers = elem (codes "witness") (texts_joined (trees_of edges offers))
